use Rattle.std.proofs.Common.{◌≡◌, ◌∙◌, ap, ◌++◌, take, drop, length, arith}
use Rattle.std.proofs.lemmas.Grind.{common_steps}
use Rattle.sd_failover.specs.Falls as told
use Rattle.sd_failover.proofs.Counting.{has_fallen_under-after_online, has_fallen_lately-after_online}
use Rattle.sd_failover.proofs.servers.Servers.online.Goals as goal

pub returns-clause-under : goal.returns-clause-under
returns-clause-under c r s =
    let kept : take c.drop_closed.new.falls.len (c.mark_online.new.falls ++ drop (length c.mark_online.new.falls) c.drop_closed.new.falls.items) ≡ told.after_online c.args.self.now.falls = grind (arith, common_steps) in
    ap (λ falls. told.has_fallen_under falls r s) kept ∙ has_fallen_under-after_online c.args.self.now.falls r s

pub returns-clause-lately : goal.returns-clause-lately
returns-clause-lately c t s =
    let kept : take c.drop_closed.new.falls.len (c.mark_online.new.falls ++ drop (length c.mark_online.new.falls) c.drop_closed.new.falls.items) ≡ told.after_online c.args.self.now.falls = grind (arith, common_steps) in
    ap (λ falls. told.has_fallen_lately falls t s) kept ∙ has_fallen_lately-after_online c.args.self.now.falls t s
