use Rattle.std.proofs.Common.{◌≡◌, ◌∙◌, ap, Some, false, refl, arith}
use Rattle.std.proofs.lemmas.Grind.{common_steps}
use Rattle.sd_failover.specs.declared.falls.Fall.{Fall}
use Rattle.sd_failover.specs.Falls as told
use Rattle.sd_failover.proofs.Counting.{has_fallen_under-with_fall, has_fallen_lately-with_fall}
use Rattle.sd_failover.proofs.servers.Servers.fell.Goals as goal

pub returns-clause-under : goal.returns-clause-under
returns-clause-under c r s =
    let fall : Fall = record { request = Some c.args.request; server = c.args.server; moment = c.args.moment; online_since = false } in
    let kept : c.push.new.self.items ≡ told.with_fall fall c.args.self.now.falls = grind (arith, common_steps) in
    ap (λ falls. told.has_fallen_under falls r s) kept ∙ has_fallen_under-with_fall fall c.args.self.now.falls r s

pub returns-clause-lately : goal.returns-clause-lately
returns-clause-lately c t s =
    let fall : Fall = record { request = Some c.args.request; server = c.args.server; moment = c.args.moment; online_since = false } in
    let kept : c.push.new.self.items ≡ told.with_fall fall c.args.self.now.falls = grind (arith, common_steps) in
    ap (λ falls. told.has_fallen_lately falls t s) kept ∙ has_fallen_lately-with_fall fall c.args.self.now.falls t s refl
