use Rattle.std.proofs.Common.{◌≡◌, ℕ, List, sym, subst}
use Rattle.std.specs.Prelude.{OnOk}
use Rattle.sd_world.specs.Clients.{Client}
use Rattle.sd_world.specs.Tasks.{settled}
use Rattle.sd_world.proofs.SettledLaws.{settled_if}
use Rattle.sd_world.proofs.moves.settle_twice.Goals as goal

pub returns-clause-known : goal.returns-clause-known
returns-clause-known c = λ past known. c.settle-2.ensures.known past (c.settle.ensures.known past known)

pub returns-clause-settled : goal.returns-clause-settled
returns-clause-settled c =
    settled_if c.args.site.now c.args.number c.args.client.now c.settle-2.new.client c.args.out.now.items c.settle-2.new.out.items c.settle-2.result
    (subst (λ (p : Client × List ℕ). OnOk c.settle-2.result (settled c.args.site.now c.args.number p ≡ (c.settle-2.new.client, c.settle-2.new.out.items)))
    (sym c.in_ok-settle.ensures.done) c.settle-2.ensures.done)
