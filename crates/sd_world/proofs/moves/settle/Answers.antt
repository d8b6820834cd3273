use Rattle.std.proofs.Common.{sym, subst}
use Rattle.sd_world.specs.Clients.{Client}
use Rattle.sd_world.specs.Past.{IsKnown}
use Rattle.sd_world.proofs.ReplyLaws.{told_known}
use Rattle.sd_world.proofs.moves.settle.Goals as goal

pub returns-clause-known : goal.returns-clause-known
returns-clause-known c = λ e known.
    c.settle_by.ensures.known e (subst (λ (d : Client). IsKnown e d.task) (sym c.in_ok-need.ensures.asked) (told_known e c.args.client.now.task known))
