use Rattle.std.proofs.Common.{sym, subst}
use Rattle.sd_world.specs.Clients.{Client}
use Rattle.sd_world.specs.Past.{IsKnown}
use Rattle.sd_world.proofs.ReplyLaws.{fetched_known}
use Rattle.sd_world.proofs.moves.settle_by.Goals as goal

pub returns-in-Fetch-clause-known : goal.returns-in-Fetch-clause-known
returns-in-Fetch-clause-known c = λ e known.
    subst (λ (d : Client). IsKnown e d.task) (sym c.fetched.ensures) (fetched_known e c.args.client.now.task c.in_ok-fetched-in-Fetch.fetched known)
