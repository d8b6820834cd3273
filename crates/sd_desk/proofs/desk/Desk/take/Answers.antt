use Rattle.sd_desk.proofs.Giving.{holds_taken}
use Rattle.sd_desk.proofs.desk.Desk.take.Goals as goal

pub returns-clause-holds : goal.returns-clause-holds
returns-clause-holds g c =
    holds_taken c.args.self.now c.args.seat.now _ c.take.result.value.core.value c.take.ensures.own c.take.ensures.taken c.take.ensures.setting c.take.ensures.front c.take.ensures.follows
    c.take.ensures.fits
