use Rattle.sd_seats.proofs.Events.{may_by}
use Rattle.sd_seats.proofs.rows.try_step.Goals as goal

pub try_step-requires-clause-may : goal.try_step-requires-clause-may
try_step-requires-clause-may c = may_by _ _ _ c.in_ok-event.ensures c.in-Some.is
