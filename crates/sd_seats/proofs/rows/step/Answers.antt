use Rattle.sd_seats.proofs.Events.{may_by}
use Rattle.sd_seats.proofs.rows.step.Goals as goal

pub step-requires-clause-may : goal.step-requires-clause-may
step-requires-clause-may g c = may_by _ _ _ c.in_ok-event.ensures c.in-Some.is
