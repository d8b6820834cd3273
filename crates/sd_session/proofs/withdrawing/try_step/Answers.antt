use Rattle.sd_session.specs.Sessions.{alone}
use Rattle.sd_session.proofs.GivingUp.{one_try}
use Rattle.sd_session.proofs.OverLaws.{over_tried}
use Rattle.sd_session.proofs.Refusing.{stays_near}
use Rattle.sd_session.proofs.Sharing.{withdraws_reach}
use Rattle.sd_session.proofs.withdrawing.try_step.Goals as goal

pub returns-clause-withdraws : goal.returns-clause-withdraws
returns-clause-withdraws g c = one_try _ _ _ _ _ _ c.step.result c.requires.gives_up c.step.ensures.made c.step.ensures.refused

pub returns-clause-reaches : goal.returns-clause-reaches
returns-clause-reaches g c = withdraws_reach alone stays_near _ _ _ _ _ (one_try alone _ _ _ _ _ c.step.result c.requires.gives_up c.step.ensures.made c.step.ensures.refused)

pub returns-clause-over : goal.returns-clause-over
returns-clause-over g c = over_tried alone _ _ c.args.event c.step.result _ _ stays_near c.step.ensures.made c.step.ensures.over
