use Rattle.sd_session.specs.Desks.{at_desk}
use Rattle.sd_session.proofs.GivingUp.{one_try}
use Rattle.sd_session.proofs.OverLaws.{over_tried}
use Rattle.sd_session.proofs.Sharing.{gives_no_collect, far_at_desk, withdraws_reach}
use Rattle.sd_session.proofs.leaving.try_step.Goals as goal

pub step-requires-clause-collects : goal.step-requires-clause-collects
step-requires-clause-collects g c = gives_no_collect _ c.args.event c.requires.gives_up

pub returns-clause-withdraws : goal.returns-clause-withdraws
returns-clause-withdraws g c = one_try at_desk _ _ _ _ _ c.step.result c.requires.gives_up c.step.ensures.made c.step.ensures.refused

pub returns-clause-reaches : goal.returns-clause-reaches
returns-clause-reaches g c = withdraws_reach at_desk far_at_desk _ _ _ _ _ (one_try at_desk _ _ _ _ _ c.step.result c.requires.gives_up c.step.ensures.made c.step.ensures.refused)

pub returns-clause-over : goal.returns-clause-over
returns-clause-over g c = over_tried at_desk _ _ c.args.event c.step.result _ _ far_at_desk c.step.ensures.made c.step.ensures.over
