use Rattle.sd_session.proofs.GivingUp.{withdraws_both}
use Rattle.sd_rules.proofs.ReachingLaws.{reaches_through}
use Rattle.sd_session.proofs.OverLaws.{gives_up_all}
use Rattle.sd_session.proofs.leaving.leave_desk.Goals as goal

pub returns-clause-withdraws : goal.returns-clause-withdraws
returns-clause-withdraws g c = withdraws_both _ _ _ _ _ _ _ _ _ c.abandon_all.ensures.withdraws c.leave.ensures.withdraws

pub returns-clause-gives_up : goal.returns-clause-gives_up
returns-clause-gives_up g c =
    gives_up_all _ _ _ c.args.leads.now c.args.ticket c.abandon_all.ensures.reaches c.leave.ensures.reaches (reaches_through _ _ _ c.abandon_all.ensures.reaches c.leave.ensures.reaches) c.abandon_all.ensures.abandoned c.leave.ensures.left
