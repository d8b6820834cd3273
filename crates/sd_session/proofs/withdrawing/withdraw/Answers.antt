use Rattle.sd_session.proofs.GivingUp.{withdraws_both}
use Rattle.sd_rules.proofs.ReachingLaws.{reaches_through}
use Rattle.sd_session.proofs.OverLaws.{gives_up_all}
use Rattle.sd_session.proofs.withdrawing.withdraw.Goals as goal

pub returns-clause-withdraws : goal.returns-clause-withdraws
returns-clause-withdraws g c = withdraws_both _ _ _ _ _ _ _ _ _ c.abandon_all.ensures.withdraws c.leave.ensures.withdraws

pub returns-clause-grown : goal.returns-clause-grown
returns-clause-grown g c = λ opened h. c.leave.ensures.grown opened (c.abandon_all.ensures.grown opened h)

pub returns-clause-gives_up : goal.returns-clause-gives_up
returns-clause-gives_up g c =
    gives_up_all _ _ _ c.args.leads.now c.args.ticket c.abandon_all.ensures.reaches c.leave.ensures.reaches (reaches_through _ _ _ c.abandon_all.ensures.reaches c.leave.ensures.reaches) c.abandon_all.ensures.abandoned c.leave.ensures.left
