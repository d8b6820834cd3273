use Rattle.std.proofs.Common.{refl}
use Rattle.sd_rules.proofs.ReachingLaws.{reaches_self, reaches_through}
use Rattle.sd_desk.specs.Desks.{front}
use Rattle.sd_session.proofs.Sharing.{may_later, later_made}
use Rattle.sd_session.proofs.OverLaws.{over_found, over_on, over_refused}
use Rattle.sd_session.proofs.seated.step_after_forget.Goals as goal

pub step-requires-clause-may : goal.step-requires-clause-may
step-requires-clause-may g c = may_later _ _ c.args.refused.event c.forget.ensures.reaches c.requires.may

pub returns-clause-reaches : goal.returns-clause-reaches
returns-clause-reaches g c = reaches_through _ _ _ c.forget.ensures.reaches c.step.ensures.reaches

pub returns-clause-made : goal.returns-clause-made
returns-clause-made g c = later_made _ _ _ _ _ _ c.args.now c.args.refused.event c.args.refused.event c.step.result c.forget.ensures.reaches c.forget.ensures.mine refl c.step.ensures.made

pub returns-then-is_err-clause-over : goal.returns-then-is_err-clause-over
returns-then-is_err-clause-over g c =
    let old = front c.args.desk.now c.args.seat.now in
    over_on old old (front c.args.desk.now c.forget.new.seat) c.args.refused.event c.forget.ensures.reaches (over_found old old c.args.refused.event (reaches_self old) c.requires.closing)

pub returns-clause-over : goal.returns-clause-over
returns-clause-over g c =
    over_refused (front c.args.desk.now c.args.seat.now) (front c.args.desk.now c.step.new.seat) c.args.refused.event c.step.result (reaches_through _ _ _ c.forget.ensures.reaches c.step.ensures.reaches) c.step.ensures.closing
