use Rattle.std.proofs.Common.{sym, subst}
use Rattle.sd_rules.specs.declared.events.Event.{Event}
use Rattle.sd_rules.proofs.ReachingLaws.{reaches_through}
use Rattle.sd_desk.specs.Desks.{front}
use Rattle.sd_desk.specs.Steps.{MayStep}
use Rattle.sd_session.proofs.Sharing.{may_later, later_made, later_full}
use Rattle.sd_session.proofs.OverLaws.{over_earlier}
use Rattle.sd_session.proofs.seated.step_with_room.Goals as goal

pub step_after_forget-requires-clause-may : goal.step_after_forget-requires-clause-may
step_after_forget-requires-clause-may g c =
    subst (λ (x : Event). MayStep (front c.args.desk.now c.step.new.seat) x) (sym c.in-Err.ensures.back) (may_later (front c.args.desk.now c.args.seat.now) (front c.args.desk.now c.step.new.seat) c.args.event c.step.ensures.reaches c.requires.may)

pub returns-in-Err-clause-reaches : goal.returns-in-Err-clause-reaches
returns-in-Err-clause-reaches g c = reaches_through _ _ _ c.step.ensures.reaches c.step_after_forget.ensures.reaches

pub returns-in-Err-clause-made : goal.returns-in-Err-clause-made
returns-in-Err-clause-made g c = later_made _ _ _ _ _ _ c.args.now c.args.event c.in-Err.refused.event c.step_after_forget.result c.step.ensures.reaches c.in-Err.ensures.mine c.in-Err.ensures.back c.step_after_forget.ensures.made

pub returns-in-Err-clause-full : goal.returns-in-Err-clause-full
returns-in-Err-clause-full g c = later_full _ _ _ c.args.event c.in-Err.refused.event c.step_after_forget.result c.step.ensures.reaches c.in-Err.ensures.back c.step_after_forget.ensures.full

pub returns-in-Err-clause-over : goal.returns-in-Err-clause-over
returns-in-Err-clause-over g c =
    over_earlier (front c.args.desk.now c.args.seat.now) (front c.args.desk.now c.step.new.seat) (front c.args.desk.now c.step_after_forget.new.seat) c.args.event c.in-Err.refused.event c.step_after_forget.result c.step.ensures.reaches c.in-Err.ensures.back
    c.step_after_forget.ensures.over
