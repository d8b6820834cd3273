use Rattle.std.proofs.Common.{subst}
use Rattle.sd_rules.specs.Steps.{Daemon}
use Rattle.sd_rules.specs.Reaching.{Reaches}
use Rattle.sd_desk.specs.Desks.{front, mine}
use Rattle.sd_desk.proofs.Reached.{may_step}
use Rattle.sd_desk.proofs.Made.{made_at}
use Rattle.sd_desk.proofs.desk.Desk.try_step.Goals as goal

pub step_held-requires-clause-may : goal.step_held-requires-clause-may
step_held-requires-clause-may c =
    may_step (front c.args.self.now c.args.seat.now) c.in-Ok.held.value.core.value c.args.event c.requires.may
    (subst (λ (f : Daemon). Reaches f c.in-Ok.held.value.core.value) c.in-Ok.ensures.front c.in-Ok.ensures.holds.reached)

pub returns-in-Ok-step_held-clause-made : goal.returns-in-Ok-step_held-clause-made
returns-in-Ok-step_held-clause-made c =
    made_at (front c.args.self.now c.args.seat.now) c.in-Ok.held.value.core.value (front c.args.self.now c.step_held.new.seat)
    (mine c.args.seat.now) (mine c.try_take.new.seat) (mine c.step_held.new.seat) c.args.now c.args.event c.in-Ok-step_held.given
    (subst (λ (f : Daemon). Reaches f c.in-Ok.held.value.core.value) c.in-Ok.ensures.front c.in-Ok.ensures.holds.reached)
    c.in-Ok.ensures.mine c.in-Ok-step_held.ensures.made
