use Rattle.std.proofs.Common.{subst}
use Rattle.sd_rules.specs.Steps.{Daemon}
use Rattle.sd_rules.specs.Reaching.{Reaches}
use Rattle.sd_desk.specs.Desks.{front, mine}
use Rattle.sd_desk.proofs.Reached.{may_step}
use Rattle.sd_desk.proofs.Made.{made_entry}
use Rattle.sd_desk.proofs.desk.Desk.step.Goals as goal

pub step_held-requires-clause-may : goal.step_held-requires-clause-may
step_held-requires-clause-may g c =
    may_step (front c.args.self.now c.args.seat.now) c.take-held.result.value.core.value c.args.event c.requires.may
    (subst (λ (f : Daemon). Reaches f c.take-held.result.value.core.value) c.take-held.ensures.front c.take-held.ensures.holds.reached)

pub returns-clause-made : goal.returns-clause-made
returns-clause-made g c =
    made_entry (front c.args.self.now c.args.seat.now) c.take-held.result.value.core.value (front c.args.self.now c.step_held.new.seat)
    (mine c.args.seat.now) (mine c.take-held.new.seat) (mine c.step_held.new.seat) c.args.now c.args.event c.step_held.result
    (subst (λ (f : Daemon). Reaches f c.take-held.result.value.core.value) c.take-held.ensures.front c.take-held.ensures.holds.reached)
    c.take-held.ensures.mine c.step_held.ensures.made
