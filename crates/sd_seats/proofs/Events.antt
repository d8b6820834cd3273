-- An event that was read may be handed in, whatever the journal.
use Rattle.std.proofs.Common.{◌≡◌, Option, Some, subst}
use Rattle.std.specs.Prelude.{IfSome}
use Rattle.sd_rules.specs.declared.events.Event.{Event}
use Rattle.sd_rules.specs.Steps.{Daemon}
use Rattle.sd_desk.specs.Steps.{MayStep}

pub may_by : (found : Option Event) (event : Event) (seen : Daemon) → IfSome found (λ (e : Event). (d : Daemon) → MayStep d e) → found ≡ Some event → MayStep seen event
may_by found event seen may is = subst (λ (o : Option Event). IfSome o (λ (e : Event). (d : Daemon) → MayStep d e)) is may seen
