use Rattle.std.proofs.Common.{subst}
use Rattle.sd_rules.specs.Reaching.{Reaches}
use Rattle.sd_rules.specs.Steps.{Daemon}
use Rattle.sd_forgetting.specs.Kept.{Keeps}
use Rattle.sd_core.specs.Growth.{KeepsPart}
use Rattle.sd_core.proofs.ForgetLaws.{kept_if_forgotten, shown_if_forgotten, reached_if_forgotten}
use Rattle.sd_core.proofs.PartLaws.{part_if_forgotten}
use Rattle.sd_core.proofs.daemon.Core.forget.Goals as goal

pub invariant_of-self : goal.invariant_of-self
invariant_of-self c = kept_if_forgotten c.self.inside.indexed c.forget.new.self c.forget.result c.forget.ensures.forgotten c.forget.ensures.unchanged c.self.invariant

pub returns-clause-shown : goal.returns-clause-shown
returns-clause-shown c =
    subst (λ (d : Daemon). Keeps d c.forget.new.self) c.self.view_is
    (shown_if_forgotten c.self.inside.indexed c.forget.new.self c.forget.result c.forget.ensures.forgotten c.forget.ensures.unchanged c.self.invariant)

pub returns-clause-kept : goal.returns-clause-kept
returns-clause-kept c = kept_if_forgotten c.self.inside.indexed c.forget.new.self c.forget.result c.forget.ensures.forgotten c.forget.ensures.unchanged c.self.invariant

pub returns-clause-reached : goal.returns-clause-reached
returns-clause-reached c =
    subst (λ (d : Daemon). Reaches d c.forget.new.self) c.self.view_is
    (reached_if_forgotten c.self.inside.indexed c.forget.new.self c.forget.result c.forget.ensures.forgotten c.forget.ensures.unchanged)

pub returns-clause-part : goal.returns-clause-part
returns-clause-part c =
    subst (λ (d : Daemon). KeepsPart d c.forget.new.self) c.self.view_is
    (λ (opened : Daemon). part_if_forgotten opened c.self.inside.indexed c.forget.new.self c.forget.result c.forget.ensures.forgotten c.forget.ensures.unchanged c.self.invariant)
