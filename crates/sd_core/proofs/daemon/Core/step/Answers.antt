use Rattle.std.proofs.Common.{◌≡◌, true, sym, subst}
use Rattle.std.specs.Prelude.{IfOk, OnOk}
use Rattle.sd_rules.specs.Steps.{Daemon, is_steppable}
use Rattle.sd_rules.specs.Reaching.{Reaches}
use Rattle.sd_core.specs.Growth.{KeepsGrown, KeepsPart}
use Rattle.sd_core.specs.Laws.{FollowsLaws, KeepsOutcomes}
use Rattle.sd_core.proofs.GrowthLaws.{grown_either, reached_either}
use Rattle.sd_core.proofs.PartLaws.{part_either}
use Rattle.sd_core.proofs.KeptLaws.{kept_either, follows_if_made, outcomes_if_made}
use Rattle.sd_core.proofs.daemon.Core.step.Goals as goal

pub invariant_of-self : goal.invariant_of-self
invariant_of-self c =
    let steppable = subst (λ (d : Daemon). is_steppable d.past c.args.event ≡ true) (sym c.self.view_is) c.requires in
    kept_either c.self.inside.indexed c.step.new.self c.args.now c.args.event c.step.result c.step.ensures.made c.step.ensures.unchanged steppable c.self.invariant

pub returns-clause-laws : goal.returns-clause-laws
returns-clause-laws c =
    subst (λ (d : Daemon). IfOk c.step.result (FollowsLaws d c.args.now c.args.event)) c.self.view_is
    (follows_if_made c.self.inside.indexed c.args.now c.args.event c.step.result c.step.ensures.given c.self.invariant)

pub returns-clause-outcomes : goal.returns-clause-outcomes
returns-clause-outcomes c =
    subst (λ (d : Daemon). OnOk c.step.result (KeepsOutcomes d.past c.step.new.self.past)) c.self.view_is
    (outcomes_if_made c.self.inside.indexed c.step.new.self c.args.now c.args.event c.step.result c.step.ensures.made)

pub returns-clause-kept : goal.returns-clause-kept
returns-clause-kept c =
    let steppable = subst (λ (d : Daemon). is_steppable d.past c.args.event ≡ true) (sym c.self.view_is) c.requires in
    kept_either c.self.inside.indexed c.step.new.self c.args.now c.args.event c.step.result c.step.ensures.made c.step.ensures.unchanged steppable c.self.invariant

pub returns-clause-reached : goal.returns-clause-reached
returns-clause-reached c =
    let steppable = subst (λ (d : Daemon). is_steppable d.past c.args.event ≡ true) (sym c.self.view_is) c.requires in
    subst (λ (d : Daemon). Reaches d c.step.new.self) c.self.view_is
    (reached_either c.self.inside.indexed c.step.new.self c.args.now c.args.event c.step.result c.step.ensures.made c.step.ensures.unchanged steppable)

pub returns-clause-legal : goal.returns-clause-legal
returns-clause-legal c =
    subst (λ (d : Daemon). KeepsGrown d c.step.new.self) c.self.view_is
    (λ (opened : Daemon). grown_either opened c.self.inside.indexed c.step.new.self c.args.now c.args.event c.step.result c.step.ensures.made c.step.ensures.unchanged)

pub returns-clause-part : goal.returns-clause-part
returns-clause-part c =
    let steppable = subst (λ (d : Daemon). is_steppable d.past c.args.event ≡ true) (sym c.self.view_is) c.requires in
    subst (λ (d : Daemon). KeepsPart d c.step.new.self) c.self.view_is
    (λ (opened : Daemon). part_either opened c.self.inside.indexed c.step.new.self c.args.now c.args.event c.step.result c.step.ensures.made c.step.ensures.unchanged steppable c.self.invariant)
