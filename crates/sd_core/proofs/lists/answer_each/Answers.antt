use Rattle.std.proofs.Common.{◌≡◌, ℕ, true, ◌<◌, ◌+◌, ◌∷◌, ◌++◌, [], length, get_or, List, sym, ap, ◌∙◌, drop, subst}
use Rattle.std.proofs.lemmas.List.{drop_more}
use Rattle.std.proofs.lemmas.Result.{err_from_is_err_and}
use Rattle.std.specs.Prelude.{Result, Err, IfErr}
use Rattle.sd_rules.specs.declared.events.Event.{Event}
use Rattle.sd_rules.specs.declared.replies.StepFault.TheVariants.{JournalFull}
use Rattle.sd_rules.specs.Steps.{Daemon, is_full, full_count}
use Rattle.sd_rules.specs.declared.replies.Given.{Given}
use Rattle.sd_core.specs.declared.lists.Step.{Step}
use Rattle.sd_core.specs.declared.lists.ListFault.{ListFault}
use Rattle.sd_core.specs.declared.lists.ListFault.TheVariants as faults
use Rattle.sd_core.specs.Lists.{after_all, all_given, LeadsTo, EndsEarly}
use Rattle.sd_core.proofs.ListLaws.{IsFront, next_steppable, next_after, next_given, next_front, front_leads, stops_here}
use Rattle.sd_core.proofs.lists.answer_each.Goals as goal

pub loop-step-preserved : goal.loop-step-preserved
loop-step-preserved g c =
    let all : List Step = c.args.steps.now in
    let here : Step = c.step-item.result in
    let rest : List Step = drop (c.loop-step.step-index + 1) all in
    let d : Daemon = g.C.Answers.daemon c.loop-step.core in
    let e : Daemon = g.C.Answers.daemon c.answer.new.self in
    let within = subst (λ (ss : List Step). c.loop-step.step-index < length ss) c.items-step-items.ensures c.loop-step-test.true in
    let at = subst (λ (ss : List Step). here ≡ get_or ss c.loop-step.step-index here) c.items-step-items.ensures c.step-item.is in
    let cut : drop c.loop-step.step-index all ≡ here ∷ rest = drop_more all c.loop-step.step-index here within ∙ ap (λ (s : Step). s ∷ rest) (sym at) in
    let first : Daemon = g.C.Answers.daemon c.args.core.now in
    record {
      steppable = next_steppable d e here (drop c.loop-step.step-index all) rest c.in_ok-copy.field-0 cut c.in_ok-copy.ensures c.in-Ok.ensures.made c.loop-step.invariant.steppable;
      made = next_after d e here (drop c.loop-step.step-index all) rest c.in_ok-copy.field-0 cut c.in_ok-copy.ensures c.in-Ok.ensures.made (after_all first all) c.loop-step.invariant.made;
      given =
          subst (λ (gs : List Given). gs ++ all_given e rest ≡ all_given first all) (sym c.in_ok-push-in-Ok.ensures.ok)
          (next_given d e here (drop c.loop-step.step-index all) rest c.in_ok-copy.field-0 cut c.in_ok-copy.ensures c.in-Ok.ensures.made
          c.in-Ok.answer c.loop-step.given (all_given first all) c.in-Ok.ensures.given c.loop-step.invariant.given);
      front =
          subst (λ (gs : List Given). IsFront first e all rest gs) (sym c.in_ok-push-in-Ok.ensures.ok)
          (next_front d e here (drop c.loop-step.step-index all) rest c.in_ok-copy.field-0 cut c.in_ok-copy.ensures c.in-Ok.ensures.made
          first all c.in-Ok.answer c.loop-step.given c.in-Ok.ensures.given c.in-Ok.ensures.room c.loop-step.invariant.front);
    }

ended : (d e : Daemon) (steps : List Step) (r : Result (List Given) ListFault) (fault : ListFault) → r ≡ Err fault → fault ≡ faults.Memory → LeadsTo d e steps →
    IfErr r (EndsEarly d e steps)
ended d e steps r fault is same leads =
    let here : EndsEarly d e steps fault = subst (EndsEarly d e steps) (sym same) leads in
    subst (λ (x : Result (List Given) ListFault). IfErr x (EndsEarly d e steps)) (sym is) here

pub returns-in_err-copy-clause-early : goal.returns-in_err-copy-clause-early
returns-in_err-copy-clause-early g c =
    let all : List Step = c.args.steps.now in
    let p = err_from_is_err_and c.from_residual.result c.from_residual.ensures.1 in
    ended (g.C.Answers.daemon c.args.core.now) (g.C.Answers.daemon c.loop-step.core) all c.from_residual.result p.0 p.1 p.2
    (front_leads (g.C.Answers.daemon c.args.core.now) (g.C.Answers.daemon c.loop-step.core) all (drop c.loop-step.step-index all) c.loop-step.given c.loop-step.invariant.front)

pub returns-in_err-push-in-Ok-clause-early : goal.returns-in_err-push-in-Ok-clause-early
returns-in_err-push-in-Ok-clause-early g c =
    let all : List Step = c.args.steps.now in
    let here : Step = c.step-item.result in
    let rest : List Step = drop (c.loop-step.step-index + 1) all in
    let d : Daemon = g.C.Answers.daemon c.loop-step.core in
    let e : Daemon = g.C.Answers.daemon c.answer.new.self in
    let within = subst (λ (ss : List Step). c.loop-step.step-index < length ss) c.items-step-items.ensures c.loop-step-test.true in
    let at = subst (λ (ss : List Step). here ≡ get_or ss c.loop-step.step-index here) c.items-step-items.ensures c.step-item.is in
    let cut : drop c.loop-step.step-index all ≡ here ∷ rest = drop_more all c.loop-step.step-index here within ∙ ap (λ (s : Step). s ∷ rest) (sym at) in
    let first : Daemon = g.C.Answers.daemon c.args.core.now in
    let p = err_from_is_err_and c.from_residual-in_err-push-in-Ok.result c.from_residual-in_err-push-in-Ok.ensures.1 in
    ended first e all c.from_residual-in_err-push-in-Ok.result p.0 p.1 p.2
    (front_leads first e all rest (c.loop-step.given ++ c.in-Ok.answer ∷ [])
    (next_front d e here (drop c.loop-step.step-index all) rest c.in_ok-copy.field-0 cut c.in_ok-copy.ensures c.in-Ok.ensures.made
    first all c.in-Ok.answer c.loop-step.given c.in-Ok.ensures.given c.in-Ok.ensures.room c.loop-step.invariant.front))

pub returns-in-Err-clause-early : goal.returns-in-Err-clause-early
returns-in-Err-clause-early g c =
    let all : List Step = c.args.steps.now in
    let here : Step = c.step-item.result in
    let rest : List Step = drop (c.loop-step.step-index + 1) all in
    let d : Daemon = g.C.Answers.daemon c.loop-step.core in
    let e : Daemon = g.C.Answers.daemon c.answer.new.self in
    let within = subst (λ (ss : List Step). c.loop-step.step-index < length ss) c.items-step-items.ensures c.loop-step-test.true in
    let at = subst (λ (ss : List Step). here ≡ get_or ss c.loop-step.step-index here) c.items-step-items.ensures c.step-item.is in
    let cut : drop c.loop-step.step-index all ≡ here ∷ rest = drop_more all c.loop-step.step-index here within ∙ ap (λ (s : Step). s ∷ rest) (sym at) in
    let first : Daemon = g.C.Answers.daemon c.args.core.now in
    let full =
    subst (λ (event : Event). (n : ℕ) → c.in-Err.refused.fault ≡ JournalFull n → (is_full d event ≡ true) × (n ≡ full_count d))
    c.in_ok-copy.ensures c.in-Err.ensures.full_only in
    stops_here first d e all (drop c.loop-step.step-index all) rest here c.loop-step.given c.in-Err.refused cut c.in-Err.ensures.unchanged
    (c.in-Err.ensures.back ∙ c.in_ok-copy.ensures) full c.loop-step.invariant.front
