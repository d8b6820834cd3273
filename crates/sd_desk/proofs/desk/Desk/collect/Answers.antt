use Rattle.std.proofs.Common.{rules, ◌≡◌, ℕ, List, sym, ap, subst, ◌∙◌}
use Rattle.sd_rules.specs.declared.events.Event.TheVariants.{Collect}
use Rattle.sd_rules.specs.declared.replies.Entry.{Entry}
use Rattle.sd_rules.specs.Steps.{Daemon}
use Rattle.sd_rules.specs.Reaching.{Reaches}
use Rattle.sd_rules.specs.Requests.{waits_for}
use Rattle.sd_core.specs.declared.cores.Look.TheVariants.{Running}
use Rattle.sd_core.specs.Looks.{look_of}
use Rattle.sd_desk.specs.declared.shared.SharedCore.{SharedCore}
use Rattle.sd_desk.specs.Desks.{front, mine, found}
use Rattle.sd_desk.specs.Steps.{MadeOver, WasFull, IsPending}
use Rattle.sd_desk.proofs.Made.{pending_runs, runs_pending, full_waits_not, full_was}
use Rattle.sd_desk.specs.Holding.{MayGive}
use Rattle.sd_desk.proofs.Giving.{may_give}
use Rattle.sd_desk.proofs.desk.Desk.collect.Goals as goal

pub give-requires : goal.give-requires
give-requires c =
    let same : c.value.result.now.core.value ≡ c.in-Ok.held.value.core.value = ap (λ (v : SharedCore). v.core.value) c.value.ensures.value in
    subst (MayGive c.args.self.now c.try_take.new.seat) (sym same) (may_give c.args.self.now c.try_take.new.seat c.in-Ok.held.value.core.value c.in-Ok.ensures.holds)

pub returns-in-Running-clause-pending : goal.returns-in-Running-clause-pending
returns-in-Running-clause-pending c = λ request is.
    let same : c.in-Running.request ≡ request = cc in
    let at : front c.args.self.now c.give.new.seat ≡ c.value.result.now.core.value = search rules in
    let looked : look_of c.value.result.now.core.value.past c.args.ticket ≡ Running request = sym c.look.ensures ∙ c.in-Running.is ∙ ap Running same in
    let won : found c.give.new.seat ≡ 0 = search rules in
    (won, subst (λ (d : Daemon). IsPending d.past c.args.ticket request) (sym at) (runs_pending c.value.result.now.core.value.past c.args.ticket request looked))

pub returns-in-Ok-step_held-clause-made : goal.returns-in-Ok-step_held-clause-made
returns-in-Ok-step_held-clause-made c =
    let same : c.value.result.now.core.value ≡ c.in-Ok.held.value.core.value = ap (λ (v : SharedCore). v.core.value) c.value.ensures.value in
    let reached = subst (λ (f : Daemon). Reaches f c.in-Ok.held.value.core.value) c.in-Ok.ensures.front c.in-Ok.ensures.holds.reached in
    record {
      before = c.value.result.now.core.value;
      reached = subst (λ (d : Daemon). Reaches (front c.args.self.now c.args.seat.now) d) (sym same) reached;
      made = subst (λ (es : List Entry). MadeOver c.value.result.now.core.value (front c.args.self.now c.step_held.new.seat) es (mine c.step_held.new.seat) c.args.now (Collect c.args.ticket) c.in-Ok-step_held.given)
          c.in-Ok.ensures.mine c.in-Ok-step_held.ensures.made;
      ready = λ r p. c.in_default-look.not-Running r (c.look.ensures ∙ pending_runs c.value.result.now.core.value.past c.args.ticket r p);
    }

pub returns-in-Err-clause-full : goal.returns-in-Err-clause-full
returns-in-Err-clause-full c n is =
    let full : WasFull c.value.result.now.core.value (Collect c.args.ticket) n = c.in-Err.ensures.full n (full_was c.in-Err.refused.fault n (sym c.from.ensures ∙ is)) in
    let none : waits_for c.value.result.now.core.value.past c.args.ticket ≡ _ = full_waits_not c.value.result.now.core.value c.args.ticket n full
    (λ r runs. c.in_default-look.not-Running r (c.look.ensures ∙ runs)) in
    let won : found c.step_held.new.seat ≡ 0 = search rules in (
      won,
      subst (λ (d : Daemon). WasFull d (Collect c.args.ticket) n) (sym c.in-Err.ensures.front) full,
      ap (λ (d : Daemon). waits_for d.past c.args.ticket) c.in-Err.ensures.front ∙ none,
    )

pub returns-in-Err-clause-pending_only : goal.returns-in-Err-clause-pending_only
returns-in-Err-clause-pending_only c won r p =
    let at : front c.args.self.now c.step_held.new.seat ≡ c.value.result.now.core.value = c.in-Err.ensures.front in
    let q = subst (λ (d : Daemon). IsPending d.past c.args.ticket r) at p in
    absurd (c.in_default-look.not-Running r (c.look.ensures ∙ pending_runs c.value.result.now.core.value.past c.args.ticket r q))
