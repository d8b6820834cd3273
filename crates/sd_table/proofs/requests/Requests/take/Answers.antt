use Rattle.std.proofs.Common.{◌≡◌, ◌∙◌, ap, sym, cond, None, Some, is_some, is_none}
use Rattle.std.specs.BTreeMap.{get}
use Rattle.std.specs.Ordering.{nat_cmp}
use Rattle.sd_table.specs.Table as table
use Rattle.sd_table.proofs.Keeping.{outcome_for-seen, none_to_take}
use Rattle.sd_table.proofs.requests.Requests.take.Goals as goal

pub returns-in_err-outcome-clause-outcome : goal.returns-in_err-outcome-clause-outcome
returns-in_err-outcome-clause-outcome c =
    c.from_residual.ensures ∙ sym (c.in_err-outcome.was {u = tt}) ∙ c.outcome_of.ensures
    ∙ sym (outcome_for-seen c.self.inside.keys.entries c.self.inside.tickets.entries (get nat_cmp c.self.inside.waited) c.args.ticket)
    ∙ ap (λ t. table.outcome_for t c.args.ticket) c.self.view_is

pub returns-in_err-outcome-clause-none : goal.returns-in_err-outcome-clause-none
returns-in_err-outcome-clause-none c =
    ap is_none (c.from_residual.ensures ∙ sym (c.in_err-outcome.was {u = tt}) ∙ c.outcome_of.ensures
    ∙ sym (outcome_for-seen c.self.inside.keys.entries c.self.inside.tickets.entries (get nat_cmp c.self.inside.waited) c.args.ticket))
    ∙ none_to_take c.self.invariant c.args.ticket ∙ ap (λ t. table.has_none_to_take t c.args.ticket) c.self.view_is

pub returns-in_err-outcome-clause-table : goal.returns-in_err-outcome-clause-table
returns-in_err-outcome-clause-table c =
    let none : None ≡ table.outcome_for c.args.self.now c.args.ticket =
    sym (c.in_err-outcome.was {u = tt}) ∙ c.outcome_of.ensures
    ∙ sym (outcome_for-seen c.self.inside.keys.entries c.self.inside.tickets.entries (get nat_cmp c.self.inside.waited) c.args.ticket)
    ∙ ap (λ t. table.outcome_for t c.args.ticket) c.self.view_is in
    ap (λ o. cond (is_some o) (table.without_ticket c.args.ticket c.args.self.now) c.args.self.now) none

pub returns-clause-outcome : goal.returns-clause-outcome
returns-clause-outcome c =
    c.in_ok-outcome.ensures ∙ sym (outcome_for-seen c.self.inside.keys.entries c.self.inside.tickets.entries (get nat_cmp c.self.inside.waited) c.args.ticket)
    ∙ ap (λ t. table.outcome_for t c.args.ticket) c.self.view_is

pub returns-clause-none : goal.returns-clause-none
returns-clause-none c =
    ap is_none (c.in_ok-outcome.ensures ∙ sym (outcome_for-seen c.self.inside.keys.entries c.self.inside.tickets.entries (get nat_cmp c.self.inside.waited) c.args.ticket))
    ∙ none_to_take c.self.invariant c.args.ticket ∙ ap (λ t. table.has_none_to_take t c.args.ticket) c.self.view_is

pub returns-clause-table : goal.returns-clause-table
returns-clause-table c =
    let some : Some c.in_ok-outcome.outcome ≡ table.outcome_for c.args.self.now c.args.ticket =
    c.in_ok-outcome.ensures ∙ sym (outcome_for-seen c.self.inside.keys.entries c.self.inside.tickets.entries (get nat_cmp c.self.inside.waited) c.args.ticket)
    ∙ ap (λ t. table.outcome_for t c.args.ticket) c.self.view_is in
    c.leave.ensures.table ∙ ap (λ o. cond (is_some o) (table.without_ticket c.args.ticket c.args.self.now) c.args.self.now) some
