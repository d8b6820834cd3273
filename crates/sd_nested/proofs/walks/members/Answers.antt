use Rattle.std.proofs.Common.{◌≡◌, ℕ, List, map, Some, None, Result, Err, sym, ap, ◌∙◌, subst}
use Rattle.std.proofs.lemmas.Result.{err_from_is_err_and}
use Rattle.sd_nested.specs.declared.searcher.Stop.{Stop}
use Rattle.sd_nested.specs.Searches.{entry_at}
use Rattle.sd_nested.specs.Asking.{ExchangedOver, stop_of}
use Rattle.sd_nested.specs.Rounds.{beginning, member_start, member_reads}
use Rattle.sd_nested.proofs.Found.{members_found, starts_so, reads_so, kept_so}
use Rattle.sd_nested.proofs.Turns.{starved_before, starved_after}
use Rattle.sd_nested.proofs.walks.members.Goals as goal

pub returns-in_err-first-clause-exchanged : goal.returns-in_err-first-clause-exchanged
returns-in_err-first-clause-exchanged g c =
    let p = err_from_is_err_and c.from_residual-in_err-first.result c.from_residual-in_err-first.ensures.1 in
    subst (λ (r : Result (List (List ℕ)) Stop). ExchangedOver g.S.Searcher.went c.args.searcher.now c.args.searcher.now (stop_of r) (g.S.Searcher.tells c.args.searcher.now) (λ told. map entry_at (member_reads told c.args.base.now c.args.level c.args.group.now)))
    (sym (p.1 ∙ ap (λ (s : Stop). Err s) p.2))
    (starved_before g.S.Searcher.went c.args.searcher.now (g.S.Searcher.tells c.args.searcher.now) (λ told. map entry_at (member_reads told c.args.base.now c.args.level c.args.group.now)))

pub returns-in_err-kept-clause-exchanged : goal.returns-in_err-kept-clause-exchanged
returns-in_err-kept-clause-exchanged g c =
    let p = err_from_is_err_and c.from_residual-in_err-kept.result c.from_residual-in_err-kept.ensures.1 in
    let start : beginning c.mark_values.new.seen c.in_ok-first.first ≡ member_start c.args.base.now c.args.group.now =
    starts_so c.in_ok-copy.field-0 c.args.base.now c.args.group.now c.in_ok-first.first c.new-seen.result c.mark_values.new.seen
    c.in_ok-copy.ensures c.new-seen.ensures c.in_ok-first.ensures.due c.in_ok-first.ensures.seen in
    let stopped : ExchangedOver g.S.Searcher.went c.args.searcher.now c.go_rounds.new.searcher (Some c.in_err-kept.field-0.0) (g.S.Searcher.tells c.args.searcher.now) (λ told. map entry_at (member_reads told c.args.base.now c.args.level c.args.group.now)) =
    reads_so g.S.Searcher.went c.args.searcher.now c.go_rounds.new.searcher (Some c.in_err-kept.field-0.0) (g.S.Searcher.tells c.args.searcher.now) (g.S.Searcher.base c.args.searcher.now) c.args.level
    c.in_ok-copy.field-0 c.args.base.now (beginning c.mark_values.new.seen c.in_ok-first.first) c.args.group.now c.in_ok-copy.ensures start c.in_err-kept.ensures.exchanged in
    subst (λ (r : Result (List (List ℕ)) Stop). ExchangedOver g.S.Searcher.went c.args.searcher.now c.go_rounds.new.searcher (stop_of r) (g.S.Searcher.tells c.args.searcher.now) (λ told. map entry_at (member_reads told c.args.base.now c.args.level c.args.group.now)))
    (sym (p.1 ∙ ap (λ (s : Stop). Err s) p.2)) stopped

pub returns-in_err-names-clause-exchanged : goal.returns-in_err-names-clause-exchanged
returns-in_err-names-clause-exchanged g c =
    let p = err_from_is_err_and c.from_residual-in_err-names.result c.from_residual-in_err-names.ensures.1 in
    let start : beginning c.mark_values.new.seen c.in_ok-first.first ≡ member_start c.args.base.now c.args.group.now =
    starts_so c.in_ok-copy.field-0 c.args.base.now c.args.group.now c.in_ok-first.first c.new-seen.result c.mark_values.new.seen
    c.in_ok-copy.ensures c.new-seen.ensures c.in_ok-first.ensures.due c.in_ok-first.ensures.seen in
    let asked : ExchangedOver g.S.Searcher.went c.args.searcher.now c.go_rounds.new.searcher None (g.S.Searcher.tells c.args.searcher.now) (λ told. map entry_at (member_reads told c.args.base.now c.args.level c.args.group.now)) =
    reads_so g.S.Searcher.went c.args.searcher.now c.go_rounds.new.searcher None (g.S.Searcher.tells c.args.searcher.now) (g.S.Searcher.base c.args.searcher.now) c.args.level
    c.in_ok-copy.field-0 c.args.base.now (beginning c.mark_values.new.seen c.in_ok-first.first) c.args.group.now c.in_ok-copy.ensures start c.in_ok-kept.ensures.exchanged in
    subst (λ (r : Result (List (List ℕ)) Stop). ExchangedOver g.S.Searcher.went c.args.searcher.now c.go_rounds.new.searcher (stop_of r) (g.S.Searcher.tells c.args.searcher.now) (λ told. map entry_at (member_reads told c.args.base.now c.args.level c.args.group.now)))
    (sym (p.1 ∙ ap (λ (s : Stop). Err s) p.2))
    (starved_after g.S.Searcher.went c.args.searcher.now c.go_rounds.new.searcher (g.S.Searcher.tells c.args.searcher.now) (λ told. map entry_at (member_reads told c.args.base.now c.args.level c.args.group.now)) asked)

pub returns-clause-exchanged : goal.returns-clause-exchanged
returns-clause-exchanged g c =
    let start : beginning c.mark_values.new.seen c.in_ok-first.first ≡ member_start c.args.base.now c.args.group.now =
    starts_so c.in_ok-copy.field-0 c.args.base.now c.args.group.now c.in_ok-first.first c.new-seen.result c.mark_values.new.seen
    c.in_ok-copy.ensures c.new-seen.ensures c.in_ok-first.ensures.due c.in_ok-first.ensures.seen in
    reads_so g.S.Searcher.went c.args.searcher.now c.go_rounds.new.searcher None (g.S.Searcher.tells c.args.searcher.now) (g.S.Searcher.base c.args.searcher.now) c.args.level
    c.in_ok-copy.field-0 c.args.base.now (beginning c.mark_values.new.seen c.in_ok-first.first) c.args.group.now c.in_ok-copy.ensures start c.in_ok-kept.ensures.exchanged

pub returns-clause-members : goal.returns-clause-members
returns-clause-members g c = λ told e.
    let start : beginning c.mark_values.new.seen c.in_ok-first.first ≡ member_start c.args.base.now c.args.group.now =
    starts_so c.in_ok-copy.field-0 c.args.base.now c.args.group.now c.in_ok-first.first c.new-seen.result c.mark_values.new.seen
    c.in_ok-copy.ensures c.new-seen.ensures c.in_ok-first.ensures.due c.in_ok-first.ensures.seen in
    members_found told c.args.base.now c.args.level c.args.group.now c.items.result.now c.in_ok-names.names
    (c.items.ensures ∙ kept_so told (g.S.Searcher.base c.args.searcher.now) c.args.level c.in_ok-copy.field-0 c.args.base.now (beginning c.mark_values.new.seen c.in_ok-first.first) c.args.group.now c.in_ok-kept.kept
    c.in_ok-copy.ensures start (c.in_ok-kept.ensures.kept told e))
    c.in_ok-names.ensures
