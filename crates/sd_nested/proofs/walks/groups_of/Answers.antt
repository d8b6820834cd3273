use Rattle.std.proofs.Common.{◌≡◌, ℕ, suc, List, [], ◌∷◌, Some, None, Result, Err, sym, ap, ◌∙◌, subst}
use Rattle.std.proofs.lemmas.Result.{err_from_is_err_and}
use Rattle.std.specs.List.{flat_map}
use Rattle.sd_rules.specs.declared.records.GroupRef.{GroupRef}
use Rattle.sd_nested.specs.declared.searcher.Stop.{Stop}
use Rattle.sd_nested.specs.Asking.{ExchangedOver, stop_of}
use Rattle.sd_nested.specs.Named.{group_ref}
use Rattle.sd_nested.specs.Rounds.{Rounds, rounds, beginning, holder_way, holder_questions}
use Rattle.sd_nested.proofs.Found.{groups_found, holders_so, user_start}
use Rattle.sd_nested.proofs.Turns.{starved_before, starved_after}
use Rattle.sd_nested.proofs.walks.groups_of.Goals as goal

pub returns-in_err-copy-clause-exchanged : goal.returns-in_err-copy-clause-exchanged
returns-in_err-copy-clause-exchanged g c =
    let p = err_from_is_err_and c.from_residual.result c.from_residual.ensures.1 in
    subst (λ (r : Result (List GroupRef) Stop). ExchangedOver g.S.Searcher.went c.args.searcher.now c.args.searcher.now (stop_of r) (g.S.Searcher.tells c.args.searcher.now) (λ told. holder_questions told (g.S.Searcher.base c.args.searcher.now) c.args.level c.args.user.now.dn))
    (sym (p.1 ∙ ap (λ (s : Stop). Err s) p.2))
    (starved_before g.S.Searcher.went c.args.searcher.now (g.S.Searcher.tells c.args.searcher.now) (λ told. holder_questions told (g.S.Searcher.base c.args.searcher.now) c.args.level c.args.user.now.dn))

pub returns-in_err-push-clause-exchanged : goal.returns-in_err-push-clause-exchanged
returns-in_err-push-clause-exchanged g c =
    let p = err_from_is_err_and c.from_residual-in_err-push.result c.from_residual-in_err-push.ensures.1 in
    subst (λ (r : Result (List GroupRef) Stop). ExchangedOver g.S.Searcher.went c.args.searcher.now c.args.searcher.now (stop_of r) (g.S.Searcher.tells c.args.searcher.now) (λ told. holder_questions told (g.S.Searcher.base c.args.searcher.now) c.args.level c.args.user.now.dn))
    (sym (p.1 ∙ ap (λ (s : Stop). Err s) p.2))
    (starved_before g.S.Searcher.went c.args.searcher.now (g.S.Searcher.tells c.args.searcher.now) (λ told. holder_questions told (g.S.Searcher.base c.args.searcher.now) c.args.level c.args.user.now.dn))

pub returns-in_err-kept-clause-exchanged : goal.returns-in_err-kept-clause-exchanged
returns-in_err-kept-clause-exchanged g c =
    let p = err_from_is_err_and c.from_residual-in_err-kept.result c.from_residual-in_err-kept.ensures.1 in
    let start : beginning c.new-seen.result c.push.new.self ≡ beginning [] (c.args.user.now.dn ∷ []) =
    user_start c.new-seen.result c.new-first.result c.push.new.self c.in_ok-copy.field-0 c.args.user.now.dn c.new-seen.ensures c.new-first.ensures c.in_ok-push.ensures.ok c.in_ok-copy.ensures in
    subst (λ (r : Result (List GroupRef) Stop). ExchangedOver g.S.Searcher.went c.args.searcher.now c.go_rounds.new.searcher (stop_of r) (g.S.Searcher.tells c.args.searcher.now) (λ told. holder_questions told (g.S.Searcher.base c.args.searcher.now) c.args.level c.args.user.now.dn))
    (sym (p.1 ∙ ap (λ (s : Stop). Err s) p.2))
    (holders_so g.S.Searcher.went c.args.searcher.now c.go_rounds.new.searcher (Some c.in_err-kept.field-0.0) (g.S.Searcher.tells c.args.searcher.now) (g.S.Searcher.base c.args.searcher.now) c.args.level
    (beginning c.new-seen.result c.push.new.self) c.args.user.now.dn start c.in_err-kept.ensures.exchanged)

pub returns-in_err-groups-clause-exchanged : goal.returns-in_err-groups-clause-exchanged
returns-in_err-groups-clause-exchanged g c =
    let p = err_from_is_err_and c.from_residual-in_err-groups.result c.from_residual-in_err-groups.ensures.1 in
    let start : beginning c.new-seen.result c.push.new.self ≡ beginning [] (c.args.user.now.dn ∷ []) =
    user_start c.new-seen.result c.new-first.result c.push.new.self c.in_ok-copy.field-0 c.args.user.now.dn c.new-seen.ensures c.new-first.ensures c.in_ok-push.ensures.ok c.in_ok-copy.ensures in
    subst (λ (r : Result (List GroupRef) Stop). ExchangedOver g.S.Searcher.went c.args.searcher.now c.go_rounds.new.searcher (stop_of r) (g.S.Searcher.tells c.args.searcher.now) (λ told. holder_questions told (g.S.Searcher.base c.args.searcher.now) c.args.level c.args.user.now.dn))
    (sym (p.1 ∙ ap (λ (s : Stop). Err s) p.2))
    (starved_after g.S.Searcher.went c.args.searcher.now c.go_rounds.new.searcher (g.S.Searcher.tells c.args.searcher.now) (λ told. holder_questions told (g.S.Searcher.base c.args.searcher.now) c.args.level c.args.user.now.dn)
    (holders_so g.S.Searcher.went c.args.searcher.now c.go_rounds.new.searcher None (g.S.Searcher.tells c.args.searcher.now) (g.S.Searcher.base c.args.searcher.now) c.args.level
    (beginning c.new-seen.result c.push.new.self) c.args.user.now.dn start c.in_ok-kept.ensures.exchanged))

pub returns-clause-exchanged : goal.returns-clause-exchanged
returns-clause-exchanged g c =
    let start : beginning c.new-seen.result c.push.new.self ≡ beginning [] (c.args.user.now.dn ∷ []) =
    user_start c.new-seen.result c.new-first.result c.push.new.self c.in_ok-copy.field-0 c.args.user.now.dn c.new-seen.ensures c.new-first.ensures c.in_ok-push.ensures.ok c.in_ok-copy.ensures in
    holders_so g.S.Searcher.went c.args.searcher.now c.go_rounds.new.searcher None (g.S.Searcher.tells c.args.searcher.now) (g.S.Searcher.base c.args.searcher.now) c.args.level
    (beginning c.new-seen.result c.push.new.self) c.args.user.now.dn start c.in_ok-kept.ensures.exchanged

pub returns-clause-groups : goal.returns-clause-groups
returns-clause-groups g c = λ told e d.
    let base : List ℕ = g.S.Searcher.base c.args.searcher.now in
    let dn : List ℕ = c.args.user.now.dn in
    let start : beginning c.new-seen.result c.push.new.self ≡ beginning [] (dn ∷ []) =
    user_start c.new-seen.result c.new-first.result c.push.new.self c.in_ok-copy.field-0 dn c.new-seen.ensures c.new-first.ensures c.in_ok-push.ensures.ok c.in_ok-copy.ensures in
    groups_found told base c.args.level dn c.items.result.now c.in_ok-groups.groups d
    (c.items.ensures ∙ (c.in_ok-kept.ensures.kept told e ∙ ap (λ (r : Rounds). flat_map group_ref (rounds (holder_way told base) r (suc c.args.level)).found) start))
    c.in_ok-groups.ensures
