use Rattle.std.proofs.Common.{◌≡◌, ℕ, suc, ◌+◌, ◌≤◌, List, [], ◌++◌, map, Some, Result, sym, ap, ◌∙◌, subst, arith}
use Rattle.std.proofs.lemmas.Result.{err_from_is_err_and}
use Rattle.std.specs.List.{flat_map}
use Rattle.sd_ldap.specs.declared.entry.DirEntry.{DirEntry}
use Rattle.sd_rules.specs.declared.records.GroupRef.{GroupRef}
use Rattle.sd_nested.specs.declared.rounds.Direction.{Direction}
use Rattle.sd_nested.specs.declared.searcher.Stop.{Stop}
use Rattle.sd_nested.specs.Asking.{Exchanged, ExchangedOver, stop_of}
use Rattle.sd_dn.specs.declared.Pair.{Pair}
use Rattle.sd_nested.specs.Rounds.{Way, Rounds, rounds, beginning, new_among}
use Rattle.sd_nested.specs.Directions.{question_by, admits_by, leads_by, kept_by, way_by}
use Rattle.sd_nested.proofs.Turns.{went_on, stopped_in, ended, over, front, one_more, next_due, next_seen, next_kept}
use Rattle.sd_nested.proofs.rounds.go_rounds.Goals as goal

pub returns-then-is_empty-clause-exchanged : goal.returns-then-is_empty-clause-exchanged
returns-then-is_empty-clause-exchanged g c =
    let way = λ (told : List DirEntry). way_by told (g.S.Searcher.base c.args.searcher.now) c.args.direction.now in
    let start : Rounds = beginning c.args.seen c.args.first in
    let within : c.loop-round.round ≤ suc c.args.level = omega (arith, c.from-round-end.ensures) in
    let none : c.loop-round.due ≡ [] = c.is_empty.ensures.0 c.if-is_empty.true in
    ended g.S.Searcher.went c.args.searcher.now c.loop-round.searcher (question_by c.args.direction.now) (g.S.Searcher.tells c.args.searcher.now)
    (λ told. (rounds (way told) start c.loop-round.round).asked) (λ told. (rounds (way told) start (suc c.args.level)).asked)
    c.loop-round.invariant.exchanged
    (λ told e. (over (way told) start c.loop-round.round (suc c.args.level) within (sym (c.loop-round.invariant.due told e) ∙ none)).asked)

pub returns-then-is_empty-clause-kept : goal.returns-then-is_empty-clause-kept
returns-then-is_empty-clause-kept g c = λ told e.
    let way : Way = way_by told (g.S.Searcher.base c.args.searcher.now) c.args.direction.now in
    let start : Rounds = beginning c.args.seen c.args.first in
    let within : c.loop-round.round ≤ suc c.args.level = omega (arith, c.from-round-end.ensures) in
    let none : c.loop-round.due ≡ [] = c.is_empty.ensures.0 c.if-is_empty.true in
    c.loop-round.invariant.kept told e ∙ ap (flat_map (kept_by c.args.direction.now)) (over way start c.loop-round.round (suc c.args.level) within (sym (c.loop-round.invariant.due told e) ∙ none)).found

pub returns-in_err-due-clause-exchanged : goal.returns-in_err-due-clause-exchanged
returns-in_err-due-clause-exchanged g c =
    let p = err_from_is_err_and c.from_residual.result c.from_residual.ensures.1 in
    let way = λ (told : List DirEntry). way_by told (g.S.Searcher.base c.args.searcher.now) c.args.direction.now in
    let start : Rounds = beginning c.args.seen c.args.first in
    let d : Direction = c.args.direction.now in
    let due : List (List ℕ) = c.items.result.now in
    let within : suc c.loop-round.round ≤ suc c.args.level = omega (arith, c.from-round-end.ensures) in
    let all = λ (told : List DirEntry). (rounds (way told) start (suc c.args.level)).asked in
    let stopped : ExchangedOver g.S.Searcher.went c.args.searcher.now c.go_round.new.searcher (Some p.0) (g.S.Searcher.tells c.args.searcher.now) (λ told. map (question_by d) (all told)) =
    stopped_in g.S.Searcher.went c.args.searcher.now c.loop-round.searcher c.go_round.new.searcher p.0 (question_by d) (g.S.Searcher.tells c.args.searcher.now)
    (λ told. (rounds (way told) start c.loop-round.round).asked) all due
    c.loop-round.invariant.exchanged
    (subst (λ (s : Stop). Exchanged g.S.Searcher.went c.loop-round.searcher c.go_round.new.searcher (Some s) (Some (map (question_by d) due))) (sym p.2) c.in_err-due.ensures.exchanged)
    (λ told e.
    let f = front (way told) start (suc c.loop-round.round) (suc c.args.level) within in
    (f.0, ap (λ (x : List (List ℕ)). ((rounds (way told) start c.loop-round.round).asked ++ x) ++ f.0) (c.items.ensures ∙ c.loop-round.invariant.due told e) ∙ f.1)) in
    subst (λ (r : Result (List GroupRef) Stop). ExchangedOver g.S.Searcher.went c.args.searcher.now c.go_round.new.searcher (stop_of r) (g.S.Searcher.tells c.args.searcher.now) (λ told. map (question_by d) (all told))) (sym p.1) stopped

pub loop-round-preserved : goal.loop-round-preserved
loop-round-preserved g c =
    let d : Direction = c.args.direction.now in
    let base : List ℕ = g.S.Searcher.base c.args.searcher.now in
    let start : Rounds = beginning c.args.seen c.args.first in
    let now : ℕ = c.loop-round.round in
    let due : List (List ℕ) = c.items.result.now in
    let seen : List (List (List Pair)) = c.loop-round.seen in
    let kept : List GroupRef = c.loop-round.kept in
    let next : List (List ℕ) = c.in_ok-due.due in
    let way = λ (told : List DirEntry). way_by told base d in
    let at = λ (told : List DirEntry). rounds (way told) start now in
    let asked_so = λ (told : List DirEntry) (e : g.S.Searcher.tells c.args.searcher.now told). c.items.ensures ∙ c.loop-round.invariant.due told e in
    let next_is = λ (told : List DirEntry) (e : g.S.Searcher.tells c.args.searcher.now told).
    next_due told base d (at told) seen due next (asked_so told e) (c.loop-round.invariant.seen told e)
    (subst (λ (b : List ℕ). next ≡ new_among (admits_by d) seen (flat_map (leads_by d) (flat_map (way_by told b d).answers due))) c.loop-round.invariant.base
    (c.in_ok-due.ensures.next told (c.loop-round.invariant.tells told e))) in
    record {
      tells = λ told t. c.in_ok-due.ensures.tells told (c.loop-round.invariant.tells told t);
      base = c.in_ok-due.ensures.base ∙ c.loop-round.invariant.base;
      exchanged = went_on g.S.Searcher.went c.args.searcher.now c.loop-round.searcher c.go_round.new.searcher (question_by d) (g.S.Searcher.tells c.args.searcher.now)
          (λ told. (at told).asked) (λ told. (rounds (way told) start (now + 1)).asked) due c.loop-round.invariant.exchanged c.in_ok-due.ensures.exchanged
          (λ told e. one_more (λ n. (at told).asked ++ due ≡ (rounds (way told) start n).asked) now (ap (λ (x : List (List ℕ)). (at told).asked ++ x) (asked_so told e)));
      kept = λ told e. one_more (λ n. c.go_round.new.kept ≡ flat_map (kept_by d) (rounds (way told) start n).found) now
          (next_kept (kept_by d) (way told) (at told) kept c.go_round.new.kept due (asked_so told e) (c.loop-round.invariant.kept told e)
          (subst (λ (b : List ℕ). c.go_round.new.kept ≡ kept ++ flat_map (kept_by d) (flat_map (way_by told b d).answers due)) c.loop-round.invariant.base
          (c.in_ok-due.ensures.kept told (c.loop-round.invariant.tells told e))));
      due = λ told e. one_more (λ n. next ≡ (rounds (way told) start n).due) now (next_is told e);
      seen = λ told e. one_more (λ n. c.go_round.new.seen ≡ (rounds (way told) start n).seen) now
          (next_seen (way told) (at told) seen c.go_round.new.seen next (c.loop-round.invariant.seen told e) c.in_ok-due.ensures.seen (next_is told e));
    }

pub returns-clause-exchanged : goal.returns-clause-exchanged
returns-clause-exchanged g c =
    let way = λ (told : List DirEntry). way_by told (g.S.Searcher.base c.args.searcher.now) c.args.direction.now in
    let start : Rounds = beginning c.args.seen c.args.first in
    let last : c.loop-round.round ≡ suc c.args.level = omega (arith, c.from-round-end.ensures) in
    ended g.S.Searcher.went c.args.searcher.now c.loop-round.searcher (question_by c.args.direction.now) (g.S.Searcher.tells c.args.searcher.now)
    (λ told. (rounds (way told) start c.loop-round.round).asked) (λ told. (rounds (way told) start (suc c.args.level)).asked)
    c.loop-round.invariant.exchanged
    (λ told e. ap (λ (n : ℕ). (rounds (way told) start n).asked) last)

pub returns-clause-kept : goal.returns-clause-kept
returns-clause-kept g c = λ told e.
    let way : Way = way_by told (g.S.Searcher.base c.args.searcher.now) c.args.direction.now in
    let start : Rounds = beginning c.args.seen c.args.first in
    let last : c.loop-round.round ≡ suc c.args.level = omega (arith, c.from-round-end.ensures) in
    c.loop-round.invariant.kept told e ∙ ap (λ (n : ℕ). flat_map (kept_by c.args.direction.now) (rounds way start n).found) last
