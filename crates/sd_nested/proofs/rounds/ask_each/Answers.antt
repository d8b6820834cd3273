use Rattle.std.proofs.Common.{◌≡◌, ℕ, List, [], ◌∷◌, map, Some, Result, Err, sym, ap, ◌∙◌, subst}
use Rattle.std.proofs.lemmas.Result.{err_from_is_err_and}
use Rattle.sd_ldap.specs.declared.entry.DirEntry.{DirEntry}
use Rattle.sd_nested.specs.declared.searcher.Stop.{Stop}
use Rattle.sd_nested.specs.declared.searcher.Stop.TheVariants as stops
use Rattle.sd_nested.specs.Asking.{Exchanged, stop_of}
use Rattle.sd_match.specs.Answering.{found, sent}
use Rattle.sd_nested.specs.declared.rounds.Direction.{Direction}
use Rattle.sd_nested.specs.Directions.{question_by, search_by}
use Rattle.sd_nested.proofs.Exchanges.{stopped_at, gone_on, starved_at}
use Rattle.sd_nested.proofs.Sent.{kept_more, leads_more}
use Rattle.sd_nested.proofs.rounds.ask_each.Goals as goal

pub returns-in_err-entries-clause-exchanged : goal.returns-in_err-entries-clause-exchanged
returns-in_err-entries-clause-exchanged g c =
    let p = err_from_is_err_and c.from_residual.result c.from_residual.ensures.1 in
    let due : List (List ℕ) = c.args.due.now in
    let stopped : Exchanged g.S.Searcher.went c.args.searcher.now c.ask.new.searcher (Some p.0) (Some (map (question_by c.args.direction.now) due)) =
    stopped_at g.S.Searcher.went c.args.searcher.now c.loop-dn.searcher c.ask.new.searcher p.0 (question_by c.args.direction.now) due c.loop-dn.dn-index c.dn-item.result
    c.loop-dn-test.true c.dn-item.is c.loop-dn.invariant.exchanged
    (subst (λ (s : Stop). Exchanged g.S.Searcher.went c.loop-dn.searcher c.ask.new.searcher (Some s) (Some (question_by c.args.direction.now c.dn-item.result ∷ []))) (sym p.2) c.in_err-entries.ensures.exchanged) in
    subst (λ (r : Result (Unit {0}) Stop). Exchanged g.S.Searcher.went c.args.searcher.now c.ask.new.searcher (stop_of r) (Some (map (question_by c.args.direction.now) due))) (sym p.1) stopped

pub returns-in_err-take_entries-clause-exchanged : goal.returns-in_err-take_entries-clause-exchanged
returns-in_err-take_entries-clause-exchanged g c =
    let p = err_from_is_err_and c.from_residual-in_err-take_entries.result c.from_residual-in_err-take_entries.ensures.1 in
    let due : List (List ℕ) = c.args.due.now in
    let starved : Exchanged g.S.Searcher.went c.args.searcher.now c.ask.new.searcher (Some stops.Memory) (Some (map (question_by c.args.direction.now) due)) =
    starved_at g.S.Searcher.went c.args.searcher.now c.loop-dn.searcher c.ask.new.searcher (question_by c.args.direction.now) due c.loop-dn.dn-index c.dn-item.result
    c.loop-dn-test.true c.dn-item.is c.loop-dn.invariant.exchanged c.in_ok-entries.ensures.exchanged in
    subst (λ (r : Result (Unit {0}) Stop). Exchanged g.S.Searcher.went c.args.searcher.now c.ask.new.searcher (stop_of r) (Some (map (question_by c.args.direction.now) due))) (sym (p.1 ∙ ap (λ (s : Stop). Err s) p.2)) starved

pub loop-dn-preserved : goal.loop-dn-preserved
loop-dn-preserved g c =
    let due : List (List ℕ) = c.args.due.now in
    let at : ℕ = c.loop-dn.dn-index in
    let base : List ℕ = g.S.Searcher.base c.args.searcher.now in
    let given : List DirEntry = c.items.result.now in
    let d : Direction = c.args.direction.now in
    let dn : List ℕ = c.dn-item.result in
    let told_so = λ (told : List DirEntry) (e : g.S.Searcher.tells c.args.searcher.now told).
    c.items.ensures ∙ subst (λ (b : List ℕ). c.in_ok-entries.entries ≡ map (sent (search_by d b dn)) (found told (search_by d b dn))) c.loop-dn.invariant.base
    (c.in_ok-entries.ensures.told told (c.loop-dn.invariant.tells told e)) in
    record {
      tells = λ told t. c.in_ok-entries.ensures.tells told (c.loop-dn.invariant.tells told t);
      base = c.in_ok-entries.ensures.base ∙ c.loop-dn.invariant.base;
      exchanged = gone_on g.S.Searcher.went c.args.searcher.now c.loop-dn.searcher c.ask.new.searcher (question_by d) due at dn c.loop-dn-test.true c.dn-item.is c.loop-dn.invariant.exchanged c.in_ok-entries.ensures.exchanged;
      kept = λ told e. kept_more told base d due at dn c.args.kept.now c.loop-dn.kept c.take_entries.new.kept given c.loop-dn-test.true c.dn-item.is (told_so told e) c.in_ok-take_entries.ensures.kept (c.loop-dn.invariant.kept told e);
      onward = λ told e. leads_more told base d due at dn c.args.onward.now c.loop-dn.onward c.take_entries.new.onward given c.loop-dn-test.true c.dn-item.is (told_so told e) c.in_ok-take_entries.ensures.onward (c.loop-dn.invariant.onward told e);
    }
