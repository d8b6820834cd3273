use Rattle.std.proofs.Common.{◌≡◌, length, ap, sym, ◌∙◌, map, ◌++◌, ◌∷◌, []}
use Rattle.std.proofs.lemmas.Result.{err_from_is_err_and}
use Rattle.std.proofs.lemmas.List.{map_push}
use Rattle.sd_ldap.specs.Monad.{all_of}
use Rattle.sd_ldap.specs.Filters.{filter_value}
use Rattle.sd_ldap.specs.FilterReading.{filter_in}
use Rattle.sd_ldap.proofs.Levels.{no_levels, part_fails, part_gives}
use Rattle.sd_ldap.proofs.Loops.{starts, goes_on, stops, fails, last_ok, last_err}
use Rattle.sd_ldap.proofs.filter_reading.+reading.Goals as goal

pub filter-returns-then-levels-eq0 : goal.filter-returns-then-levels-eq0
filter-returns-then-levels-eq0 t c = rw c.place-at.ensures (no_levels c.args.levels c.args.reader.now c.if-levels-eq0.true)

pub filter-returns-in_err-tag : goal.filter-returns-in_err-tag
filter-returns-in_err-tag t c =
    let p = err_from_is_err_and c.from_residual.result c.from_residual.ensures.1 in
    rw (p.1, p.2) (part_fails c.in_err-tag.field-0.0 c.args.levels c.args.reader.now c.if-levels-eq0.false c.in_err-tag.ensures)

pub filter-returns : goal.filter-returns
filter-returns t c =
    part_gives c.contained.result c.args.levels c.args.reader.now (record { tag = c.in_ok-tag.tag; contents = c.in_ok-tag.contents; after = c.part.new.reader }) c.if-levels-eq0.false c.in_ok-tag.ensures
    (rw (sym c.place-at.ensures) c.contained.ensures)

pub filters-loop-init : goal.filters-loop-init
filters-loop-init t c = rw c.new-filters.ensures.items (starts (λ inner. filter_in c.args.levels inner) c.args.reader (length c.rest-count.result.now) (ap length c.rest-count.ensures))

pub filters-returns-then-is_empty : goal.filters-returns-then-is_empty
filters-returns-then-is_empty t c = stops (λ inner. filter_in c.args.levels inner) (map filter_value c.loop.filters.items) _ c.loop.reader (all_of (λ inner. filter_in c.args.levels inner) c.args.reader) (sym c.is_empty.ensures ∙ c.if-is_empty.true) c.loop.invariant

pub filters-returns-in_err-filter : goal.filters-returns-in_err-filter
filters-returns-in_err-filter t c =
    let p = err_from_is_err_and c.from_residual.result c.from_residual.ensures.1 in
    rw (p.1, p.2) (fails (λ inner. filter_in c.args.levels inner) c.in_err-filter.field-0.0 (map filter_value c.loop.filters.items) (length c.rest-count.result.now) c.loop.counter c.loop.reader (all_of (λ inner. filter_in c.args.levels inner) c.args.reader) c.loop-test.true (sym c.is_empty.ensures ∙ c.if-is_empty.false) c.in_err-filter.ensures c.loop.invariant)

pub filters-loop-preserved : goal.filters-loop-preserved
filters-loop-preserved t c =
    let n = c.in_ok-filter.field-0 in
    let e : map filter_value c.push.new.self.items ≡ map filter_value c.loop.filters.items ++ filter_value n ∷ [] = rw c.in_ok-push.ensures.items (map_push filter_value c.loop.filters.items n) in
    rw e (goes_on (λ inner. filter_in c.args.levels inner) (map filter_value c.loop.filters.items) (length c.rest-count.result.now) c.loop.counter c.loop.reader (filter_value n) c.filter.new.reader (all_of (λ inner. filter_in c.args.levels inner) c.args.reader) c.loop-test.true (sym c.is_empty.ensures ∙ c.if-is_empty.false) c.in_ok-filter.ensures c.loop.invariant)

pub filters-returns-in_err-end : goal.filters-returns-in_err-end
filters-returns-in_err-end t c =
    let p = err_from_is_err_and c.from_residual-in_err-end.result c.from_residual-in_err-end.ensures.1 in
    rw (p.1, p.2) (last_err (λ inner. filter_in c.args.levels inner) c.in_err-end.field-0.0 (map filter_value c.loop.filters.items) (length c.rest-count.result.now) c.loop.counter c.loop.reader (all_of (λ inner. filter_in c.args.levels inner) c.args.reader) c.loop-test.false c.loop.invariant c.in_err-end.ensures)

pub filters-returns : goal.filters-returns
filters-returns t c = last_ok (λ inner. filter_in c.args.levels inner) (map filter_value c.loop.filters.items) (length c.rest-count.result.now) c.loop.counter c.loop.reader (all_of (λ inner. filter_in c.args.levels inner) c.args.reader) c.loop-test.false c.loop.invariant c.in_ok-end.ensures
