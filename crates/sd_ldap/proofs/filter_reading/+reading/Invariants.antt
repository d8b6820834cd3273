use Rattle.std.proofs.Common.{◌≡◌, ◌+◌, ◌*◌, ◌-◌, map}
use Rattle.sd_ldap.specs.Monad.{each, all_of}
use Rattle.sd_ldap.specs.Filters.{filter_value}
use Rattle.sd_ldap.specs.FilterReading.{filter_in}
use Rattle.sd_ldap.proofs.Loops.{with_front}
use Rattle.sd_ldap.proofs.filter_reading.+reading.Given as goal

abbrev pub decreases-filter : goal.decreases-filter
decreases-filter l = 3 * l.levels

abbrev pub decreases-contained : goal.decreases-contained
decreases-contained l = 3 * l.levels + 2

abbrev pub decreases-negation : goal.decreases-negation
decreases-negation l = 3 * l.levels + 1

abbrev pub decreases-filters : goal.decreases-filters
decreases-filters l = 3 * l.levels + 1

-- those so far and those that are still read are all
abbrev pub invariant-filters-loop : goal.invariant-filters-loop
invariant-filters-loop l = with_front (map filter_value l.filters.items) (each (λ inner. filter_in l.levels inner) (l.count - l.counter) l.reader) ≡ all_of (λ inner. filter_in l.levels inner) l.fn.reader
