use Rattle.std.proofs.Common.{◌≡◌, ◌++◌, drop, map}
use Rattle.sd_ldap.specs.Filters.{filter_value}
use Rattle.sd_client.proofs.copying.+copying.Given as goal

-- those so far and those that are left are all
abbrev pub invariant-copy_filters-loop-filter : goal.invariant-copy_filters-loop-filter
invariant-copy_filters-loop-filter l = map filter_value l.copies.items ++ map filter_value (drop l.filter-index l.filters.items) ≡ map filter_value l.filters.items
