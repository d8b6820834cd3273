use Rattle.std.proofs.Common.{◌≡◌, ◌++◌, drop}
use Rattle.sd_ldap.specs.Filters.{filter_values}
use Rattle.sd_ldap.specs.Spelling.{filters_bytes}
use Rattle.sd_ldap.proofs.filter_writing.+writing.Given as goal

-- those so far and those that are left are all
abbrev pub invariant-put_filters-loop-filter : goal.invariant-put_filters-loop-filter
invariant-put_filters-loop-filter l = l.contents.items ++ filters_bytes (filter_values (drop l.filter-index l.filters.items)) ≡ filters_bytes (filter_values l.filters.items)
