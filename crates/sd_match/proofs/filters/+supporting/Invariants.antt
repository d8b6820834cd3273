use Rattle.std.proofs.Common.{◌≡◌, drop}
use Rattle.sd_ldap.specs.Filters.{filter_values}
use Rattle.sd_match.specs.Matching.{some_unsupported}
use Rattle.sd_match.proofs.filters.+supporting.Given as goal

-- those that are left decide
abbrev pub invariant-some_unsupported-loop-filter : goal.invariant-some_unsupported-loop-filter
invariant-some_unsupported-loop-filter l = some_unsupported (filter_values (drop l.filter-index l.filters.items)) ≡ some_unsupported (filter_values l.filters.items)
