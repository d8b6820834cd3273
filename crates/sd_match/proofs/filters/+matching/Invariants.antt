use Rattle.std.proofs.Common.{◌≡◌, drop}
use Rattle.sd_ldap.specs.Filters.{filter_values}
use Rattle.sd_match.specs.Matching.{all_match, one_matches}
use Rattle.sd_match.proofs.filters.+matching.Given as goal

-- those that are left decide
abbrev pub invariant-all_match-loop-filter : goal.invariant-all_match-loop-filter
invariant-all_match-loop-filter l = all_match (filter_values (drop l.filter-index l.filters.items)) l.attributes ≡ all_match (filter_values l.filters.items) l.attributes

abbrev pub invariant-one_matches-loop-filter : goal.invariant-one_matches-loop-filter
invariant-one_matches-loop-filter l = one_matches (filter_values (drop l.filter-index l.filters.items)) l.attributes ≡ one_matches (filter_values l.filters.items) l.attributes
