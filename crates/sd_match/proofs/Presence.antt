-- A filter that asks whether an attribute is there.
use Rattle.std.proofs.Common.{◌≡◌, ℕ, Bool, true, List, refl, sym, ap, ◌∙◌}
use Rattle.sd_ldap.specs.declared.entry.Attribute.{Attribute}
use Rattle.sd_ldap.specs.declared.filter.Filter.{Filter, fold-roll-Filter}
use Rattle.sd_ldap.specs.declared.filter.Filter.TheVariants as filters
use Rattle.sd_ldap.specs.declared.filter.Filter.TheOpen.{Filter-F}
use Rattle.sd_ldap.specs.Filters.{FilterValue, present, filter_step, filter_value}
use Rattle.sd_match.specs.Matching.{has_value, passes, matches}

value_is : (name : List ℕ) → filter_value (filters.Present name) ≡ present name
value_is name = ap filter_value (sym (filters.rolls-Present name)) ∙ fold-roll-Filter FilterValue filter_step (Filter-F.Present name)

by_value : (name : List ℕ) (f : FilterValue) (attributes : List Attribute) (r : Bool) → r ≡ has_value name (passes f) attributes → f ≡ present name → r ≡ matches f attributes
by_value name f attributes r e p = e ∙ (ap (λ (g : FilterValue). has_value name (passes g) attributes) p ∙ ap (λ (g : FilterValue). matches g attributes) (sym p))

pub present_is : (name : List ℕ) (filter : Filter) (attributes : List Attribute) (r : Bool) → r ≡ has_value name (passes (filter_value filter)) attributes → filter ≡ filters.Present name → r ≡ matches (filter_value filter) attributes
present_is name filter attributes r e p = by_value name (filter_value filter) attributes r e (ap filter_value p ∙ value_is name)
