-- A filter without where it lies in memory.
use Rattle.std.specs.Prelude.{ℕ, List, [], ◌∷◌, map, Option}
use Rattle.sd_ldap.specs.declared.filter.Filter.{Filter, fold-Filter}
use Rattle.sd_ldap.specs.declared.filter.Filter.TheOpen.{Filter-F}

mutual
  pub data FilterValue : Type 0 where
    both : FilterValues → FilterValue
    either : FilterValues → FilterValue
    negated : FilterValue → FilterValue
    equal : List ℕ → List ℕ → FilterValue
    substrings : List ℕ → Option (List ℕ) → List (List ℕ) → Option (List ℕ) → FilterValue
    at_least : List ℕ → List ℕ → FilterValue
    at_most : List ℕ → List ℕ → FilterValue
    present : List ℕ → FilterValue
    unsupported : FilterValue

  pub data FilterValues : Type 0 where
    no_filters : FilterValues
    with_filter : FilterValue → FilterValues → FilterValues

abbrev pub filters_of : List FilterValue → FilterValues
filters_of [] = no_filters
filters_of (f ∷ fs) = with_filter f (filters_of fs)

-- one level, with each filter inside already seen as its value
abbrev pub filter_step : Filter-F FilterValue → FilterValue
filter_step (Filter-F.And inner) = both (filters_of inner.items)
filter_step (Filter-F.Or inner) = either (filters_of inner.items)
filter_step (Filter-F.Not inner) = negated inner.value
filter_step (Filter-F.Equal name value) = equal name value
filter_step (Filter-F.Substrings name initial any final) = substrings name initial any final
filter_step (Filter-F.AtLeast name value) = at_least name value
filter_step (Filter-F.AtMost name value) = at_most name value
filter_step (Filter-F.Present name) = present name
filter_step Filter-F.Unsupported = unsupported

abbrev pub filter_value : Filter → FilterValue
filter_value = fold-Filter FilterValue filter_step

abbrev pub filter_values : List Filter → FilterValues
filter_values filters = filters_of (map filter_value filters)
