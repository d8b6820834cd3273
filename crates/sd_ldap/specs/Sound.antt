-- What a message needs to be written and read back.
use Rattle.std.specs.Prelude.{◌≡◌, ◌≢◌, ℕ, suc, max, ◌%◌, ◌^◌, ◌<◌, ◌≤◌, true}
use Rattle.sd_ldap.specs.Filters.{FilterValue, FilterValues, both, either, negated, equal, substrings, at_least, at_most, present, unsupported, no_filters, with_filter}
use Rattle.sd_ldap.specs.Values.{SearchValue, OperationValue, MessageValue, bind_request, bind_response, unbind, search, entry, done, reference, other}
use Rattle.sd_ldap.specs.FilterReading.{has_part}

-- how many levels a filter has
abbrev mutual
  pub levels_of : FilterValue → ℕ
  levels_of (both inner) = suc (most_levels inner)
  levels_of (either inner) = suc (most_levels inner)
  levels_of (negated inner) = suc (levels_of inner)
  levels_of (equal name value) = 1
  levels_of (substrings name initial any last) = 1
  levels_of (at_least name value) = 1
  levels_of (at_most name value) = 1
  levels_of (present name) = 1
  levels_of unsupported = 1

  pub most_levels : FilterValues → ℕ
  most_levels no_filters = 0
  most_levels (with_filter filter rest) = max (levels_of filter) (most_levels rest)

-- each substrings filter has a part
abbrev mutual
  pub HasParts : FilterValue → Type 0
  HasParts (both inner) = AllHaveParts inner
  HasParts (either inner) = AllHaveParts inner
  HasParts (negated inner) = HasParts inner
  HasParts (equal name value) = Unit {0}
  HasParts (substrings name initial any last) = has_part initial any last ≡ true
  HasParts (at_least name value) = Unit {0}
  HasParts (at_most name value) = Unit {0}
  HasParts (present name) = Unit {0}
  HasParts unsupported = Unit {0}

  pub AllHaveParts : FilterValues → Type 0
  AllHaveParts no_filters = Unit {0}
  AllHaveParts (with_filter filter rest) = HasParts filter × AllHaveParts rest

pub record IsSoundSearch (s : SearchValue) : Type 0 where
  pub scope : s.scope ≤ 2
  pub deref : s.deref ≤ 3
  pub size : s.size ≤ 2147483647
  pub time : s.time ≤ 2147483647
  pub levels : levels_of s.filter ≤ 32
  pub parts : HasParts s.filter

-- a tag of one octet that no operation here has
pub record IsOtherTag (tag : ℕ) : Type 0 where
  pub one_octet : tag % 32 ≢ 31
  pub no_bind_request : tag ≢ 96
  pub no_bind_response : tag ≢ 97
  pub no_unbind : tag ≢ 66
  pub no_search : tag ≢ 99
  pub no_entry : tag ≢ 100
  pub no_done : tag ≢ 101
  pub no_reference : tag ≢ 115

abbrev pub IsSoundOperation : OperationValue → Type 0
IsSoundOperation (bind_request version name password) = (1 ≤ version) × (version ≤ 127)
IsSoundOperation (bind_response result) = result.code < 2 ^ 32
IsSoundOperation unbind = Unit {0}
IsSoundOperation (search request) = IsSoundSearch request
IsSoundOperation (entry found) = Unit {0}
IsSoundOperation (done result) = result.code < 2 ^ 32
IsSoundOperation reference = Unit {0}
IsSoundOperation (other tag) = IsOtherTag tag

pub record IsSound (m : MessageValue) : Type 0 where
  pub id : m.id ≤ 2147483647
  pub operation : IsSoundOperation m.operation
