-- Whether a message can be written and read back, as a test.
use Rattle.std.specs.Prelude.{ℕ, ◌%◌, Bool, true, not, ◌&&◌, ◌==◌, nat_lt, nat_le}
use Rattle.sd_ldap.specs.Filters.{FilterValue, FilterValues, both, either, negated, equal, substrings, at_least, at_most, present, unsupported, no_filters, with_filter}
use Rattle.sd_ldap.specs.FilterReading.{has_part}
use Rattle.sd_ldap.specs.Values.{SearchValue, OperationValue, MessageValue, bind_request, bind_response, unbind, search, entry, done, reference, other}
use Rattle.sd_ldap.specs.Sound.{levels_of}

-- each substrings filter has a part
abbrev mutual
  pub has_parts : FilterValue → Bool
  has_parts (both inner) = all_have_parts inner
  has_parts (either inner) = all_have_parts inner
  has_parts (negated inner) = has_parts inner
  has_parts (equal name value) = true
  has_parts (substrings name initial any last) = has_part initial any last
  has_parts (at_least name value) = true
  has_parts (at_most name value) = true
  has_parts (present name) = true
  has_parts unsupported = true

  pub all_have_parts : FilterValues → Bool
  all_have_parts no_filters = true
  all_have_parts (with_filter filter rest) = has_parts filter && all_have_parts rest

abbrev pub is_sound_filter : FilterValue → Bool
is_sound_filter f = nat_le (levels_of f) 32 && has_parts f

abbrev pub is_sound_search : SearchValue → Bool
is_sound_search s = nat_le s.scope 2 && (nat_le s.deref 3 && (nat_le s.size 2147483647 && (nat_le s.time 2147483647 && is_sound_filter s.filter)))

-- a tag of one octet that no operation here has
abbrev pub is_other_tag : ℕ → Bool
is_other_tag tag =
    not (tag % 32 == 31) && (not (tag == 96) && (not (tag == 97) && (not (tag == 66) && (not (tag == 99) && (not (tag == 100) && (not (tag == 101) && not (tag == 115)))))))

abbrev pub is_sound_operation : OperationValue → Bool
is_sound_operation (bind_request version name password) = nat_le 1 version && nat_le version 127
is_sound_operation (bind_response result) = nat_lt result.code 4294967296
is_sound_operation unbind = true
is_sound_operation (search request) = is_sound_search request
is_sound_operation (entry found) = true
is_sound_operation (done result) = nat_lt result.code 4294967296
is_sound_operation reference = true
is_sound_operation (other tag) = is_other_tag tag

abbrev pub is_sound : MessageValue → Bool
is_sound m = nat_le m.id 2147483647 && is_sound_operation m.operation
