-- Which entries a filter matches. Names of attributes are compared without ASCII case.
use Rattle.std.specs.Prelude.{ℕ, ◌-◌, Bool, true, false, not, ◌&&◌, ◌||◌, ◌==◌, nat_lt, nat_le, if◌then◌else◌, List, [], ◌∷◌, length, take, drop, Option, Some, None, codes}
use Rattle.std.specs.List.{list_any, list_all}
use Rattle.sd_dn.specs.Comparing.{same_text}
use Rattle.sd_dn.specs.Reading.{is_dn}
use Rattle.sd_dn.specs.Texts.{same_dn_text}
use Rattle.sd_ldap.specs.declared.entry.Attribute.{Attribute}
use Rattle.sd_ldap.specs.Filters.{FilterValue, FilterValues, both, either, negated, equal, substrings, at_least, at_most, present, unsupported, no_filters, with_filter}
use Rattle.sd_entry.specs.Values.{is_digit, value_of}

-- an attribute of this name has a value that passes
abbrev pub has_value : List ℕ → (List ℕ → Bool) → List Attribute → Bool
has_value name test attributes = list_any (λ (a : Attribute). same_text a.name name && list_any test a.values) attributes

-- ---- equality

-- attributes whose values are DNs
abbrev pub holds_dns : List ℕ → Bool
holds_dns name =
    same_text name (codes "member") || (same_text name (codes "memberOf") || (same_text name (codes "memberUser")
    || (same_text name (codes "memberHost") || same_text name (codes "memberService"))))

-- attributes whose values are numbers
abbrev pub holds_numbers : List ℕ → Bool
holds_numbers name = same_text name (codes "uidNumber") || same_text name (codes "gidNumber")

-- decimal digits, one or more
abbrev pub are_digits : List ℕ → Bool
are_digits text = nat_le 1 (length text) && list_all is_digit text

-- equal as DNs where both are DNs, else without ASCII case
abbrev pub equal_dns : List ℕ → List ℕ → Bool
equal_dns a b = if is_dn a && is_dn b then same_dn_text a b else same_text a b

-- equal as numbers where both are numbers, else without ASCII case
abbrev pub equal_numbers : List ℕ → List ℕ → Bool
equal_numbers a b = if are_digits a && are_digits b then value_of a == value_of b else same_text a b

-- a value of this attribute equals the one asked for
abbrev pub equals : List ℕ → List ℕ → List ℕ → Bool
equals name asked value =
    if holds_dns name then equal_dns value asked
    else if holds_numbers name then equal_numbers value asked
    else same_text value asked

-- ---- order

-- not behind it, byte for byte
abbrev pub bytes_up_to : List ℕ → List ℕ → Bool
bytes_up_to [] bs = true
bytes_up_to (a ∷ rest) [] = false
bytes_up_to (a ∷ rest) (b ∷ bs) = nat_lt a b || (a == b && bytes_up_to rest bs)

-- a number of at most 19 digits
abbrev pub is_short_number : List ℕ → Bool
is_short_number text = are_digits text && nat_le (length text) 19

-- not above it as numbers, where both are numbers of at most 19 digits, else as bytes
abbrev pub up_to : List ℕ → List ℕ → Bool
up_to a b = if is_short_number a && is_short_number b then nat_le (value_of a) (value_of b) else bytes_up_to a b

-- ---- substrings, without ASCII case

abbrev pub begins_with : List ℕ → List ℕ → Bool
begins_with part text = nat_le (length part) (length text) && same_text (take (length part) text) part

abbrev pub ends_with : List ℕ → List ℕ → Bool
ends_with part text = nat_le (length part) (length text) && same_text (drop (length text - length part) text) part

-- the part stands somewhere in the text, and what comes behind it there passes
abbrev pub passes_behind : List ℕ → (List ℕ → Bool) → List ℕ → Bool
passes_behind part test [] = begins_with part [] && test []
passes_behind part test (b ∷ bs) = (begins_with part (b ∷ bs) && test (drop (length part) (b ∷ bs))) || passes_behind part test bs

-- the last part, where there is one, ends the text
abbrev pub has_end : Option (List ℕ) → List ℕ → Bool
has_end None text = true
has_end (Some part) text = ends_with part text

-- the parts stand in the text, in order and apart, and the last ends it
abbrev pub has_parts : List (List ℕ) → Option (List ℕ) → List ℕ → Bool
has_parts [] last text = has_end last text
has_parts (part ∷ parts) last text = passes_behind part (λ rest. has_parts parts last rest) text

-- the first part, where there is one, begins the text, and the others stand behind it
abbrev pub is_composed : Option (List ℕ) → List (List ℕ) → Option (List ℕ) → List ℕ → Bool
is_composed None any last text = has_parts any last text
is_composed (Some part) any last text = begins_with part text && has_parts any last (drop (length part) text)

-- ---- filters

abbrev mutual
  pub matches : FilterValue → List Attribute → Bool
  matches (both inner) attributes = all_match inner attributes
  matches (either inner) attributes = one_matches inner attributes
  matches (negated inner) attributes = not (matches inner attributes)
  matches (equal name asked) attributes = has_value name (equals name asked) attributes
  matches (substrings name initial any last) attributes = has_value name (is_composed initial any last) attributes
  matches (at_least name asked) attributes = has_value name (λ value. up_to asked value) attributes
  matches (at_most name asked) attributes = has_value name (λ value. up_to value asked) attributes
  matches (present name) attributes = has_value name (λ value. true) attributes
  matches unsupported attributes = false

  pub all_match : FilterValues → List Attribute → Bool
  all_match no_filters attributes = true
  all_match (with_filter filter rest) attributes = matches filter attributes && all_match rest attributes

  pub one_matches : FilterValues → List Attribute → Bool
  one_matches no_filters attributes = false
  one_matches (with_filter filter rest) attributes = matches filter attributes || one_matches rest attributes

-- a part of it is of a kind that is not supported
abbrev mutual
  pub has_unsupported : FilterValue → Bool
  has_unsupported (both inner) = some_unsupported inner
  has_unsupported (either inner) = some_unsupported inner
  has_unsupported (negated inner) = has_unsupported inner
  has_unsupported (equal name asked) = false
  has_unsupported (substrings name initial any last) = false
  has_unsupported (at_least name asked) = false
  has_unsupported (at_most name asked) = false
  has_unsupported (present name) = false
  has_unsupported unsupported = true

  pub some_unsupported : FilterValues → Bool
  some_unsupported no_filters = false
  some_unsupported (with_filter filter rest) = has_unsupported filter || some_unsupported rest

-- ---- what the code keeps

-- what is behind the first place where the part stands
abbrev pub first_behind : List ℕ → List ℕ → Option (List ℕ)
first_behind part [] = if begins_with part [] then Some (drop (length part) []) else None
first_behind part (b ∷ bs) = if begins_with part (b ∷ bs) then Some (drop (length part) (b ∷ bs)) else first_behind part bs

-- a value is one that a filter of one attribute asks for
abbrev pub passes : FilterValue → List ℕ → Bool
passes (both inner) value = false
passes (either inner) value = false
passes (negated inner) value = false
passes (equal name asked) value = equals name asked value
passes (substrings name initial any last) value = is_composed initial any last value
passes (at_least name asked) value = up_to asked value
passes (at_most name asked) value = up_to value asked
passes (present name) value = true
passes unsupported value = false
