-- The bytes that are written.
use Rattle.std.specs.Prelude.{ℕ, Bool, List, [], ◌∷◌, ◌++◌, drop, nat_lt, if◌then◌else◌, Option, Some, None}
use Rattle.std.specs.List.{flat_map}
use Rattle.std.specs.Int.{w32, to_be_bytes}
use Rattle.sd_ber.specs.Octets.{element}
use Rattle.sd_ldap.specs.declared.result.LdapResult.{LdapResult}
use Rattle.sd_ldap.specs.declared.entry.Attribute.{Attribute}
use Rattle.sd_ldap.specs.declared.entry.DirEntry.{DirEntry}
use Rattle.sd_ldap.specs.Filters.{FilterValue, FilterValues, both, either, negated, equal, substrings, at_least, at_most, present, unsupported, no_filters, with_filter}
use Rattle.sd_ldap.specs.Values.{SearchValue, OperationValue, MessageValue, bind_request, bind_response, unbind, search, entry, done, reference, other}

-- how many of a zero and the four octets of a number are not needed: the first octet is below 128
abbrev pub unneeded : ℕ → ℕ
unneeded n = if nat_lt n 128 then 4 else if nat_lt n 32768 then 3 else if nat_lt n 8388608 then 2 else if nat_lt n 2147483648 then 1 else 0

abbrev pub octets_of : ℕ → List ℕ
octets_of n = drop (unneeded n) (0 ∷ to_be_bytes w32 n)

unfoldable pub number_bytes : ℕ → ℕ → List ℕ
number_bytes tag n = element tag (octets_of n)

abbrev pub truth_octet : Bool → ℕ
truth_octet b = if b then 255 else 0

unfoldable pub text_bytes : ℕ → List ℕ → List ℕ
text_bytes tag text = element tag text

unfoldable pub truth_bytes : Bool → List ℕ
truth_bytes b = element 1 (truth_octet b ∷ [])

unfoldable pub inside : ℕ → List ℕ → List ℕ
inside tag contents = element tag contents

abbrev pub texts_bytes : ℕ → List (List ℕ) → List ℕ
texts_bytes tag texts = flat_map (text_bytes tag) texts

abbrev pub attribute_bytes : Attribute → List ℕ
attribute_bytes a = inside 48 (text_bytes 4 a.name ++ inside 49 (texts_bytes 4 a.values))

abbrev pub attributes_bytes : List Attribute → List ℕ
attributes_bytes attributes = flat_map attribute_bytes attributes

abbrev pub entry_bytes : DirEntry → List ℕ
entry_bytes e = text_bytes 4 e.dn ++ inside 48 (attributes_bytes e.attributes)

abbrev pub result_bytes : LdapResult → List ℕ
result_bytes r = number_bytes 10 r.code ++ (text_bytes 4 r.dn ++ text_bytes 4 r.message)

abbrev pub optional_bytes : ℕ → Option (List ℕ) → List ℕ
optional_bytes tag None = []
optional_bytes tag (Some text) = text_bytes tag text

abbrev pub pieces_bytes : Option (List ℕ) → List (List ℕ) → Option (List ℕ) → List ℕ
pieces_bytes initial any last = optional_bytes 128 initial ++ (texts_bytes 129 any ++ optional_bytes 130 last)

abbrev pub pair_bytes : List ℕ → List ℕ → List ℕ
pair_bytes name value = text_bytes 4 name ++ text_bytes 4 value

abbrev mutual
  pub filter_bytes : FilterValue → List ℕ
  filter_bytes (both inner) = inside 160 (filters_bytes inner)
  filter_bytes (either inner) = inside 161 (filters_bytes inner)
  filter_bytes (negated inner) = inside 162 (filter_bytes inner)
  filter_bytes (equal name value) = inside 163 (pair_bytes name value)
  filter_bytes (substrings name initial any last) = inside 164 (text_bytes 4 name ++ inside 48 (pieces_bytes initial any last))
  filter_bytes (at_least name value) = inside 165 (pair_bytes name value)
  filter_bytes (at_most name value) = inside 166 (pair_bytes name value)
  filter_bytes (present name) = text_bytes 135 name
  filter_bytes unsupported = inside 169 []

  pub filters_bytes : FilterValues → List ℕ
  filters_bytes no_filters = []
  filters_bytes (with_filter filter rest) = filter_bytes filter ++ filters_bytes rest

abbrev pub span_bytes : List ℕ → ℕ → ℕ → List ℕ
span_bytes base scope deref = text_bytes 4 base ++ (number_bytes 10 scope ++ number_bytes 10 deref)

abbrev pub bounds_bytes : ℕ → ℕ → Bool → List ℕ
bounds_bytes size time types_only = number_bytes 2 size ++ (number_bytes 2 time ++ truth_bytes types_only)

abbrev pub search_bytes : SearchValue → List ℕ
search_bytes s =
    span_bytes s.base s.scope s.deref ++ (bounds_bytes s.size s.time s.types_only ++ (filter_bytes s.filter ++ inside 48 (texts_bytes 4 s.attributes)))

abbrev pub operation_tag : OperationValue → ℕ
operation_tag (bind_request version name password) = 96
operation_tag (bind_response result) = 97
operation_tag unbind = 66
operation_tag (search request) = 99
operation_tag (entry found) = 100
operation_tag (done result) = 101
operation_tag reference = 115
operation_tag (other tag) = tag

abbrev pub operation_contents : OperationValue → List ℕ
operation_contents (bind_request version name password) = number_bytes 2 version ++ (text_bytes 4 name ++ text_bytes 128 password)
operation_contents (bind_response result) = result_bytes result
operation_contents unbind = []
operation_contents (search request) = search_bytes request
operation_contents (entry found) = entry_bytes found
operation_contents (done result) = result_bytes result
operation_contents reference = []
operation_contents (other tag) = []

abbrev pub operation_bytes : OperationValue → List ℕ
operation_bytes operation = inside (operation_tag operation) (operation_contents operation)

abbrev pub content_bytes : MessageValue → List ℕ
content_bytes m = number_bytes 2 m.id ++ operation_bytes m.operation

abbrev pub message_bytes : MessageValue → List ℕ
message_bytes m = inside 48 (content_bytes m)
