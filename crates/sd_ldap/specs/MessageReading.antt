-- How messages are read.
use Rattle.std.specs.Prelude.{ℕ, ◌==◌, nat_lt, if◌then◌else◌, List, [], ◌∷◌, length, Result, Ok, Err}
use Rattle.sd_ber.specs.declared.fault.BerFault.{BerFault}
use Rattle.sd_ber.specs.declared.fault.BerFault.TheVariants.{BadTag, Indefinite, TooLong, Short, BadInteger}
use Rattle.sd_ber.specs.declared.header.Header.{Header}
use Rattle.sd_ber.specs.Reading.{Reading, Opened, start_of, header_at, element_at}
use Rattle.sd_ldap.specs.Values.{SearchValue, OperationValue, MessageValue, bind_request, bind_response, unbind, search, entry, done, reference, other}
use Rattle.sd_ldap.specs.declared.message.Span.{Span}
use Rattle.sd_ldap.specs.declared.message.Bounds.{Bounds}
use Rattle.sd_ldap.specs.Monad.{◌>>=◌, ended}
use Rattle.sd_ldap.specs.Parts.{part_at, expected, text_in, number_in, truth_in, texts_in, passed, entry_in, result_in}
use Rattle.sd_ldap.specs.FilterReading.{filter_in}

-- where a search begins, how far it goes, and how aliases are followed
unfoldable pub span_in : Reading → Result (Span × Reading) ℕ
span_in r = do
  base ← text_in 4 r
  scope ← number_in 10 0 2 base.1
  deref ← number_in 10 0 3 scope.1
  Ok (record { base = base.0; scope = scope.0; deref = deref.0 }, deref.1)

-- how many entries, how many seconds, and whether without values
unfoldable pub bounds_in : Reading → Result (Bounds × Reading) ℕ
bounds_in r = do
  size ← number_in 2 0 2147483647 r
  time ← number_in 2 0 2147483647 size.1
  types_only ← truth_in time.1
  Ok (record { size = size.0; time = time.0; types_only = types_only.0 }, types_only.1)

unfoldable pub search_in : Reading → Result SearchValue ℕ
search_in r = do
  span ← span_in r
  bounds ← bounds_in span.1
  filter ← filter_in 32 bounds.1
  list ← expected 48 filter.1
  attributes ← texts_in list.0
  ended
      (record {
        base = span.0.base;
        scope = span.0.scope;
        deref = span.0.deref;
        size = bounds.0.size;
        time = bounds.0.time;
        types_only = bounds.0.types_only;
        filter = filter.0;
        attributes = attributes;
      })
      list.1

-- version, name and simple password
unfoldable pub bind_in : Reading → Result OperationValue ℕ
bind_in r = do
  version ← number_in 2 1 127 r
  name ← text_in 4 version.1
  password ← text_in 128 name.1
  ended (bind_request version.0 name.0 password.0) password.1

-- the contents of an operation of a tag; the operation itself is at a place
unfoldable pub operation_of : ℕ → ℕ → Reading → Result OperationValue ℕ
operation_of at tag r =
    if tag == 96 then bind_in r
    else if tag == 97 then (result_in r >>= λ result. Ok (bind_response result))
    else if tag == 66 then (if length r.rest == 0 then Ok unbind else Err at)
    else if tag == 99 then (search_in r >>= λ request. Ok (search request))
    else if tag == 100 then (entry_in r >>= λ found. Ok (entry found))
    else if tag == 101 then (result_in r >>= λ result. Ok (done result))
    else if tag == 115 then Ok reference
    else Ok (other tag)

unfoldable pub operation_in : Reading → Result (OperationValue × Reading) ℕ
operation_in r = do
  part ← part_at r
  operation ← operation_of r.at part.tag part.contents
  Ok (operation, part.after)

-- the contents of a message; elements behind the operation are read over
unfoldable pub message_in : Reading → Result MessageValue ℕ
message_in r = do
  id ← number_in 2 0 2147483647 r
  operation ← operation_in id.1
  more ← passed operation.1
  Ok (record { id = id.0; operation = operation.0 })

-- what bytes begin with: a message and how many bytes it takes, less than a whole one, or what is
-- none, with the place of the first wrong element
pub data DecodedValue : Type 0 where
  whole : MessageValue → ℕ → DecodedValue
  unfinished : DecodedValue
  wrong : ℕ → DecodedValue

abbrev pub content_of : ℕ → Result MessageValue ℕ → DecodedValue
content_of used (Ok message) = whole message used
content_of used (Err at) = wrong at

-- the outer element, where all of it is there
abbrev pub outer_of : Result Opened BerFault → DecodedValue
outer_of (Ok part) = content_of part.after.at (message_in part.contents)
outer_of (Err fault) = unfinished

-- behind the tag a length is unfinished, wrong, or told
abbrev pub framed : List ℕ → Result Header BerFault → DecodedValue
framed bytes (Ok header) = if nat_lt 16777216 header.length then wrong 1 else outer_of (element_at (start_of bytes))
framed bytes (Err (BadTag at)) = wrong 1
framed bytes (Err (Indefinite at)) = wrong 1
framed bytes (Err (TooLong at)) = wrong 1
framed bytes (Err Short) = unfinished
framed bytes (Err (BadInteger at)) = wrong 1

unfoldable pub decode_of : List ℕ → DecodedValue
decode_of [] = unfinished
decode_of (first ∷ rest) = if first == 48 then framed (first ∷ rest) (header_at 0 (first ∷ rest)) else wrong 0
