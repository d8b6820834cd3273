-- What a reader gives of the bytes that are left.
use Rattle.std.specs.Prelude.{ℕ, ℤ, ◌+◌, ◌-◌, ◌%◌, ◌==◌, ◌||◌, List, [], ◌∷◌, length, take, drop, nat_lt, if◌then◌else◌, Option, Some, None, Result, Ok, Err}
use Rattle.sd_ber.specs.Octets.{number, twos_complement}
use Rattle.sd_ber.specs.declared.header.Header.{Header}
use Rattle.sd_ber.specs.declared.fault.BerFault.{BerFault}
use Rattle.sd_ber.specs.declared.fault.BerFault.TheVariants.{BadTag, Indefinite, TooLong, Short, BadInteger}

-- the place of the next byte, and the bytes that are left
pub record Reading : Type 0 where
  pub at : ℕ
  pub rest : List ℕ

-- an element that was read: its tag, its contents, and what comes after it
pub record Opened : Type 0 where
  pub tag : ℕ
  pub contents : Reading
  pub after : Reading

-- an element by its place
pub record Element : Type 0 where
  pub tag : ℕ
  pub at : ℕ
  pub body : List ℕ

infixl 10 ◌>>=◌
abbrev pub ◌>>=◌ : {A B : Type 0} → Result A BerFault → (A → Result B BerFault) → Result B BerFault
(Ok x) >>= f = f x
(Err e) >>= f = Err e

-- behind a tag: how many octets a length takes, and the length; the tag is at a place
abbrev pub length_at : ℕ → List ℕ → Result (ℕ × ℕ) BerFault
length_at at [] = Err Short
length_at at (first ∷ octets) =
    if nat_lt first 128 then Ok (1, first)
    else if first == 128 then Err (Indefinite at)
    else if nat_lt 132 first then Err (TooLong at)
    else if nat_lt (length octets) (first - 128) then Err Short
    else Ok (first - 127, number (take (first - 128) octets))

-- the tag and the length in front of contents; tags of several octets end in five ones
unfoldable pub header_at : ℕ → List ℕ → Result Header BerFault
header_at at [] = Err Short
header_at at (tag ∷ octets) =
    if tag % 32 == 31 then Err (BadTag at) else (length_at at octets >>= λ found. Ok (record { tag = tag; size = 1 + found.0; length = found.1 }))

abbrev pub reading_of : ℕ → List ℕ → Reading
reading_of at bytes = record { at = at; rest = bytes }

-- reading begins at place 0
abbrev pub start_of : List ℕ → Reading
start_of bytes = reading_of 0 bytes

-- the element behind a header, where all of it is there
abbrev pub opened_by : Reading → Header → Result Opened BerFault
opened_by r h =
    if nat_lt (length r.rest) (h.size + h.length) then Err Short
    else Ok (record {
      tag = h.tag;
      contents = reading_of (r.at + h.size) (take h.length (drop h.size r.rest));
      after = reading_of (r.at + h.size + h.length) (drop h.length (drop h.size r.rest));
    })

-- the element in front
unfoldable pub element_at : Reading → Result Opened BerFault
element_at r = header_at r.at r.rest >>= opened_by r

-- an element at a place: tag, octets of the length, contents, and what comes after it
abbrev pub opened_after : ℕ → ℕ → List ℕ → List ℕ → List ℕ → Opened
opened_after at tag octets body more =
    record {
      tag = tag;
      contents = reading_of (at + (1 + length octets)) body;
      after = reading_of (at + (1 + length octets) + length body) more;
    }

abbrev pub seen_in : Reading → Opened → Element
seen_in r o = record { tag = o.tag; at = r.at; body = o.contents.rest }

-- the next element: none at the end
abbrev pub next_of : Reading → Result (Option Element) BerFault
next_of r = if length r.rest == 0 then Ok None else (element_at r >>= λ o. Ok (Some (seen_in r o)))

-- where reading goes on: behind the element that was read, else where it was
abbrev pub after_read : Reading → Result Opened BerFault → Reading
after_read r (Ok o) = o.after
after_read r (Err fault) = r

abbrev pub after_next : Reading → Reading
after_next r = if length r.rest == 0 then r else after_read r (element_at r)

-- the number that contents at a place spell
abbrev pub integer_at : ℕ → List ℕ → Result ℤ BerFault
integer_at at body = if length body == 0 || nat_lt 8 (length body) then Err (BadInteger at) else Ok (twos_complement body)
