-- How filters are read.
use Rattle.std.specs.Prelude.{ℕ, zero, suc, ◌==◌, ◌||◌, Bool, true, false, if◌then◌else◌, List, [], ◌∷◌, length, Option, Some, None, Result, Ok, Err}
use Rattle.sd_ber.specs.Reading.{Reading, Opened, element_at}
use Rattle.sd_ber.specs.declared.fault.BerFault.{BerFault}
use Rattle.sd_ldap.specs.declared.filter.Pieces.{Pieces}
use Rattle.sd_ldap.specs.Filters.{FilterValue, both, either, negated, equal, substrings, at_least, at_most, present, unsupported, filters_of}
use Rattle.sd_ldap.specs.Monad.{◌>>=◌, ended, all_of}
use Rattle.sd_ldap.specs.Parts.{part_at, expected, text_in}

-- an attribute and a value, and no more
unfoldable pub pair_in : Reading → Result (List ℕ × List ℕ) ℕ
pair_in r = do
  name ← text_in 4 r
  value ← text_in 4 name.1
  ended (name.0, value.0) value.1

abbrev pub begins_with : ℕ → List ℕ → Bool
begins_with tag [] = false
begins_with tag (first ∷ rest) = first == tag

abbrev pub text_opened : Reading → Result Opened BerFault → Option (List ℕ) × Reading
text_opened r (Ok part) = (Some part.contents.rest, part.after)
text_opened r (Err fault) = (None, r)

-- the text of the next element, where it has this tag; else nothing is read
unfoldable pub optional_in : ℕ → Reading → Option (List ℕ) × Reading
optional_in tag r = if begins_with tag r.rest then text_opened r (element_at r) else (None, r)

-- the texts of the next elements of a tag; the number bounds them
abbrev pub run_step : (Reading → List (List ℕ) × Reading) → Option (List ℕ) × Reading → List (List ℕ) × Reading
run_step others (None, r) = ([], r)
run_step others (Some text, after) = (text ∷ (others after).0, (others after).1)

unfoldable pub run_in : ℕ → ℕ → Reading → List (List ℕ) × Reading
run_in tag zero r = ([], r)
run_in tag (suc n) r = run_step (λ after. run_in tag n after) (optional_in tag r)

abbrev pub last_piece : Option (List ℕ) → List (List ℕ) → Option (List ℕ) × Reading → Result Pieces ℕ
last_piece initial any last = ended (record { initial = initial; any = any; last = last.0 }) last.1

abbrev pub later_pieces : Option (List ℕ) → List (List ℕ) × Reading → Result Pieces ℕ
later_pieces initial any = last_piece initial any.0 (optional_in 130 any.1)

abbrev pub first_piece : Option (List ℕ) × Reading → Result Pieces ℕ
first_piece initial = later_pieces initial.0 (run_in 129 (length initial.1.rest) initial.1)

-- the parts of a value, its start, some in between, its end: one at a wrong place is left, and so is wrong
unfoldable pub pieces_in : Reading → Result Pieces ℕ
pieces_in r = first_piece (optional_in 128 r)

abbrev pub has_part : Option (List ℕ) → List (List ℕ) → Option (List ℕ) → Bool
has_part (Some text) any final = true
has_part None (text ∷ any) final = true
has_part None [] (Some text) = true
has_part None [] None = false

-- an attribute and parts, of which one is there; the filter itself is at a place
unfoldable pub substrings_in : ℕ → Reading → Result FilterValue ℕ
substrings_in at r = do
  name ← text_in 4 r
  list ← expected 48 name.1
  pieces ← pieces_in list.0
  if has_part pieces.initial pieces.any pieces.last then ended (substrings name.0 pieces.initial pieces.any pieces.last) list.1 else Err at

-- filters that compare an attribute with a value
abbrev pub compared : ℕ → List ℕ × List ℕ → FilterValue
compared tag pair = if tag == 163 then equal pair.0 pair.1 else if tag == 165 then at_least pair.0 pair.1 else at_most pair.0 pair.1

unfoldable pub comparison_of : ℕ → ℕ → Reading → Result FilterValue ℕ
comparison_of at tag r =
    if tag == 163 || tag == 165 || tag == 166 then (pair_in r >>= λ pair. Ok (compared tag pair)) else Err at

-- the one filter that is turned round
abbrev pub negation_in : (Reading → Result (FilterValue × Reading) ℕ) → Reading → Result FilterValue ℕ
negation_in inner r = inner r >>= λ filter. ended (negated filter.0) filter.1

-- the contents of a filter of a tag, and how the filters in it are read; the filter itself is at a place
unfoldable pub filter_of : (Reading → Result (FilterValue × Reading) ℕ) → ℕ → ℕ → Reading → Result FilterValue ℕ
filter_of inner at tag r =
    if tag == 160 then (all_of inner r >>= λ filters. Ok (both (filters_of filters)))
    else if tag == 161 then (all_of inner r >>= λ filters. Ok (either (filters_of filters)))
    else if tag == 162 then negation_in inner r
    else if tag == 164 then substrings_in at r
    else if tag == 135 then Ok (present r.rest)
    else if tag == 168 then Ok unsupported
    else if tag == 169 then Ok unsupported
    else comparison_of at tag r

-- a filter of at most so many levels: one deeper is wrong at the level that is too many
unfoldable pub filter_in : ℕ → Reading → Result (FilterValue × Reading) ℕ
filter_in zero r = Err r.at
filter_in (suc levels) r =
    part_at r >>= λ part. filter_of (λ inner. filter_in levels inner) r.at part.tag part.contents >>= λ filter. Ok (filter, part.after)
