-- Which lines have a form.
use Rattle.std.specs.Prelude.{ℕ, ◌+◌, ◌-◌, ◌^◌, Bool, true, false, ◌&&◌, ◌==◌, not, nat_le, if◌then◌else◌, List, [], ◌∷◌, codes, Option, Some, None}
use Rattle.std.specs.List.{list_all}
use Rattle.std.specs.Cmp.Lexicographic.{pointwise}
use Rattle.sd_pieces.specs.Pieces.{cut_of, pieces, pieces_in}
use Rattle.sd_pieces.specs.Digits.{value_of}
use Rattle.sd_idmap.specs.declared.sids.Sid.{Sid}
use Rattle.sd_idmap.specs.declared.lines.Line.{Line}
use Rattle.sd_idmap.specs.declared.lines.Line.TheVariants as kinds
use Rattle.sd_idmap.specs.Sids.{numbers_of, is_domain}
use Rattle.sd_idmap.specs.Reading.{is_digit, sid_in}

-- the lines, without the line feeds that end them
abbrev pub lines_of : List ℕ → List (List ℕ)
lines_of text = pieces 10 text

-- the lines of what is left, where something is
abbrev pub lines_in : Option (List ℕ) → List (List ℕ)
lines_in rest = pieces_in 10 rest

-- digits of which the first is 0 only where it stands alone
abbrev pub is_canonical : List ℕ → Bool
is_canonical [] = false
is_canonical (b ∷ []) = is_digit b
is_canonical (b ∷ c ∷ bs) = not (b == 48) && list_all is_digit (b ∷ c ∷ bs)

-- a number of 32 bits in decimal, without a sign or a leading zero
abbrev pub number_of : List ℕ → Option ℕ
number_of word = if is_canonical word && nat_le (value_of word) (2 ^ 32 - 1) then Some (value_of word) else None

abbrev pub same_word : List ℕ → List ℕ → Bool
same_word = pointwise ◌==◌

abbrev pub domain_form : Option Sid → Line
domain_form None = kinds.Bad
domain_form (Some sid) = if is_domain (numbers_of sid) then kinds.Domain sid else kinds.Bad

abbrev pub id_form : Option Sid → Line
id_form None = kinds.Bad
id_form (Some sid) = kinds.Id sid

abbrev pub number_form : Option ℕ → Line
number_form None = kinds.Bad
number_form (Some n) = kinds.Number n

-- a word, and what stands behind the space that ends it
abbrev pub form : List ℕ → List ℕ → Line
form word rest =
    if same_word word (codes "domain") then domain_form (sid_in rest)
    else if same_word word (codes "id") then id_form (sid_in rest)
    else if same_word word (codes "sid") then number_form (number_of rest)
    else kinds.Bad

abbrev pub form_of : List ℕ × Option (List ℕ) → Line
form_of (word, None) = kinds.Bad
form_of (word, Some rest) = form word rest

-- empty lines and those that begin with `#` are passed over
abbrev pub is_skipped : List ℕ → Bool
is_skipped [] = true
is_skipped (b ∷ bs) = b == 35

abbrev pub line_of : List ℕ → Line
line_of line = if is_skipped line then kinds.Skipped else form_of (cut_of 32 line)

-- what is asked for as a domain may be one
abbrev pub is_fit : Line → Bool
is_fit (kinds.Domain sid) = is_domain (numbers_of sid)
is_fit _ = true

abbrev pub is_bad : Line → Bool
is_bad kinds.Bad = true
is_bad _ = false

-- the number of the first line without a form, where the first line has the number n
abbrev pub first_bad_from : ℕ → List (List ℕ) → Option ℕ
first_bad_from n [] = None
first_bad_from n (line ∷ lines) = if is_bad (line_of line) then Some n else first_bad_from (n + 1) lines

abbrev pub first_bad : List ℕ → Option ℕ
first_bad text = first_bad_from 1 (lines_of text)
