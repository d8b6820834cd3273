-- The lines of a text, and the lines that are left once those that continue others are put behind these.
use Rattle.std.specs.Prelude.{ℕ, ◌+◌, ◌-◌, ◌^◌, min, Bool, false, ◌&&◌, ◌==◌, nat_lt, if◌then◌else◌, List, [], ◌∷◌, ◌++◌, length, take, drop, Option, Some, None, slice_index}
use Rattle.std.specs.List.{slice_split}
use Rattle.sd_ldif.specs.declared.lines.Line.{Line as KeptLine}

-- without the carriage return at the end
abbrev pub without_return : List ℕ → List ℕ
without_return bs = if nat_lt 0 (length bs) && slice_index bs (length bs - 1) == 13 then take (length bs - 1) bs else bs

-- the pieces between line feeds: all but the last end in LF, or in CR LF
abbrev pub ended_lines : List (List ℕ) → List (List ℕ)
ended_lines [] = []
ended_lines (last ∷ []) = last ∷ []
ended_lines (piece ∷ next ∷ pieces) = without_return piece ∷ ended_lines (next ∷ pieces)

-- the lines of a text, which end in LF, in CR LF, or where the text ends
abbrev pub lines_of : List ℕ → List (List ℕ)
lines_of text = ended_lines (slice_split (λ b. b == 10) text)

-- a line and its number
pub record Line : Type 0 where
  pub number : ℕ
  pub text : List ℕ

abbrev pub line : ℕ → List ℕ → Line
line number text = record { number = number; text = text }

-- numbers are told up to 4294967295
abbrev pub next_number : ℕ → ℕ
next_number number = min (number + 1) (2 ^ 32 - 1)

abbrev pub numbered_from : ℕ → List (List ℕ) → List Line
numbered_from number [] = []
numbered_from number (text ∷ texts) = line number text ∷ numbered_from (next_number number) texts

abbrev pub begins_with_space : List ℕ → Bool
begins_with_space [] = false
begins_with_space (b ∷ bs) = b == 32

-- a line goes on with what stands behind the space of the next
abbrev pub continued : Line → List ℕ → Line
continued l next = line l.number (l.text ++ drop 1 next)

-- a line and those behind it, of which some continue it
abbrev pub unfolded_from : Line → List Line → List Line
unfolded_from l [] = l ∷ []
unfolded_from l (next ∷ more) = if begins_with_space next.text then unfolded_from (continued l next.text) more else l ∷ unfolded_from next more

-- the lines, each with those that continue it; the first continues none
abbrev pub unfolded : List Line → List Line
unfolded [] = []
unfolded (first ∷ more) = unfolded_from first more

-- the lines of a text, unfolded and numbered
abbrev pub lines_in : List ℕ → List Line
lines_in text = unfolded (numbered_from 1 (lines_of text))

-- ---- what the code keeps

-- a first piece as a line: it ends in LF, or in CR LF, where a text is left behind it
abbrev pub ended_piece : List ℕ → Option (List ℕ) → List ℕ
ended_piece piece None = piece
ended_piece piece (Some rest) = without_return piece

abbrev pub lines_left : Option (List ℕ) → List (List ℕ)
lines_left None = []
lines_left (Some text) = lines_of text

abbrev pub seen : KeptLine → Line
seen l = line l.number l.text.items
