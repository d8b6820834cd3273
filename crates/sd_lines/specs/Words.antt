-- Lines, words, numbers and names of a scenario's text.
use Rattle.std.specs.Prelude.{ℕ, Bool, true, false, ◌&&◌, ◌||◌, ◌==◌, ◌+◌, ◌-◌, ◌*◌, ◌^◌, not, nat_le, List, [], ◌∷◌, Option, Some, None, filter, fold, length, if◌then◌else◌}
use Rattle.std.specs.List.{slice_split, list_all}
use Rattle.sd_pieces.specs.Digits.{is_digit, number_up_to}
pub use Rattle.sd_pieces.specs.Pieces.{cut_of, pieces_in}

abbrev pub is_empty : List ℕ → Bool
is_empty [] = true
is_empty (b ∷ bs) = false

-- the lines, without the line feeds that end them
abbrev pub lines_of : List ℕ → List (List ℕ)
lines_of text = slice_split (λ b. b == 10) text

-- the words of a line, which spaces part
abbrev pub words_of : List ℕ → List (List ℕ)
words_of line = filter (λ w. not (is_empty w)) (slice_split (λ b. b == 32) line)

-- a number that fits 32 bits
abbrev pub id_of : List ℕ → Option ℕ
id_of w = number_up_to (2 ^ 32 - 1) w

-- a letter, a digit, a dot, an underscore or a hyphen
abbrev pub is_name_byte : ℕ → Bool
is_name_byte b =
    is_digit b || ((nat_le 65 b && nat_le b 90) || ((nat_le 97 b && nat_le b 122) || ((b == 46) || ((b == 95) || (b == 45)))))

-- a name of 1 to 255 such bytes
abbrev pub is_short_name : List ℕ → Bool
is_short_name w = not (is_empty w) && (nat_le (length w) 255 && list_all is_name_byte w)

-- a printed byte of ASCII, but for the space
abbrev pub is_visible : ℕ → Bool
is_visible b = nat_le 33 b && nat_le b 126

-- a word of 1 to 255 such bytes
abbrev pub is_word : List ℕ → Bool
is_word w = not (is_empty w) && (nat_le (length w) 255 && list_all is_visible w)

-- the words, where they are so many
abbrev pub one_of : List (List ℕ) → Option (List ℕ)
one_of (a ∷ []) = Some a
one_of _ = None

abbrev pub pair_of : List (List ℕ) → Option (List ℕ × List ℕ)
pair_of (a ∷ b ∷ []) = Some (a, b)
pair_of _ = None

-- the first words, where there are so many, and those behind them
abbrev pub first_of : List (List ℕ) → Option (List ℕ × List (List ℕ))
first_of (a ∷ ws) = Some (a, ws)
first_of _ = None

abbrev pub two_of : List (List ℕ) → Option (List ℕ × (List ℕ × List (List ℕ)))
two_of (a ∷ b ∷ ws) = Some (a, (b, ws))
two_of _ = None

abbrev pub three_of : List (List ℕ) → Option (List ℕ × (List ℕ × (List ℕ × List (List ℕ))))
three_of (a ∷ b ∷ c ∷ ws) = Some (a, (b, (c, ws)))
three_of _ = None

-- the letter of a word `L:NAME`, and the name
abbrev pub tag_of : List ℕ → Option (ℕ × List ℕ)
tag_of (letter ∷ colon ∷ name) = if colon == 58 then Some (letter, name) else None
tag_of _ = None

-- what each word says, where each says something
abbrev pub with_first : {A : Type 0} → Option A → Option (List A) → Option (List A)
with_first None more = None
with_first (Some a) None = None
with_first (Some a) (Some more) = Some (a ∷ more)

abbrev pub all_of : {A : Type 0} → (List ℕ → Option A) → List (List ℕ) → Option (List A)
all_of one [] = Some []
all_of one (w ∷ ws) = with_first (one w) (all_of one ws)

-- a line without the spaces at its front
abbrev pub without_spaces : List ℕ → List ℕ
without_spaces [] = []
without_spaces (b ∷ bs) = if b == 32 then without_spaces bs else b ∷ bs

-- the first word of a line, and what stands behind the space that ends it, where one does
abbrev pub first_word : List ℕ → List ℕ × Option (List ℕ)
first_word line = cut_of 32 (without_spaces line)
