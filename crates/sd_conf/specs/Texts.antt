-- Blanks, lists, TRUE and FALSE.
use Rattle.std.specs.Prelude.{ℕ, Bool, true, false, ◌||◌, not, ◌==◌, if◌then◌else◌, List, [], ◌∷◌, map, filter, reverse, Option, Some, None, codes}
use Rattle.sd_pieces.specs.Pieces.{pieces}
use Rattle.sd_dn.specs.Comparing.{same_text}

-- space, tab, carriage return
abbrev pub is_blank : ℕ → Bool
is_blank b = (b == 32 || b == 9) || b == 13

abbrev pub without_first_blanks : List ℕ → List ℕ
without_first_blanks [] = []
without_first_blanks (b ∷ bs) = if is_blank b then without_first_blanks bs else b ∷ bs

abbrev pub without_last_blanks : List ℕ → List ℕ
without_last_blanks bs = reverse (without_first_blanks (reverse bs))

-- without the blanks at both ends
abbrev pub trimmed : List ℕ → List ℕ
trimmed bs = without_last_blanks (without_first_blanks bs)

abbrev pub is_empty : List ℕ → Bool
is_empty [] = true
is_empty (b ∷ bs) = false

-- the items of a list with commas: trimmed, and none empty
abbrev pub items_of : List ℕ → List (List ℕ)
items_of bs = filter (λ x. not (is_empty x)) (map trimmed (pieces 44 bs))

-- TRUE or FALSE, without ASCII case
abbrev pub flag_of : List ℕ → Option Bool
flag_of bs = if same_text bs (codes "true") then Some true else if same_text bs (codes "false") then Some false else None
