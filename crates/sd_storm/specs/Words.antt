-- How many requests a word asks for.
use Rattle.std.specs.Prelude.{ℕ, Bool, false, ◌==◌, if◌then◌else◌, List, [], ◌∷◌, Option, None}
use Rattle.sd_pieces.specs.Digits.{number_up_to}

abbrev pub leads_with_zero : List ℕ → Bool
leads_with_zero [] = false
leads_with_zero (b ∷ bs) = b == 48

-- a number from 1 to 100000, without a zero before its digits
abbrev pub requests_of : List ℕ → Option ℕ
requests_of word = if leads_with_zero word then None else number_up_to 100000 word
