-- Texts of SIDs, number by number.
use Rattle.std.proofs.Common.{◌≡◌, ℕ, List, [], ◌∷◌, ◌++◌, sym, ap, ◌∙◌, append_assoc}
use Rattle.std.specs.List.{flat_map}
use Rattle.std.proofs.lemmas.List.{append-nil}
use Rattle.sd_idmap.specs.Sids.{part, text_of}

-- one more number goes behind the others
pub parts_push : (numbers : List ℕ) (n : ℕ) → flat_map part (numbers ++ n ∷ []) ≡ flat_map part numbers ++ part n
parts_push [] n = append-nil (part n)
parts_push (m ∷ ms) n = ap (λ (w : List ℕ). part m ++ w) (parts_push ms n) ∙ sym (append_assoc (part m) (flat_map part ms) (part n))

pub text_push : (numbers : List ℕ) (n : ℕ) → text_of (numbers ++ n ∷ []) ≡ text_of numbers ++ part n
text_push numbers n = ap (λ (w : List ℕ). 83 ∷ 45 ∷ 49 ∷ w) (parts_push numbers n)
