-- The order of bytes.
use Rattle.std.proofs.Common.{◌≡◌, ℕ, zero, suc, ◌<◌, ◌≤◌, Bool, false, List, [], ◌∷◌, length, drop, refl, sym, ap, ◌∙◌, arith, drop_of_length-le}
use Rattle.sd_match.specs.Matching.{bytes_up_to}

cut : (a : List ℕ) (i : ℕ) → i < length a → bytes_up_to (drop i a) [] ≡ false
cut [] i lt = absurd (omega arith)
cut (x ∷ xs) zero lt = refl
cut (x ∷ xs) (suc i) lt = cut xs i (omega arith)

-- where the other text ends first
pub passed_end : (a b : List ℕ) (i : ℕ) (v : Bool) → i < length a → length b ≤ i → bytes_up_to (drop i a) (drop i b) ≡ v → false ≡ v
passed_end a b i v lt le e = sym (ap (λ (t : List ℕ). bytes_up_to (drop i a) t) (drop_of_length-le b le) ∙ cut a i lt) ∙ e
