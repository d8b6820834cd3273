-- Spaces behind a text.
use Rattle.std.specs.Prelude.{◌==◌}
use Rattle.std.proofs.Common.{◌≡◌, ℕ, Bool, true, false, cond, List, [], ◌∷◌, ◌++◌, ◌+◌, ◌<◌, length, take, get_or, refl, sym, ap, ◌∙◌}
use Rattle.std.proofs.lemmas.Bool.{eq-eqb, ne_eqb}
use Rattle.std.proofs.lemmas.List.{take_more}
use Rattle.sd_triples.specs.Grammar.{with_byte, without_end}

pub end_space : (xs : List ℕ) (b : ℕ) → (b == 32) ≡ true → without_end (xs ++ b ∷ []) ≡ without_end xs
end_space [] b h = ap (λ (t : Bool). cond t [] (b ∷ [])) h
end_space (x ∷ xs) b h = ap (with_byte x) (end_space xs b h)

with_more : (x : ℕ) (xs : List ℕ) (b : ℕ) → with_byte x (xs ++ b ∷ []) ≡ x ∷ (xs ++ b ∷ [])
with_more x [] b = refl
with_more x (y ∷ ys) b = refl

pub end_other : (xs : List ℕ) (b : ℕ) → (b == 32) ≡ false → without_end (xs ++ b ∷ []) ≡ xs ++ b ∷ []
end_other [] b h = ap (λ (t : Bool). cond t [] (b ∷ [])) h
end_other (x ∷ xs) b h = ap (with_byte x) (end_other xs b h) ∙ with_more x xs b

pub space_behind : (bytes : List ℕ) (place : ℕ) → place < length bytes → get_or bytes place 0 ≡ 32 → without_end (take (place + 1) bytes) ≡ without_end (take place bytes)
space_behind bytes place within is =
    ap without_end (take_more bytes place 0 within) ∙ end_space (take place bytes) (get_or bytes place 0) (eq-eqb (get_or bytes place 0) 32 is)

pub other_behind : (bytes : List ℕ) (place : ℕ) → place < length bytes → (get_or bytes place 0 ≡ 32 → ⊥) → without_end (take (place + 1) bytes) ≡ take (place + 1) bytes
other_behind bytes place within other =
    ap without_end (take_more bytes place 0 within)
    ∙ (end_other (take place bytes) (get_or bytes place 0) (ne_eqb (get_or bytes place 0) 32 other) ∙ sym (take_more bytes place 0 within))

pub ruleset ends = (space_behind, other_behind)
