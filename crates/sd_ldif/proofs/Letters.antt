-- Texts that are equal without ASCII case are equal to the same texts.
use Rattle.std.proofs.Common.{◌≡◌, ℕ, Bool, true, false, ◌&&◌, List, [], ◌∷◌, map, refl, sym, ap, ◌∙◌}
use Rattle.std.proofs.lemmas.Bool.{eq-eqb}
use Rattle.std.specs.Prelude.{nat_eq}
use Rattle.std.specs.Char.{to_ascii_lowercase, eq_ignore_ascii_case}
use Rattle.std.specs.Cmp.Lexicographic.{pointwise}
use Rattle.std.specs.Cmp.Lexicographic.{same_text as equal_text}
use Rattle.sd_dn.specs.Comparing.{same_text}

abbrev lowered : List ℕ → List ℕ
lowered text = map to_ascii_lowercase text

same_lowered : (a b : List ℕ) → same_text a b ≡ pointwise nat_eq (lowered a) (lowered b)
same_lowered [] [] = refl
same_lowered [] (y ∷ ys) = refl
same_lowered (x ∷ xs) [] = refl
same_lowered (x ∷ xs) (y ∷ ys) = ap (λ (b : Bool). eq_ignore_ascii_case x y && b) (same_lowered xs ys)

lowered_same : (a b : List ℕ) → same_text a b ≡ true → lowered a ≡ lowered b
lowered_same a b h = equal_text (lowered a) (lowered b) (sym h ∙ same_lowered a b)

pub same_right : (a b n : List ℕ) → same_text a b ≡ true → same_text n a ≡ same_text n b
same_right a b n h = same_lowered n a ∙ (ap (λ (w : List ℕ). pointwise nat_eq (lowered n) w) (lowered_same a b h) ∙ sym (same_lowered n b))

pub same_left : (a b n : List ℕ) → same_text a b ≡ true → same_text a n ≡ same_text b n
same_left a b n h = same_lowered a n ∙ (ap (λ (w : List ℕ). pointwise nat_eq w (lowered n)) (lowered_same a b h) ∙ sym (same_lowered b n))

same_self : (a : List ℕ) → same_text a a ≡ true
same_self [] = refl
same_self (x ∷ xs) = ap (λ (b : Bool). b && same_text xs xs) (eq-eqb (to_ascii_lowercase x) (to_ascii_lowercase x) refl) ∙ same_self xs

turned : (a b : List ℕ) → same_text a b ≡ true → same_text b a ≡ true
turned a b h = sym (same_left a b a h) ∙ same_self a

both_ways : (x y : Bool) → (x ≡ true → y ≡ true) → (y ≡ true → x ≡ true) → x ≡ y
both_ways true true f g = refl
both_ways true false f g = sym (f refl)
both_ways false true f g = g refl
both_ways false false f g = refl

pub same_turned : (a b : List ℕ) → same_text a b ≡ same_text b a
same_turned a b = both_ways (same_text a b) (same_text b a) (turned a b) (turned b a)
