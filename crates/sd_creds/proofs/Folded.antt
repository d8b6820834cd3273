-- What the bits that differ say, folded over two lists.
use Rattle.std.proofs.Common.{◌≡◌, ◌≤◌, ◌<◌, ◌+◌, ◌↔◌, ℕ, nat_eq, List, length, get_or, sym, ap, ◌∙◌, arith, below_more}
use Rattle.std.specs.Prelude.{IsTrue}
use Rattle.std.proofs.lemmas.Bool.{eqb-true}
use Rattle.std.proofs.lemmas.List.{ext_get_or}
use Rattle.std.specs.Int.Bits.{bit_or, bit_xor, xor_assoc, xor_self, xor_zero_l, xor_zero_r, or_self}
use Rattle.std.proofs.lemmas.Nat.{le_or_l, le_or_r}

-- two numbers with no bit that differs are equal
pub same_bits : (a b : ℕ) → bit_xor a b ≡ 0 → a ≡ b
same_bits a b e =
    sym (xor_zero_r a) ∙ ap (λ (x : ℕ). bit_xor a x) (sym (xor_self b)) ∙ sym (xor_assoc a b b) ∙ ap (λ (x : ℕ). bit_xor x b) e ∙ xor_zero_l b

-- no bit of either
pub no_bit_left : (a b : ℕ) → bit_or a b ≡ 0 → a ≡ 0
no_bit_left a b e = let below : a ≤ bit_or a b = le_or_l a b in omega arith

pub no_bit_right : (a b : ℕ) → bit_or a b ≡ 0 → b ≡ 0
no_bit_right a b e = let below : b ≤ bit_or a b = le_or_r a b in omega arith

-- two lists are equal below a place
abbrev EqualBelow : List ℕ → List ℕ → ℕ → Type 0
EqualBelow a b n = (k : ℕ) → k < n → get_or a k 0 ≡ get_or b k 0

no_bit_differs : (x y : ℕ) → x ≡ y → bit_xor x y ≡ 0
no_bit_differs x y e = ap (λ (z : ℕ). bit_xor z y) e ∙ xor_self y

no_bits : (d x : ℕ) → d ≡ 0 → x ≡ 0 → bit_or d x ≡ 0
no_bits d x e f = ap (λ (z : ℕ). bit_or z x) e ∙ ap (λ (z : ℕ). bit_or 0 z) f ∙ or_self 0

pub one_more : (d : ℕ) (a b : List ℕ) (n : ℕ) → ((d ≡ 0) ↔ EqualBelow a b n) → (bit_or d (bit_xor (get_or a n 0) (get_or b n 0)) ≡ 0) ↔ EqualBelow a b (n + 1)
one_more d a b n h =
    let x : ℕ = bit_xor (get_or a n 0) (get_or b n 0) in (
      λ e. below_more (λ k. get_or a k 0 ≡ get_or b k 0) n (h.0 (no_bit_left d x e)) (same_bits (get_or a n 0) (get_or b n 0) (no_bit_right d x e)),
      λ all. no_bits d x (h.1 (λ k lt. all k (omega arith))) (no_bit_differs (get_or a n 0) (get_or b n 0) (all n (omega arith))),
    )

-- all were compared
pub all_compared : (d : ℕ) (a b : List ℕ) (n : ℕ) → length a ≡ n → length b ≡ n → ((d ≡ 0) ↔ EqualBelow a b n) → (IsTrue (nat_eq d 0)) ↔ (a ≡ b)
all_compared d a b n la lb h = (
  λ e. ext_get_or 0 a b (omega arith) (λ i lt. h.0 (eqb-true d 0 e) i (omega arith)),
  λ e. ap (λ (z : ℕ). nat_eq z 0) (h.1 (λ k lt. ap (λ (l : List ℕ). get_or l k 0) e)),
)
