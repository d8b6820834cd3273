-- As long as fewer than 10000 domains have a slice, one is free.
use Rattle.std.specs.Prelude.{◌==◌, ◌||◌, find}
use Rattle.std.proofs.Common.{◌≡◌, ◌<◌, ◌≤◌, ℕ, zero, suc, ◌+◌, ◌-◌, Bool, true, false, cond, [], ◌∷◌, length, Option, Some, None, refl, sym, ap, ◌∙◌, arith, inl, inr, ◌⊎◌}
use Rattle.std.specs.List.{list_any, range_with_len}
use Rattle.std.specs.Option.{option_or}
use Rattle.std.proofs.lemmas.Bool.{cases_Bool, eqb-true, ne_eqb, or_left, or_right, or_cases, not-false, not-true, cases_lt}
use Rattle.std.proofs.lemmas.List.Folds.{find-append}
use Rattle.sd_idmap.specs.Slicing.{Placed, is_free, free_slice}

-- the pairs of other slices
without : ℕ → Placed → Placed
without n [] = []
without n (p ∷ ps) = cond (n == p.1) (without n ps) (p ∷ without n ps)

without_below : (n : ℕ) (ps : Placed) → length (without n ps) ≤ length ps
unfolding without
without_below n [] = omega arith
without_below n (p ∷ ps) =
    let rest : length (without n ps) ≤ length ps = without_below n ps in
    elim (n == p.1) as (λ t. length (cond t (without n ps) (p ∷ without n ps)) ≤ suc (length ps)) [ true ↦ omega arith | false ↦ omega arith ]

without_shorter : (n : ℕ) (ps : Placed) → list_any (λ p. n == p.1) ps ≡ true → length (without n ps) < length ps
unfolding without
without_shorter n [] h = absurd cc
without_shorter n (p ∷ ps) h = by (n == p.1) h (without_below n ps) (without_shorter n ps)
  where
    by : (t : Bool) → (t || list_any (λ q. n == q.1) ps) ≡ true → length (without n ps) ≤ length ps → (list_any (λ q. n == q.1) ps ≡ true → length (without n ps) < length ps) → length (cond t (without n ps) (p ∷ without n ps)) < suc (length ps)
    by true k below rest = omega arith
    by false k below rest = let less : length (without n ps) < length ps = rest k in omega arith

without_others : (n s : ℕ) (ps : Placed) → (s ≡ n → ⊥) → list_any (λ p. s == p.1) ps ≡ true → list_any (λ p. s == p.1) (without n ps) ≡ true
unfolding without
without_others n s [] other h = absurd cc
without_others n s (p ∷ ps) other h =
    elim (cases_Bool (n == p.1)) [
      | inl e ↦
          let at : n ≡ p.1 = eqb-true n p.1 e in
          let differs : (s == p.1) ≡ false = ne_eqb s p.1 (λ k. other (k ∙ sym at)) in
          ap (λ (t : Bool). list_any (λ q. s == q.1) (cond t (without n ps) (p ∷ without n ps))) e
          ∙ without_others n s ps other (sym (ap (λ (t : Bool). t || list_any (λ q. s == q.1) ps) differs) ∙ h)
      | inr e ↦
          ap (λ (t : Bool). list_any (λ q. s == q.1) (cond t (without n ps) (p ∷ without n ps))) e
          ∙ elim (or_cases (s == p.1) (list_any (λ q. s == q.1) ps) h) [
            | inl k ↦ or_left (s == p.1) (list_any (λ q. s == q.1) (without n ps)) k
            | inr k ↦ or_right (s == p.1) (list_any (λ q. s == q.1) (without n ps)) (without_others n s ps other k)
          ]
    ]

-- so many slices that are taken need so many pairs
pigeons : (n : ℕ) (ps : Placed) → ((s : ℕ) → s < n → list_any (λ p. s == p.1) ps ≡ true) → n ≤ length ps
pigeons zero ps taken = omega arith
pigeons (suc n) ps taken =
    let fewer : length (without n ps) < length ps = without_shorter n ps (taken n (omega arith)) in
    let rest : n ≤ length (without n ps) = pigeons n (without n ps) (λ s below. let less : s < n = below in without_others n s ps (λ e. omega arith) (taken s (omega arith))) in
    omega arith

not_found : (f : ℕ → Bool) (n a s : ℕ) → find f (range_with_len a n) ≡ None → a ≤ s → s < a + n → f s ≡ false
not_found f zero a s h low high = absurd (omega arith)
not_found f (suc n) a s h low high =
    elim (cases_Bool (f a)) [
      | inl e ↦ let k : Some a ≡ None = sym (ap (λ (t : Bool). cond t (Some a) (find f (range_with_len (a + 1) n))) e) ∙ h in absurd cc
      | inr e ↦
          let k : find f (range_with_len (a + 1) n) ≡ None = sym (ap (λ (t : Bool). cond t (Some a) (find f (range_with_len (a + 1) n))) e) ∙ h in
          elim (cases_lt a s) [
            | inl above ↦ not_found f n (a + 1) s k (omega arith) (omega arith)
            | inr at ↦ let same : s ≡ a = omega arith in ap f same ∙ e
          ]
    ]

neither : (o p : Option ℕ) → option_or o p ≡ None → (o ≡ None) × (p ≡ None)
neither None p h = (refl, h)
neither (Some x) p h = absurd cc

all_taken : (ps : Placed) (first : ℕ) → free_slice ps first ≡ None → (s : ℕ) → s < 10000 → list_any (λ p. s == p.1) ps ≡ true
all_taken ps first h s below =
    let both = neither (find (is_free ps) (range_with_len first (10000 - first))) (find (is_free ps) (range_with_len 0 first)) (sym (find-append (is_free ps) (range_with_len first (10000 - first)) (range_with_len 0 first)) ∙ h) in
    not-false (list_any (λ p. s == p.1) ps)
    (elim (cases_lt s first) [
      | inl less ↦ not_found (is_free ps) first 0 s both.1 (omega arith) (omega arith)
      | inr above ↦ not_found (is_free ps) (10000 - first) first s both.0 above (omega arith)
    ])

pub one_is_free : (ps : Placed) (first : ℕ) → free_slice ps first ≡ None → 10000 ≤ length ps
one_is_free ps first h = pigeons 10000 ps (all_taken ps first h)

-- ---- what was found

found_in : (f : ℕ → Bool) (n a s : ℕ) → find f (range_with_len a n) ≡ Some s → (f s ≡ true) × (s < a + n)
found_in f zero a s h = absurd cc
found_in f (suc n) a s h =
    elim (cases_Bool (f a)) [
      | inl e ↦
          let k : Some a ≡ Some s = sym (ap (λ (t : Bool). cond t (Some a) (find f (range_with_len (a + 1) n))) e) ∙ h in
          let at : a ≡ s = cc in
          (ap f (sym at) ∙ e, omega arith)
      | inr e ↦
          let rest = found_in f n (a + 1) s (sym (ap (λ (t : Bool). cond t (Some a) (find f (range_with_len (a + 1) n))) e) ∙ h) in
          let below : s < a + 1 + n = rest.1 in
          (rest.0, omega arith)
    ]

either : (o p : Option ℕ) (s : ℕ) → option_or o p ≡ Some s → (o ≡ Some s) ⊎ (p ≡ Some s)
either None p s h = inr h
either (Some x) p s h = inl h

pub free_is : (ps : Placed) (first s : ℕ) → first < 10000 → free_slice ps first ≡ Some s → (list_any (λ p. s == p.1) ps ≡ false) × (s < 10000)
free_is ps first s low h =
    elim (either (find (is_free ps) (range_with_len first (10000 - first))) (find (is_free ps) (range_with_len 0 first)) s (sym (find-append (is_free ps) (range_with_len first (10000 - first)) (range_with_len 0 first)) ∙ h)) [
      | inl k ↦ let f = found_in (is_free ps) (10000 - first) first s k in let below : s < first + (10000 - first) = f.1 in (not-true (list_any (λ p. s == p.1) ps) f.0, omega arith)
      | inr k ↦ let f = found_in (is_free ps) first 0 s k in let below : s < 0 + first = f.1 in (not-true (list_any (λ p. s == p.1) ps) f.0, omega arith)
    ]
