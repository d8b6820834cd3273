-- Lists of views that are read by place, sums over them, and how often a number stands in a list.
use Rattle.std.proofs.Common.{◌≡◌, ℕ, zero, suc, ◌+◌, ◌-◌, ◌<◌, ◌≤◌, ◌≢◌, ◌⊎◌, Bool, true, false, cond, ◌==◌, List, [], ◌∷◌, ◌++◌, map, length, set, sym, refl, ap, ◌∙◌, subst, inl, inr, ⊎_elim, arith, length-append, get_or, drop, sum_by, filter, Contains}
use Rattle.std.proofs.lemmas.Bool.Decides.{nat_tests}
use Rattle.std.proofs.lemmas.Grind.{common_steps}
use Rattle.std.proofs.lemmas.List.Elements.{Contains-append_left, Contains-append_right, Contains-append_cases, Contains-push_cases}
use Rattle.std.proofs.lemmas.List.Sums.{sum_by-set, sum_by-cons, sum_by-append, get_or-le-sum_by}
use Rattle.std.proofs.Math.Seq.{drop-append_seam}
use mathlib.Core.Option.{some, some-injective, some-ne-none}
use mathlib.Core.List.{map-append}
use lib.ListN.{get_elem?}
use lib.Seq.{map-set}
use Rattle.atomic_table.proofs.Lists.{at_set, set_again, at_map}
use Rattle.sd_turn.specs.Counts.{occurrences, once_between}

module _ {A : Type 0} where
  pub at_put : (xs : List A) (i : ℕ) (v w : A) → get_elem? xs i ≡ some v → get_elem? (set xs i w) i ≡ some w
  at_put [] i v w e = absurd (some-ne-none v (sym e))
  at_put (x ∷ xs) zero v w e = refl
  at_put (x ∷ xs) (suc i) v w e = at_put xs i v w e

  pub at_length : (xs : List A) (i : ℕ) (v : A) → get_elem? xs i ≡ some v → i < length xs
  at_length [] i v e = absurd (some-ne-none v (sym e))
  at_length (x ∷ xs) zero v e = omega arith
  at_length (x ∷ xs) (suc i) v e = let s = at_length xs i v e in omega arith

  -- Two elements at one place are one.
  pub at_one : (xs : List A) (i j : ℕ) (v w : A) → get_elem? xs i ≡ some v → get_elem? xs j ≡ some w → i ≡ j → v ≡ w
  at_one xs i j v w a b e = some-injective v w (sym a ∙ (ap (get_elem? xs) e ∙ b))

  pub at_before : (xs ys : List A) (i : ℕ) (v : A) → i < length xs → get_elem? (xs ++ ys) i ≡ some v → get_elem? xs i ≡ some v
  at_before [] ys i v h e = absurd (omega arith)
  at_before (x ∷ xs) ys zero v h e = e
  at_before (x ∷ xs) ys (suc i) v h e = at_before xs ys i v (omega arith) e

  -- An element of a list that one more was put behind stands before it, or is it.
  pub at_end : (xs : List A) (a b : A) (i : ℕ) → get_elem? (xs ++ a ∷ []) i ≡ some b → (get_elem? xs i ≡ some b) ⊎ ((i ≡ length xs) × (a ≡ b))
  at_end [] a b zero e = inr (refl, some-injective a b e)
  at_end [] a b (suc i) e = absurd (some-ne-none b (sym e))
  at_end (x ∷ xs) a b zero e = inl e
  at_end (x ∷ xs) a b (suc i) e = ⊎_elim (λ (o : get_elem? xs i ≡ some b). inl o) (λ (n : (i ≡ length xs) × (a ≡ b)). inr (ap suc n.0, n.1)) (at_end xs a b i e)

  pub at_only : (a : A) (i : ℕ) (b : A) → get_elem? (a ∷ []) i ≡ some b → (i ≡ 0) × (a ≡ b)
  at_only a zero b e = (refl, some-injective a b e)
  at_only a (suc i) b e = absurd (some-ne-none b (sym e))

  pub last_place : (before : List A) (last x : A) (i : ℕ) → get_elem? (before ++ last ∷ []) i ≡ some x → i ≤ length before
  last_place before last x i e = let s = at_length (before ++ last ∷ []) i x e in let n : length (before ++ last ∷ []) ≡ length before + 1 = length-append before (last ∷ []) in omega arith

  pub get_or_at : (xs : List A) (i : ℕ) (v d : A) → get_elem? xs i ≡ some v → get_or xs i d ≡ v
  get_or_at [] i v d e = absurd (some-ne-none v (sym e))
  get_or_at (x ∷ xs) zero v d e = some-injective x v e
  get_or_at (x ∷ xs) (suc i) v d e = get_or_at xs i v d e

  pub last_alone : (xs : List A) (x : A) → drop (length (xs ++ x ∷ []) - 1) (xs ++ x ∷ []) ≡ x ∷ []
  last_alone xs x = let n : length (xs ++ x ∷ []) - 1 ≡ length xs = let l : length (xs ++ x ∷ []) ≡ length xs + length (x ∷ []) = length-append xs (x ∷ []) in omega arith in ap (λ k. drop k (xs ++ x ∷ [])) n ∙ drop-append_seam xs (x ∷ [])

  -- What holds of the element put at a place, and of all others, holds of each.
  pub each_set : (P : ℕ → A → Type 0) (xs : List A) (place : ℕ) (w : A) → P place w → ((i : ℕ) (v : A) → i ≢ place → get_elem? xs i ≡ some v → P i v) → (i : ℕ) (v : A) → get_elem? (set xs place w) i ≡ some v → P i v
  each_set P xs place w own others i v e = ⊎_elim (λ (t : (i ≡ place) × (w ≡ v)). subst (λ (x : ℕ × A). P x.0 x.1) (λ j. (sym t.0 j, t.1 j)) own)
      (λ (t : (i ≢ place) × (get_elem? xs i ≡ some v)). others i v t.0 t.1) (at_set xs place i w v e)

  pub map_same : {B : Type 0} (f : A → B) (xs : List A) (i : ℕ) (v w : A) → get_elem? xs i ≡ some v → f w ≡ f v → map f (set xs i w) ≡ map f xs
  map_same f xs i v w at e = map-set f xs i w ∙ (ap (set (map f xs) i) e ∙ set_again (map f xs) i (f v) (at_map f xs i v at))

-- Sums.
module _ {A : Type 0} (f : A → ℕ) where
  pub sum_put : (xs : List A) (i : ℕ) (v w : A) → get_elem? xs i ≡ some v → sum_by f (set xs i w) + f v ≡ sum_by f xs + f w
  sum_put xs i v w at = subst (λ u. sum_by f (set xs i w) + f u ≡ sum_by f xs + f w) (get_or_at xs i v v at) (sum_by-set f xs i w v (at_length xs i v at))

  pub sum_same : (xs : List A) (i : ℕ) (v w : A) → get_elem? xs i ≡ some v → f w ≡ f v → sum_by f (set xs i w) ≡ sum_by f xs
  sum_same xs i v w at same = let s = sum_put xs i v w at in omega arith

  pub sum_at_least : (xs : List A) (i : ℕ) (v : A) → get_elem? xs i ≡ some v → f v ≤ sum_by f xs
  sum_at_least xs i v at = subst (λ u. f u ≤ sum_by f xs) (get_or_at xs i v v at) (get_or-le-sum_by f xs i v (at_length xs i v at))

  sum_none : (xs : List A) → ((i : ℕ) (v : A) → get_elem? xs i ≡ some v → f v ≡ 0) → sum_by f xs ≡ 0
  sum_none [] each = refl
  sum_none (x ∷ xs) each = let a : f x ≡ 0 = each zero x refl in let b = sum_none xs (λ i v at. each (suc i) v at) in omega (arith, sum_by-cons f x xs)

  -- Where all others are 0, the sum is the one.
  pub sum_one : (xs : List A) (i : ℕ) (v : A) → get_elem? xs i ≡ some v → ((j : ℕ) (u : A) → j ≢ i → get_elem? xs j ≡ some u → f u ≡ 0) → sum_by f xs ≡ f v
  sum_one [] i v at others = absurd (some-ne-none v (sym at))
  sum_one (x ∷ xs) zero v at others = let s : f x ≡ f v = ap f (some-injective x v at) in let n = sum_none xs (λ j u o. others (suc j) u (λ q. omega arith) o) in omega (arith, sum_by-cons f x xs)
  sum_one (x ∷ xs) (suc i) v at others = let n : f x ≡ 0 = others zero x (λ q. omega arith) refl in let s = sum_one xs i v at (λ j u ne o. others (suc j) u (λ q. ne (omega arith)) o) in omega (arith, sum_by-cons f x xs)

-- Numbers in a list.
pub occurrences-map-append : {A : Type 0} (f : A → ℕ) (n : ℕ) (xs ys : List A) → occurrences n (map f (xs ++ ys)) ≡ occurrences n (map f xs) + occurrences n (map f ys)
occurrences-map-append f n xs ys = ap (occurrences n) (map-append f xs ys) ∙ sum_by-append (λ m. cond (m == n) 1 0) (map f xs) (map f ys)

at_most_one : (b : Bool) → cond b 1 0 ≤ 1
at_most_one true = omega arith
at_most_one false = omega arith

pub once_between-le : (first next n : ℕ) → once_between first next n ≤ 1
once_between-le first next n = at_most_one _

pub once_between-none : (first n : ℕ) → once_between first first n ≡ 0
once_between-none first n = grind (arith, nat_tests, common_steps)

pub once_between-more : (first next n : ℕ) → first ≤ next → once_between first (next + 1) n ≡ once_between first next n + occurrences n (next ∷ [])
once_between-more first next n h = grind (arith, nat_tests, common_steps)

-- Elements of a list.
pub contains_none : {A : Type 0} (x : A) → Contains [] x → ⊥
contains_none x h = let below = h.1 in omega arith

pub contains_only : {A : Type 0} (x y : A) → Contains (x ∷ []) y → x ≡ y
contains_only x y h = ⊎_elim (λ (n : Contains [] y). absurd (contains_none y n)) (λ (e : x ≡ y). e) (Contains-push_cases [] x y h)

contains_kept : {A : Type 0} (b : Bool) (x y : A) (xs : List A) → (x ≡ y → b ≡ true) → Contains (x ∷ []) y ⊎ Contains xs y → Contains (cond b (x ∷ xs) xs) y
contains_kept true x y xs keeps h = ⊎_elim (λ (a : Contains (x ∷ []) y). Contains-append_left (x ∷ []) xs y a) (λ (r : Contains xs y). Contains-append_right (x ∷ []) xs y r) h
contains_kept false x y xs keeps h = ⊎_elim (λ (a : Contains (x ∷ []) y). cc (keeps (contains_only x y a))) (λ (r : Contains xs y). r) h

pub contains_filter : {A : Type 0} (p : A → Bool) (xs : List A) (y : A) → p y ≡ true → Contains xs y → Contains (filter p xs) y
contains_filter p [] y keeps h = h
contains_filter p (x ∷ xs) y keeps h = contains_kept (p x) x y (filter p xs) (λ e. ap p e ∙ keeps)
    (⊎_elim (λ (a : Contains (x ∷ []) y). inl a) (λ (r : Contains xs y). inr (contains_filter p xs y keeps r)) (Contains-append_cases (x ∷ []) xs y h))

contains_from_kept : {A : Type 0} (b : Bool) (x y : A) (xs ys : List A) → (Contains ys y → Contains xs y) → Contains (cond b (x ∷ ys) ys) y → Contains (x ∷ xs) y
contains_from_kept true x y xs ys from h = ⊎_elim (λ (a : Contains (x ∷ []) y). Contains-append_left (x ∷ []) xs y a) (λ (r : Contains ys y). Contains-append_right (x ∷ []) xs y (from r)) (Contains-append_cases (x ∷ []) ys y h)
contains_from_kept false x y xs ys from h = Contains-append_right (x ∷ []) xs y (from h)

pub contains_from_filter : {A : Type 0} (p : A → Bool) (xs : List A) (y : A) → Contains (filter p xs) y → Contains xs y
contains_from_filter p [] y h = h
contains_from_filter p (x ∷ xs) y h = contains_from_kept (p x) x y xs (filter p xs) (contains_from_filter p xs y) h
