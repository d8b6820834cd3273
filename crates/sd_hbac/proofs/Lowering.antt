-- Lowered names hold what the names hold, and what is sought in them by halves is found where it is.
use Rattle.std.proofs.Common.{◌≡◌, ℕ, zero, suc, ◌+◌, ◌<◌, ◌≤◌, Bool, true, false, ◌||◌, List, [], ◌∷◌, map, drop, min, length, get_or, refl, sym, ap, subst, ◌∙◌, arith}
use Rattle.std.proofs.Common.{Ordering, Less, Equal, Greater}
use Rattle.std.specs.Prelude.{Result, Ok, Err, is_ok, slice_index_or, nat_lt}
use Rattle.std.specs.Char.{to_ascii_lowercase}
use Rattle.std.specs.Cmp.Lexicographic.{slice_cmp}
use Rattle.std.specs.List.{list_any, HoldsAt}
use Rattle.std.specs.List.Sorted.{IsPermutation, IsSortedBy, IsPartitionPoint, IsSearchInRange, IsBinarySearchResult}
use Rattle.std.specs.Ordering.{nat_cmp, is_eq, is_lt}
use Rattle.std.proofs.lemmas.Bool.Decides.{nat_tests}
use Rattle.std.proofs.lemmas.Cmp.{same_from_slice_cmp, nat_list_cmp_total}
use Rattle.std.proofs.lemmas.List.Folds.{list_any_none, list_any_at}
use Rattle.std.proofs.lemmas.List.Sorted.{IsPermutation-map, list_any-IsPermutation, searchable_from_sorted}
use Rattle.sd_rules.specs.Keys.{same_name, same_letters}
use Rattle.sd_rules.specs.Access.{holds_letters}
use Rattle.sd_hbac.specs.Lowered.{among, Lowers}

lowered_hold : (name : List ℕ) (names : List (List ℕ)) → among (map (map to_ascii_lowercase) names) name ≡ holds_letters names name
lowered_hold name [] = refl
lowered_hold name (n ∷ names) = ap (λ (b : Bool). same_letters n name || b) (lowered_hold name names)

-- names that were lowered, in another order
pub lowers : (names made sorted : List (List ℕ)) → made ≡ map (map to_ascii_lowercase) names → IsPermutation made sorted → Lowers names sorted
lowers names made sorted is moved = record {
  each = λ name.
      sym (list_any-IsPermutation (λ n. same_name n (map to_ascii_lowercase name)) made sorted moved)
      ∙ (ap (λ (ns : List (List ℕ)). among ns name) is ∙ lowered_hold name names);
}

-- where one of two names ends, the lengths decide
pub order_at_end : (a b : List ℕ) (i : ℕ) → i ≡ min (length a) (length b)
    → slice_cmp nat_cmp (drop i a) (map to_ascii_lowercase (drop i b)) ≡ nat_cmp (length a) (length b)
order_at_end [] [] zero h = refl
order_at_end [] (y ∷ ys) zero h = grind (arith, nat_tests)
order_at_end (x ∷ xs) [] zero h = grind (arith, nat_tests)
order_at_end (x ∷ xs) (y ∷ ys) zero h = absurd (omega arith)
order_at_end [] b (suc i) h = absurd (omega arith)
order_at_end (x ∷ xs) [] (suc i) h = absurd (omega arith)
order_at_end (x ∷ xs) (y ∷ ys) (suc i) h =
    let more : nat_cmp (length xs) (length ys) ≡ nat_cmp (suc (length xs)) (suc (length ys)) = grind (arith, nat_tests) in
    order_at_end xs ys i (omega arith) ∙ more

-- names of equal order are equal
equal_by_order : (a b : List ℕ) → is_eq (slice_cmp nat_cmp a b) ≡ same_name a b
equal_by_order a b =
    same_from_slice_cmp nat_cmp is_eq same_name refl (λ _ _. refl) (λ _ _. refl) (λ x y xs ys o h. grind (arith, nat_tests)) a b (slice_cmp nat_cmp a b) refl

module _ {X : Type 0} (key : X → List ℕ) (a : List ℕ) where
  abbrev order_of : X → Ordering
  order_of x = slice_cmp nat_cmp (key x) a

  any_mapped : (xs : List X) → list_any (λ n. same_name n a) (map key xs) ≡ list_any (λ x. is_eq (order_of x)) xs
  any_mapped [] = refl
  any_mapped (x ∷ xs) =
      ap (λ (b : Bool). b || list_any (λ n. same_name n a) (map key xs)) (sym (equal_by_order (key x) a))
      ∙ ap (λ (b : Bool). is_eq (order_of x) || b) (any_mapped xs)

  found_at : (xs : List X) (i : ℕ) → i < length xs → HoldsAt (λ x. order_of x ≡ Equal) xs i → true ≡ list_any (λ x. is_eq (order_of x)) xs
  found_at [] i below at = absurd (omega arith)
  found_at (x ∷ xs) i below at = sym (list_any_at (λ y. is_eq (order_of y)) (x ∷ xs) i x below (ap is_eq (at x)))

  not_equal_at : (xs : List X) (i k : ℕ) (d : X) → k < length xs → IsPartitionPoint (λ x. order_of x ≡ Less) (λ x. order_of x ≡ Greater) xs i → (b : Bool) → nat_lt k i ≡ b
      → is_eq (order_of (slice_index_or xs k d)) ≡ false
  not_equal_at xs i k d below parted true h = ap is_eq (parted.0 k d (omega arith) (grind (arith, nat_tests, h)))
  not_equal_at xs i k d below parted false h = ap is_eq (parted.1 k d (grind (arith, nat_tests, h)) below)

  -- a search by halves in names of a byte order finds a name where it is among them
  searched : (xs : List X) (r : Result ℕ ℕ) → IsSortedBy (λ x y. is_lt (slice_cmp nat_cmp (key x) (key y))) xs → IsSearchInRange r (length xs)
      → IsBinarySearchResult order_of xs r → is_ok r ≡ list_any (λ n. same_name n a) (map key xs)
  searched xs (Ok i) sorted range at = found_at xs i range at ∙ sym (any_mapped xs)
  searched xs (Err i) sorted range parted =
      let point = parted (searchable_from_sorted nat_list_cmp_total key xs a sorted) in
      sym (list_any_none (λ x. is_eq (order_of x)) xs (λ k d below. not_equal_at xs i k d below point (nat_lt k i) refl)) ∙ sym (any_mapped xs)

  -- the same, where the list that is sought in is known by an equation
  pub searched_in : (xs ys : List X) (r : Result ℕ ℕ) → xs ≡ ys → IsSortedBy (λ x y. is_lt (slice_cmp nat_cmp (key x) (key y))) ys → IsSearchInRange r (length xs)
      → IsBinarySearchResult order_of xs r → is_ok r ≡ list_any (λ n. same_name n a) (map key ys)
  searched_in xs ys r same sorted range at =
      searched xs r (subst (λ (zs : List X). IsSortedBy (λ x y. is_lt (slice_cmp nat_cmp (key x) (key y))) zs) (sym same) sorted) range at
      ∙ ap (λ (zs : List X). list_any (λ n. same_name n a) (map key zs)) same
