-- The byte order of names is a strict order, in which of three names the first is not less than the third where it is not less than the second, nor that than the third.
use Rattle.std.proofs.Common.{◌≡◌, ℕ, Bool, true, false, List, refl, sym, ap, ◌∙◌, arith}
use Rattle.std.proofs.Common.{Ordering, Less, Equal, Greater}
use Rattle.std.specs.Ordering.{nat_cmp, is_lt, is_le, ordering_reverse}
use Rattle.std.specs.BTreeMap.Comparable.{le_lt_trans}
use Rattle.std.specs.Cmp.Lexicographic.{slice_cmp}
use Rattle.std.proofs.lemmas.Cmp.{same_from_slice_cmp, nat_list_cmp_total}
use Rattle.std.proofs.lemmas.Bool.Decides.{nat_tests}
use Rattle.sd_rules.specs.Access.{comes_before}

-- the order of lists of numbers
order : List ℕ → List ℕ → Ordering
order = slice_cmp nat_cmp

by_order : (a b : List ℕ) → is_lt (slice_cmp nat_cmp a b) ≡ comes_before a b
by_order a b =
    same_from_slice_cmp nat_cmp is_lt comes_before refl (λ _ _. refl) (λ _ _. refl) (λ x y xs ys o h. grind (arith, nat_tests)) a b (slice_cmp nat_cmp a b) refl

not_less_itself : (o : Ordering) → o ≡ ordering_reverse o → is_lt o ≡ false
not_less_itself Less e = cc
not_less_itself Equal e = refl
not_less_itself Greater e = refl

pub not_before_itself : (a : List ℕ) → comes_before a a ≡ false
not_before_itself a =
    let total = nat_list_cmp_total in
    sym (by_order a a) ∙ not_less_itself (slice_cmp nat_cmp a a) (total.antisymm a a)

not_less_back : (o p : Ordering) → o ≡ ordering_reverse p → is_lt o ≡ true → is_lt p ≡ false
not_less_back o Less e h = cc
not_less_back o Equal e h = refl
not_less_back o Greater e h = refl

pub not_before_back : (a b : List ℕ) → comes_before a b ≡ true → comes_before b a ≡ false
not_before_back a b h =
    let total = nat_list_cmp_total in
    sym (by_order b a) ∙ not_less_back (slice_cmp nat_cmp a b) (slice_cmp nat_cmp b a) (total.antisymm a b) (by_order a b ∙ h)

at_most_back : (o p : Ordering) → o ≡ ordering_reverse p → is_lt p ≡ false → is_le o ≡ true
at_most_back o Less e h = cc
at_most_back o Equal e h = ap is_le e
at_most_back o Greater e h = ap is_le e

-- what is not less is at least
at_most : (a b : List ℕ) → comes_before b a ≡ false → is_le (slice_cmp nat_cmp a b) ≡ true
at_most a b h =
    let total = nat_list_cmp_total in
    at_most_back (slice_cmp nat_cmp a b) (slice_cmp nat_cmp b a) (total.antisymm a b) (by_order b a ∙ h)

less_from_test : (o : Ordering) → is_lt o ≡ true → o ≡ Less
less_from_test Less h = refl
less_from_test Equal h = cc
less_from_test Greater h = cc

less : (a b : List ℕ) → comes_before a b ≡ true → slice_cmp nat_cmp a b ≡ Less
less a b h = less_from_test (slice_cmp nat_cmp a b) (by_order a b ∙ h)

contradicted : (a b c : List ℕ) (r : Bool) → comes_before a c ≡ r → comes_before a b ≡ false → comes_before b c ≡ false → r ≡ false
contradicted a b c true e ab bc =
    let at_least = le_lt_trans {cmp = slice_cmp nat_cmp} nat_list_cmp_total b a c (at_most b a ab) (less a c e) in
    let is : comes_before b c ≡ true = sym (by_order b c) ∙ ap is_lt at_least in
    cc
contradicted a b c false e ab bc = refl

-- of three names: not less than the second, which is not less than the third
pub not_before_onward : (a b c : List ℕ) → comes_before a b ≡ false → comes_before b c ≡ false → comes_before a c ≡ false
not_before_onward a b c ab bc = contradicted a b c (comes_before a c) refl ab bc
