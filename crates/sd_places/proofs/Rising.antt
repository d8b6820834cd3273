-- Places that rise, and one put among them.
use Rattle.std.proofs.Common.{◌≡◌, ℕ, zero, suc, ◌<◌, ◌≤◌, List, [], ◌∷◌, length, get_or, insert, Result, Ok, Err, MatchResult, sym, ap, ◌∙◌, subst, arith, inl, inr}
use Rattle.std.specs.Ordering.{nat_cmp}
use Rattle.std.specs.List.Sorted.{IsBinarySearchResult}
use Rattle.std.proofs.lemmas.Bool.{cases_eq, cases_lt}
use Rattle.std.proofs.lemmas.List.Sorted.{searched}
use Rattle.sd_places.specs.Covers.{with_place, RisesFrom}
use Rattle.sd_places.proofs.Covering.{inserted_here, inserted_later, inserted_same}

-- a place put in lets the places rise
pub put_from : (k p : ℕ) (ps : List ℕ) → RisesFrom k ps → k ≤ p → RisesFrom k (with_place ps p)
put_from k p [] h le = (le, tt)
put_from k p (q ∷ qs) h le =
    elim (cases_eq q p) [
      | inl e ↦ subst (λ (xs : List ℕ). RisesFrom k xs) (sym (inserted_same q p qs e)) h
      | inr differ ↦
          elim (cases_lt p q) [
            | inl lt ↦ subst (λ (xs : List ℕ). RisesFrom k xs) (sym (inserted_here q p qs lt)) (le, (lt, h.1))
            | inr ge ↦
                let lt : q < p = omega (arith, ge, differ) in
                subst (λ (xs : List ℕ). RisesFrom k xs) (sym (inserted_later q p qs lt)) (h.0, put_from (suc q) p qs h.1 lt)
          ]
    ]

pub put_rises : (p : ℕ) (ps : List ℕ) → RisesFrom 0 ps → RisesFrom 0 (with_place ps p)
put_rises p ps h = put_from 0 p ps h (omega arith)

-- each is at least so great
least_from : (k i : ℕ) (ps : List ℕ) → RisesFrom k ps → i < length ps → k ≤ get_or ps i 0
least_from k i [] h lt = absurd (omega (arith, lt))
least_from k zero (p ∷ ps) h lt = h.0
least_from k (suc i) (p ∷ ps) h lt = let more : suc p ≤ get_or ps i 0 = least_from (suc p) i ps h.1 (omega (arith, lt)) in omega (arith, more, h.0)

ordered : (k i j : ℕ) (ps : List ℕ) → RisesFrom k ps → i ≤ j → j < length ps → get_or ps i 0 ≤ get_or ps j 0
ordered k i j [] h le lt = absurd (omega (arith, lt))
ordered k zero zero (p ∷ ps) h le lt = omega arith
ordered k zero (suc j) (p ∷ ps) h le lt = let more : suc p ≤ get_or ps j 0 = least_from (suc p) j ps h.1 (omega (arith, lt)) in omega (arith, more)
ordered k (suc i) zero (p ∷ ps) h le lt = absurd (omega (arith, le))
ordered k (suc i) (suc j) (p ∷ ps) h le lt = ordered (suc p) i j ps h.1 (omega (arith, le)) (omega (arith, lt))

-- a place that is there
there : (k i p : ℕ) (ps : List ℕ) → RisesFrom k ps → i < length ps → get_or ps i 0 ≡ p → with_place ps p ≡ ps
there k i p [] h lt is = absurd (omega (arith, lt))
there k zero p (q ∷ qs) h lt is = inserted_same q p qs is
there k (suc i) p (q ∷ qs) h lt is =
    let more : suc q ≤ get_or qs i 0 = least_from (suc q) i qs h.1 (omega (arith, lt)) in
    inserted_later q p qs (omega (arith, more, is)) ∙ ap (λ (xs : List ℕ). q ∷ xs) (there (suc q) i p qs h.1 (omega (arith, lt)) is)

-- a place between those that are less and those that are greater
between : (i p : ℕ) (ps : List ℕ) → i ≤ length ps → ((k : ℕ) → k < i → get_or ps k 0 < p) → ((k : ℕ) → i ≤ k → k < length ps → p < get_or ps k 0) → with_place ps p ≡ insert ps i p
between i p [] le less more = let none : i ≡ 0 = omega (arith, le) in ap (λ (n : ℕ). insert [] n p) (sym none)
between zero p (q ∷ qs) le less more = inserted_here q p qs (more 0 (omega arith) (omega arith))
between (suc i) p (q ∷ qs) le less more =
    inserted_later q p qs (less 0 (omega arith))
    ∙ ap (λ (xs : List ℕ). q ∷ xs) (between i p qs (omega (arith, le)) (λ k lt. less (suc k) (omega (arith, lt))) (λ k a lt. more (suc k) (omega (arith, a)) (omega (arith, lt))))

abbrev pub Told : List ℕ → ℕ → Result ℕ ℕ → Type 0
Told ps p r = MatchResult r (λ i. with_place ps p ≡ ps) (λ i. with_place ps p ≡ insert ps i p)

-- what a search for a place says
pub told : (ps : List ℕ) (p : ℕ) (r : Result ℕ ℕ) → RisesFrom 0 ps → IsBinarySearchResult (λ (y : ℕ). nat_cmp y p) ps r → Told ps p r
told ps p r h is = by_result r (searched ps p r is (λ i j le lt. ordered 0 i j ps h le lt))
  where
    by_result : (r : Result ℕ ℕ) → MatchResult r (λ i. (i < length ps) × (get_or ps i 0 ≡ p)) (λ i. (i ≤ length ps) × ((k : ℕ) → k < i → get_or ps k 0 < p) × ((k : ℕ) → i ≤ k → k < length ps → p < get_or ps k 0)) → Told ps p r
    by_result (Ok i) s = there 0 i p ps h s.0 s.1
    by_result (Err i) s = between i p ps s.0 s.1 s.2
