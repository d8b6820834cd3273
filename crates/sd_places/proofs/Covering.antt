-- Places that are enough to find what is marked.
use Rattle.std.proofs.Common.{◌≡◌, ℕ, zero, suc, ◌+◌, ◌<◌, ◌≤◌, Bool, true, false, eqb, List, [], ◌∷◌, ◌++◌, length, map, get_or, refl, sym, ap, ◌∙◌, subst, arith, inl, inr, Option, Some, None}
use Rattle.std.specs.Prelude.{◌&&◌, ◌||◌, not, filter, nat_lt}
use Rattle.std.specs.List.{list_any}
use Rattle.std.proofs.lemmas.Bool.{cases_Bool, cases_eq, eq-eqb, ne_eqb}
use Rattle.sd_places.specs.Covers.{covers, with_place, present, at_slot, with_some, picked_by, picked, AreEnough, passes_at, AllImply}

and_parts : (s t : Bool) → (s && t) ≡ true → (s ≡ true) × (t ≡ true)
and_parts true t h = (refl, h)
and_parts false t h = cc

-- the marks with one of them set
abbrev pub with_mark : List Bool → ℕ → Bool → List Bool
with_mark [] p b = []
with_mark (m ∷ ms) zero b = b ∷ ms
with_mark (m ∷ ms) (suc p) b = m ∷ with_mark ms p b

-- where a place is not that of the first mark, it is no marked one
passed : (m : Bool) (ms : List Bool) (k : ℕ) (p : ℕ) (ps : List ℕ) → eqb p k ≡ false → covers (m ∷ ms) k (p ∷ ps) ≡ true → (not m ≡ true) × (covers ms (suc k) (p ∷ ps) ≡ true)
passed m ms k p ps other h = and_parts (not m) (covers ms (suc k) (p ∷ ps)) (rw other at h)

met : (m : Bool) (ms : List Bool) (k : ℕ) (p : ℕ) (ps : List ℕ) → eqb p k ≡ true → covers (m ∷ ms) k (p ∷ ps) ≡ true → covers ms (suc k) ps ≡ true
met m ms k p ps same h = rw same at h

least : (ms : List Bool) (k q : ℕ) (qs : List ℕ) → covers ms k (q ∷ qs) ≡ true → k ≤ q
least [] k q qs h = cc
least (m ∷ ms) k q qs h =
    elim (cases_eq q k) [
      | inl e ↦ omega (arith, e)
      | inr differ ↦ let more : suc k ≤ q = least ms (suc k) q qs (passed m ms k q qs (ne_eqb q k differ) h).1 in omega (arith, more)
    ]

-- a place behind the first
skips : (m : Bool) (ms : List Bool) (k : ℕ) (ps : List ℕ) → not m ≡ true → covers ms (suc k) ps ≡ true → covers (m ∷ ms) k ps ≡ true
skips m ms k [] n h = rw (n, h) refl
skips m ms k (q ∷ qs) n h =
    let more : suc k ≤ q = least ms (suc k) q qs h in
    let other : eqb q k ≡ false = ne_eqb q k (λ e. absurd (omega (arith, e, more))) in
    rw (other, n, h) refl

takes : (m : Bool) (ms : List Bool) (k : ℕ) (ps : List ℕ) → covers ms (suc k) ps ≡ true → covers (m ∷ ms) k (k ∷ ps) ≡ true
takes m ms k ps h = let same : eqb k k ≡ true = eq-eqb k k refl in rw (same, h) refl

pub inserted_here : (q p : ℕ) (qs : List ℕ) → p < q → with_place (q ∷ qs) p ≡ p ∷ q ∷ qs
inserted_here q p qs lt =
    let other : eqb p q ≡ false = ne_eqb p q (λ e. absurd (omega (arith, e, lt))) in
    let less : nat_lt p q ≡ true = grind (arith, lt) in
    rw (other, less) refl

pub inserted_later : (q p : ℕ) (qs : List ℕ) → q < p → with_place (q ∷ qs) p ≡ q ∷ with_place qs p
inserted_later q p qs lt =
    let other : eqb p q ≡ false = ne_eqb p q (λ e. absurd (omega (arith, e, lt))) in
    let not_less : nat_lt p q ≡ false = grind (arith, lt) in
    rw (other, not_less) refl

pub inserted_same : (q p : ℕ) (qs : List ℕ) → q ≡ p → with_place (q ∷ qs) p ≡ q ∷ qs
inserted_same q p qs e = let same : eqb p q ≡ true = eq-eqb p q (sym e) in rw same refl

-- a place is put in, and marked
pub covers_more : (ms : List Bool) (k p : ℕ) (ps : List ℕ) → covers ms k ps ≡ true → p < length ms → covers (with_mark ms p true) k (with_place ps (k + p)) ≡ true
covers_more [] k p ps h lt = absurd (omega (arith, lt))
covers_more (m ∷ ms) k zero [] h lt =
    let rest : covers ms (suc k) [] ≡ true = (and_parts (not m) (covers ms (suc k) []) h).1 in
    let here : k ≡ k + 0 = omega arith in
    subst (λ (x : ℕ). covers (true ∷ ms) k (x ∷ []) ≡ true) here (takes true ms k [] rest)
covers_more (m ∷ ms) k zero (q ∷ qs) h lt =
    let here : k ≡ k + 0 = omega arith in
    subst (λ (x : ℕ). covers (true ∷ ms) k (with_place (q ∷ qs) x) ≡ true) here
    (elim (cases_eq q k) [
      | inl e ↦
          let rest : covers ms (suc k) qs ≡ true = met m ms k q qs (eq-eqb q k e) h in
          subst (λ (xs : List ℕ). covers (true ∷ ms) k xs ≡ true) (sym (inserted_same q k qs e ∙ ap (λ (x : ℕ). x ∷ qs) e)) (takes true ms k qs rest)
      | inr differ ↦
          let rest : covers ms (suc k) (q ∷ qs) ≡ true = (passed m ms k q qs (ne_eqb q k differ) h).1 in
          let more : suc k ≤ q = least ms (suc k) q qs rest in
          let lt : k < q = omega (arith, more) in
          subst (λ (xs : List ℕ). covers (true ∷ ms) k xs ≡ true) (sym (inserted_here q k qs lt)) (takes true ms k (q ∷ qs) rest)
    ])
covers_more (m ∷ ms) k (suc n) [] h lt =
    let parts : (not m ≡ true) × (covers ms (suc k) [] ≡ true) = and_parts (not m) (covers ms (suc k) []) h in
    let here : suc k + n ≡ k + suc n = omega arith in
    subst (λ (x : ℕ). covers (m ∷ with_mark ms n true) k (x ∷ []) ≡ true) here
    (skips m (with_mark ms n true) k ((suc k + n) ∷ []) parts.0 (covers_more ms (suc k) n [] parts.1 (omega (arith, lt))))
covers_more (m ∷ ms) k (suc n) (q ∷ qs) h lt =
    let here : suc k + n ≡ k + suc n = omega arith in
    subst (λ (x : ℕ). covers (m ∷ with_mark ms n true) k (with_place (q ∷ qs) x) ≡ true) here
    (elim (cases_eq q k) [
      | inl e ↦
          let rest : covers ms (suc k) qs ≡ true = met m ms k q qs (eq-eqb q k e) h in
          let later : q < suc k + n = omega (arith, e) in
          let more : covers (with_mark ms n true) (suc k) (with_place qs (suc k + n)) ≡ true = covers_more ms (suc k) n qs rest (omega (arith, lt)) in
          subst (λ (xs : List ℕ). covers (m ∷ with_mark ms n true) k xs ≡ true) (sym (inserted_later q (suc k + n) qs later ∙ ap (λ (x : ℕ). x ∷ with_place qs (suc k + n)) e))
          (takes m (with_mark ms n true) k (with_place qs (suc k + n)) more)
      | inr differ ↦
          let parts : (not m ≡ true) × (covers ms (suc k) (q ∷ qs) ≡ true) = passed m ms k q qs (ne_eqb q k differ) h in
          skips m (with_mark ms n true) k (with_place (q ∷ qs) (suc k + n)) parts.0 (covers_more ms (suc k) n (q ∷ qs) parts.1 (omega (arith, lt)))
    ])

pub covers_here : (ms : List Bool) (p : ℕ) (ps : List ℕ) → covers ms 0 ps ≡ true → p < length ms → covers (with_mark ms p true) 0 (with_place ps p) ≡ true
covers_here ms p ps h lt = let here : 0 + p ≡ p = omega arith in subst (λ (x : ℕ). covers (with_mark ms p true) 0 (with_place ps x) ≡ true) here (covers_more ms 0 p ps h lt)

-- one thing more that is not marked
pub covers_unmarked : (ms : List Bool) (k : ℕ) (ps : List ℕ) → covers ms k ps ≡ true → covers (ms ++ false ∷ []) k ps ≡ true
covers_unmarked [] k [] h = refl
covers_unmarked [] k (p ∷ ps) h = cc
covers_unmarked (m ∷ ms) k [] h =
    let parts : (not m ≡ true) × (covers ms (suc k) [] ≡ true) = and_parts (not m) (covers ms (suc k) []) h in
    skips m (ms ++ false ∷ []) k [] parts.0 (covers_unmarked ms (suc k) [] parts.1)
covers_unmarked (m ∷ ms) k (q ∷ qs) h =
    elim (cases_eq q k) [
      | inl e ↦
          let rest : covers ms (suc k) qs ≡ true = met m ms k q qs (eq-eqb q k e) h in
          subst (λ (x : ℕ). covers (m ∷ (ms ++ false ∷ [])) k (x ∷ qs) ≡ true) (sym e) (takes m (ms ++ false ∷ []) k qs (covers_unmarked ms (suc k) qs rest))
      | inr differ ↦
          let parts : (not m ≡ true) × (covers ms (suc k) (q ∷ qs) ≡ true) = passed m ms k q qs (ne_eqb q k differ) h in
          skips m (ms ++ false ∷ []) k (q ∷ qs) parts.0 (covers_unmarked ms (suc k) (q ∷ qs) parts.1)
    ]

-- a mark taken away
pub covers_less : (ms : List Bool) (k p : ℕ) (ps : List ℕ) → covers ms k ps ≡ true → covers (with_mark ms p false) k ps ≡ true
covers_less [] k p ps h = h
covers_less (m ∷ ms) k zero [] h = skips false ms k [] refl (and_parts (not m) (covers ms (suc k) []) h).1
covers_less (m ∷ ms) k zero (q ∷ qs) h =
    elim (cases_eq q k) [
      | inl e ↦ subst (λ (x : ℕ). covers (false ∷ ms) k (x ∷ qs) ≡ true) (sym e) (takes false ms k qs (met m ms k q qs (eq-eqb q k e) h))
      | inr differ ↦ skips false ms k (q ∷ qs) refl (passed m ms k q qs (ne_eqb q k differ) h).1
    ]
covers_less (m ∷ ms) k (suc n) [] h =
    let parts : (not m ≡ true) × (covers ms (suc k) [] ≡ true) = and_parts (not m) (covers ms (suc k) []) h in
    skips m (with_mark ms n false) k [] parts.0 (covers_less ms (suc k) n [] parts.1)
covers_less (m ∷ ms) k (suc n) (q ∷ qs) h =
    elim (cases_eq q k) [
      | inl e ↦ subst (λ (x : ℕ). covers (m ∷ with_mark ms n false) k (x ∷ qs) ≡ true) (sym e) (takes m (with_mark ms n false) k qs (covers_less ms (suc k) n qs (met m ms k q qs (eq-eqb q k e) h)))
      | inr differ ↦
          let parts : (not m ≡ true) × (covers ms (suc k) (q ∷ qs) ≡ true) = passed m ms k q qs (ne_eqb q k differ) h in
          skips m (with_mark ms n false) k (q ∷ qs) parts.0 (covers_less ms (suc k) n (q ∷ qs) parts.1)
    ]

-- ---- a place put in, whatever its mark

pub mark_again : (ms : List Bool) (n : ℕ) (a b : Bool) → with_mark (with_mark ms n a) n b ≡ with_mark ms n b
mark_again [] n a b = refl
mark_again (m ∷ ms) zero a b = refl
mark_again (m ∷ ms) (suc n) a b = ap (λ (xs : List Bool). m ∷ xs) (mark_again ms n a b)

mark_own : (ms : List Bool) (p : ℕ) → with_mark ms p (get_or ms p false) ≡ ms
mark_own [] p = refl
mark_own (m ∷ ms) zero = refl
mark_own (m ∷ ms) (suc p) = ap (λ (xs : List Bool). m ∷ xs) (mark_own ms p)

covers_any : (ms : List Bool) (p : ℕ) (ps : List ℕ) (b : Bool) → covers ms 0 ps ≡ true → p < length ms → covers (with_mark ms p b) 0 (with_place ps p) ≡ true
covers_any ms p ps true h lt = covers_here ms p ps h lt
covers_any ms p ps false h lt =
    subst (λ (xs : List Bool). covers xs 0 (with_place ps p) ≡ true) (mark_again ms p true false) (covers_less (with_mark ms p true) 0 p (with_place ps p) (covers_here ms p ps h lt))

pub covers_still : (ms : List Bool) (p : ℕ) (ps : List ℕ) → covers ms 0 ps ≡ true → p < length ms → covers ms 0 (with_place ps p) ≡ true
covers_still ms p ps h lt = subst (λ (xs : List Bool). covers xs 0 (with_place ps p) ≡ true) (mark_own ms p) (covers_any ms p ps (get_or ms p false) h lt)

-- ---- what is found at places that cover

unmarked : (s t : Bool) → (s ≡ true → t ≡ true) → not t ≡ true → s ≡ false
unmarked false t h n = refl
unmarked true true h n = cc
unmarked true false h n = sym (h refl)

pub fails : {X : Type 0} (test : X → Bool) (x : X) (xs : List X) → test x ≡ false → filter test (x ∷ xs) ≡ filter test xs
fails test x xs h = rw h refl

pub both_kept : {X : Type 0} (test : X → Bool) (x : X) (xs ys : List X) → filter test xs ≡ filter test ys → filter test (x ∷ xs) ≡ filter test (x ∷ ys)
both_kept {X = X} test x xs ys h =
    elim (cases_Bool (test x)) [
      | inl e ↦ rw e (ap (λ (zs : List X). x ∷ zs) h)
      | inr e ↦ rw e h
    ]

enough_from : {X : Type 0} (test mark : X → Bool) (at : ℕ → Option X) (ss : List (Option X)) (k : ℕ) (ps : List ℕ)
    → ((i : ℕ) → at (k + i) ≡ at_slot ss i) → AllImply test mark (present ss) → covers (map (λ (s : Option X). passes_at mark s) ss) k ps ≡ true → filter test (picked_by at ps) ≡ filter test (present ss)
enough_from {X = X} test mark at [] k [] there all h = refl
enough_from {X = X} test mark at [] k (p ∷ ps) there all h = cc
enough_from {X = X} test mark at (Some x ∷ ss) k [] there all h =
    let ms : List Bool = map (λ (s : Option X). passes_at mark s) ss in
    let parts : (not (mark x) ≡ true) × (covers ms (suc k) [] ≡ true) = and_parts (not (mark x)) (covers ms (suc k) []) h in
    let none : test x ≡ false = unmarked (test x) (mark x) all.0 parts.0 in
    let later : (i : ℕ) → at (suc k + i) ≡ at_slot ss i = λ i. let moved : suc k + i ≡ k + suc i = omega arith in ap at moved ∙ there (suc i) in
    enough_from test mark at ss (suc k) [] later all.1 parts.1 ∙ sym (fails test x (present ss) none)
enough_from {X = X} test mark at (None ∷ ss) k [] there all h =
    let later : (i : ℕ) → at (suc k + i) ≡ at_slot ss i = λ i. let moved : suc k + i ≡ k + suc i = omega arith in ap at moved ∙ there (suc i) in
    enough_from test mark at ss (suc k) [] later all h
enough_from {X = X} test mark at (Some x ∷ ss) k (q ∷ qs) there all h =
    let ms : List Bool = map (λ (s : Option X). passes_at mark s) ss in
    let later : (i : ℕ) → at (suc k + i) ≡ at_slot ss i = λ i. let moved : suc k + i ≡ k + suc i = omega arith in ap at moved ∙ there (suc i) in
    elim (cases_eq q k) [
      | inl e ↦
          let rest : covers ms (suc k) qs ≡ true = met (mark x) ms k q qs (eq-eqb q k e) h in
          let moved : q ≡ k + 0 = omega (arith, e) in
          let own : at q ≡ Some x = ap at moved ∙ there 0 in
          ap (λ (o : Option X). filter test (with_some o (picked_by at qs))) own ∙ both_kept test x (picked_by at qs) (present ss) (enough_from test mark at ss (suc k) qs later all.1 rest)
      | inr differ ↦
          let parts : (not (mark x) ≡ true) × (covers ms (suc k) (q ∷ qs) ≡ true) = passed (mark x) ms k q qs (ne_eqb q k differ) h in
          let none : test x ≡ false = unmarked (test x) (mark x) all.0 parts.0 in
          enough_from test mark at ss (suc k) (q ∷ qs) later all.1 parts.1 ∙ sym (fails test x (present ss) none)
    ]
enough_from {X = X} test mark at (None ∷ ss) k (q ∷ qs) there all h =
    let ms : List Bool = map (λ (s : Option X). passes_at mark s) ss in
    let later : (i : ℕ) → at (suc k + i) ≡ at_slot ss i = λ i. let moved : suc k + i ≡ k + suc i = omega arith in ap at moved ∙ there (suc i) in
    elim (cases_eq q k) [
      | inl e ↦
          let rest : covers ms (suc k) qs ≡ true = met false ms k q qs (eq-eqb q k e) h in
          let moved : q ≡ k + 0 = omega (arith, e) in
          let own : at q ≡ None = ap at moved ∙ there 0 in
          ap (λ (o : Option X). filter test (with_some o (picked_by at qs))) own ∙ enough_from test mark at ss (suc k) qs later all rest
      | inr differ ↦ enough_from test mark at ss (suc k) (q ∷ qs) later all (passed false ms k q qs (ne_eqb q k differ) h).1
    ]

-- what passes a test is found at places that cover what is marked
pub enough : {X : Type 0} (test mark : X → Bool) (ss : List (Option X)) (ps : List ℕ) → AllImply test mark (present ss) → covers (map (λ (s : Option X). passes_at mark s) ss) 0 ps ≡ true → AreEnough test ss ps
enough {X = X} test mark ss ps all h = enough_from test mark (λ (p : ℕ). at_slot ss p) ss 0 ps (λ i. let same : 0 + i ≡ i = omega arith in ap (λ (p : ℕ). at_slot ss p) same) all h

-- nothing passes
pub none_enough : {X : Type 0} (test : X → Bool) (xs ys : List X) → ((x : X) → test x ≡ false) → filter test xs ≡ filter test ys
none_enough {X = X} test xs ys none = nothing xs ∙ sym (nothing ys)
  where
    nothing : (zs : List X) → filter test zs ≡ []
    nothing [] = refl
    nothing (z ∷ zs) = fails test z zs (none z) ∙ nothing zs

-- whether a thing passes, by those that pass
filled : {X : Type 0} → List X → Bool
filled [] = false
filled (x ∷ xs) = true

any_filled : {X : Type 0} (test : X → Bool) (xs : List X) → list_any test xs ≡ filled (filter test xs)
unfolding filled
any_filled test [] = refl
any_filled test (x ∷ xs) =
    elim (cases_Bool (test x)) [
      | inl e ↦ rw e refl
      | inr e ↦ rw e (any_filled test xs)
    ]

pub any_enough : {X : Type 0} (test : X → Bool) (ss : List (Option X)) (ps : List ℕ) → AreEnough test ss ps → list_any test (picked ss ps) ≡ list_any test (present ss)
any_enough {X = X} test ss ps h = any_filled test (picked ss ps) ∙ ap (λ (ys : List X). filled ys) h ∙ sym (any_filled test (present ss))

any_at : {X : Type 0} (test : X → Bool) (o : Option X) (rest : List X) → list_any test (with_some o rest) ≡ (passes_at test o || list_any test rest)
any_at test (Some x) rest = refl
any_at test None rest = refl

-- a test of what is at places
pub any_picked : {X : Type 0} (test : X → Bool) (at : ℕ → Option X) (ps : List ℕ) → list_any (λ (p : ℕ). passes_at test (at p)) ps ≡ list_any test (picked_by at ps)
any_picked test at [] = refl
any_picked test at (p ∷ ps) = ap (λ (t : Bool). passes_at test (at p) || t) (any_picked test at ps) ∙ sym (any_at test (at p) (picked_by at ps))
