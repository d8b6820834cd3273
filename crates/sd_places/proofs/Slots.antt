-- Entries in slots, and the places of their names.
use Rattle.std.proofs.Common.{◌≡◌, ◌≢◌, ℕ, zero, suc, ◌<◌, Bool, true, false, List, [], ◌∷◌, ◌++◌, length, set, refl, sym, ap, ◌∙◌, subst, arith, inl, inr, Option, Some, None, cond, is_some, Result, Ok, Err, OnErr}
use Rattle.std.specs.Prelude.{◌⊎◌, ◌&&◌, not, filter}
use Rattle.std.specs.List.{list_any}
use Rattle.std.proofs.lemmas.Bool.{cases_Bool, cases_eq}
use Rattle.std.proofs.lemmas.List.{length-append, length-set}
use Rattle.indexmap.specs.IndexMap.{insert_entry}
use Rattle.sd_dn.specs.declared.Pair.{Pair}
use Rattle.sd_dn.specs.Comparing.{same_dn}
use Rattle.sd_dn.specs.Texts.{spelled, both_meet}
use Rattle.sd_ldap.specs.declared.entry.DirEntry.{DirEntry}
use Rattle.sd_ldap.specs.Values.{SearchValue}
use Rattle.sd_match.specs.Matching.{matches}
use Rattle.sd_match.specs.Answering.{in_scope, is_found, has_password}
use Rattle.sd_names.specs.declared.naming.Part.{Part}
use Rattle.sd_names.specs.declared.naming.Name.{Name}
use Rattle.sd_names.specs.Naming.{lower_dn, parts, lowered, names_equal}
use Rattle.sd_names.proofs.Names.{equal_of, parts_same, met_lowered, lowered_met, never_met}
use Rattle.sd_places.specs.Covers.{present, at_slot, with_some, passes_at, AreEnough, HasGrown}
use Rattle.sd_places.specs.Keeping.{put}
use Rattle.sd_places.specs.Naming.{place_named, if_there, AreNamed, IsReserved, IsAlone, IsNowhere, IsPlaceOf}
use Rattle.sd_places.proofs.Covering.{fails, both_kept}
use Rattle.sd_places.proofs.Names.{place_same, place_put}

-- ---- what a slot holds

at_hole : {X : Type 0} (ss : List (Option X)) (p : ℕ) → at_slot (ss ++ None ∷ []) p ≡ at_slot ss p
at_hole [] zero = refl
at_hole [] (suc p) = refl
at_hole (s ∷ ss) zero = refl
at_hole (s ∷ ss) (suc p) = at_hole ss p

at_same : {X : Type 0} (ss : List (Option X)) (p : ℕ) (o : Option X) → p < length ss → at_slot (set ss p o) p ≡ o
at_same [] p o lt = absurd (omega (arith, lt))
at_same (s ∷ ss) zero o lt = refl
at_same (s ∷ ss) (suc p) o lt = at_same ss p o (omega (arith, lt))

at_other : {X : Type 0} (ss : List (Option X)) (p q : ℕ) (o : Option X) → q ≢ p → at_slot (set ss p o) q ≡ at_slot ss q
at_other [] p q o h = refl
at_other (s ∷ ss) zero zero o h = absurd (h refl)
at_other (s ∷ ss) zero (suc q) o h = refl
at_other (s ∷ ss) (suc p) zero o h = refl
at_other (s ∷ ss) (suc p) (suc q) o h = at_other ss p q o (λ e. h (ap suc e))

at_within : {X : Type 0} (ss : List (Option X)) (p : ℕ) (x : X) → at_slot ss p ≡ Some x → p < length ss
at_within [] p x h = cc
at_within (s ∷ ss) zero x h = omega arith
at_within (s ∷ ss) (suc p) x h = let lt : p < length ss = at_within ss p x h in omega (arith, lt)

pub present_hole : {X : Type 0} (ss : List (Option X)) → present (ss ++ None ∷ []) ≡ present ss
present_hole [] = refl
present_hole {X = X} (s ∷ ss) = ap (λ (xs : List X). with_some s xs) (present_hole ss)

-- ---- one entry among others

put_other : (x e : DirEntry) (rest : List DirEntry) → both_meet same_dn (spelled x.dn) (spelled e.dn) ≡ false → put (x ∷ rest) e ≡ x ∷ put rest e
put_other x e rest h = rw h refl

put_same : (x e : DirEntry) (rest : List DirEntry) → both_meet same_dn (spelled x.dn) (spelled e.dn) ≡ true → put (x ∷ rest) e ≡ e ∷ rest
put_same x e rest h = rw h refl

put_there : (ss : List (Option DirEntry)) (p : ℕ) (e : DirEntry) → p < length ss
    → ((old : DirEntry) → at_slot ss p ≡ Some old → both_meet same_dn (spelled old.dn) (spelled e.dn) ≡ true) → (at_slot ss p ≡ None → suc p ≡ length ss)
    → ((q : ℕ) (x : DirEntry) → at_slot ss q ≡ Some x → q ≢ p → both_meet same_dn (spelled x.dn) (spelled e.dn) ≡ false) → present (set ss p (Some e)) ≡ put (present ss) e
put_there [] p e lt here last others = absurd (omega (arith, lt))
put_there (Some old ∷ ss) zero e lt here last others = sym (put_same old e (present ss) (here old refl))
put_there (None ∷ []) zero e lt here last others = refl
put_there (None ∷ s ∷ ss) zero e lt here last others = let bad : 1 ≡ length (None ∷ s ∷ ss) = last refl in absurd (omega (arith, bad))
put_there (None ∷ ss) (suc p) e lt here last others =
    put_there ss p e (omega (arith, lt)) here (λ n. let l = last n in omega (arith, l)) (λ q x h d. others (suc q) x h (λ e. d (omega (arith, e))))
put_there (Some x ∷ ss) (suc p) e lt here last others =
    let behind : present (set ss p (Some e)) ≡ put (present ss) e =
    put_there ss p e (omega (arith, lt)) here (λ n. let l = last n in omega (arith, l)) (λ q y h d. others (suc q) y h (λ e. d (omega (arith, e)))) in
    ap (λ (xs : List DirEntry). x ∷ xs) behind ∙ sym (put_other x e (present ss) (others 0 x refl (λ e. absurd (omega (arith, e)))))

-- nothing passes a test
none_pass : (test : DirEntry → Bool) (ss : List (Option DirEntry)) → ((q : ℕ) (x : DirEntry) → at_slot ss q ≡ Some x → test x ≡ false) → filter test (present ss) ≡ []
none_pass test [] h = refl
none_pass test (None ∷ ss) h = none_pass test ss (λ q x e. h (suc q) x e)
none_pass test (Some y ∷ ss) h = fails test y (present ss) (h 0 y refl) ∙ none_pass test ss (λ q x e. h (suc q) x e)

all_stay : (test : DirEntry → Bool) (ss : List (Option DirEntry)) → ((q : ℕ) (x : DirEntry) → at_slot ss q ≡ Some x → test x ≡ false) → filter (λ (e : DirEntry). not (test e)) (present ss) ≡ present ss
all_stay test [] h = refl
all_stay test (None ∷ ss) h = all_stay test ss (λ q x e. h (suc q) x e)
all_stay test (Some y ∷ ss) h = let other : test y ≡ false = h 0 y refl in rw other (ap (λ (xs : List DirEntry). y ∷ xs) (all_stay test ss (λ q x e. h (suc q) x e)))

rest_stay : (test : DirEntry → Bool) (ss : List (Option DirEntry)) (p : ℕ) → ((old : DirEntry) → at_slot ss p ≡ Some old → test old ≡ true)
    → ((q : ℕ) (x : DirEntry) → at_slot ss q ≡ Some x → q ≢ p → test x ≡ false) → present (set ss p None) ≡ filter (λ (e : DirEntry). not (test e)) (present ss)
rest_stay test [] p here others = refl
rest_stay test (None ∷ ss) zero here others = sym (all_stay test ss (λ q x e. others (suc q) x e (λ e. absurd (omega (arith, e)))))
rest_stay test (Some old ∷ ss) zero here others =
    let own : test old ≡ true = here old refl in
    rw own (sym (all_stay test ss (λ q x e. others (suc q) x e (λ e. absurd (omega (arith, e))))))
rest_stay test (None ∷ ss) (suc p) here others = rest_stay test ss p here (λ q x h d. others (suc q) x h (λ e. d (omega (arith, e))))
rest_stay test (Some y ∷ ss) (suc p) here others =
    let other : test y ≡ false = others 0 y refl (λ e. absurd (omega (arith, e))) in
    rw other (ap (λ (xs : List DirEntry). y ∷ xs) (rest_stay test ss p here (λ q x h d. others (suc q) x h (λ e. d (omega (arith, e))))))

one_passes : (test : DirEntry → Bool) (ss : List (Option DirEntry)) (p : ℕ) → ((q : ℕ) (x : DirEntry) → at_slot ss q ≡ Some x → q ≢ p → test x ≡ false)
    → filter test (with_some (at_slot ss p) []) ≡ filter test (present ss)
one_passes test [] p others = refl
one_passes test (None ∷ ss) zero others = sym (none_pass test ss (λ q x e. others (suc q) x e (λ e. absurd (omega (arith, e)))))
one_passes test (Some y ∷ ss) zero others = both_kept test y [] (present ss) (sym (none_pass test ss (λ q x e. others (suc q) x e (λ e. absurd (omega (arith, e))))))
one_passes test (None ∷ ss) (suc p) others = one_passes test ss p (λ q x h d. others (suc q) x h (λ e. d (omega (arith, e))))
one_passes test (Some y ∷ ss) (suc p) others =
    one_passes test ss p (λ q x h d. others (suc q) x h (λ e. d (omega (arith, e)))) ∙ sym (fails test y (present ss) (others 0 y refl (λ e. absurd (omega (arith, e)))))

-- ---- the entry of a DN, in a search of it alone and in a bind

and_false : (s t : Bool) → s ≡ false → (s && t) ≡ false
and_false false t h = refl
and_false true t h = cc

pub alone_enough : (ss : List (Option DirEntry)) (s : SearchValue) (base : Option (List (List Pair))) (p : ℕ) → base ≡ spelled s.base → s.scope ≡ 0 → IsAlone ss base p → AreEnough (λ (e : DirEntry). is_found s e) ss (p ∷ [])
alone_enough ss s base p at scope alone =
    one_passes (λ (e : DirEntry). is_found s e) ss p
    (λ q x h d.
    let other : both_meet same_dn (spelled x.dn) (spelled s.base) ≡ false = ap (λ (o : Option (List (List Pair))). both_meet same_dn (spelled x.dn) o) (sym at) ∙ alone.others q x h d in
    let far : both_meet (in_scope s.scope) (spelled x.dn) (spelled s.base) ≡ false = ap (λ (n : ℕ). both_meet (in_scope n) (spelled x.dn) (spelled s.base)) scope ∙ other in
    and_false (both_meet (in_scope s.scope) (spelled x.dn) (spelled s.base)) (matches s.filter x.attributes) far)

pub nowhere_enough : (ss : List (Option DirEntry)) (s : SearchValue) (base : Option (List (List Pair))) → base ≡ spelled s.base → s.scope ≡ 0 → IsNowhere ss base → AreEnough (λ (e : DirEntry). is_found s e) ss []
nowhere_enough ss s base at scope nowhere =
    sym (none_pass (λ (e : DirEntry). is_found s e) ss
    (λ q x h.
    let other : both_meet same_dn (spelled x.dn) (spelled s.base) ≡ false = ap (λ (o : Option (List (List Pair))). both_meet same_dn (spelled x.dn) o) (sym at) ∙ nowhere q x h in
    let far : both_meet (in_scope s.scope) (spelled x.dn) (spelled s.base) ≡ false = ap (λ (n : ℕ). both_meet (in_scope n) (spelled x.dn) (spelled s.base)) scope ∙ other in
    and_false (both_meet (in_scope s.scope) (spelled x.dn) (spelled s.base)) (matches s.filter x.attributes) far))

none_any : (test : DirEntry → Bool) (ss : List (Option DirEntry)) → ((q : ℕ) (x : DirEntry) → at_slot ss q ≡ Some x → test x ≡ false) → list_any test (present ss) ≡ false
none_any test [] h = refl
none_any test (None ∷ ss) h = none_any test ss (λ q x e. h (suc q) x e)
none_any test (Some y ∷ ss) h = let other : test y ≡ false = h 0 y refl in rw other (none_any test ss (λ q x e. h (suc q) x e))

or_false : (s : Bool) → (cond s true false) ≡ s
or_false true = refl
or_false false = refl

one_any : (test : DirEntry → Bool) (ss : List (Option DirEntry)) (p : ℕ) → ((q : ℕ) (x : DirEntry) → at_slot ss q ≡ Some x → q ≢ p → test x ≡ false) → passes_at test (at_slot ss p) ≡ list_any test (present ss)
one_any test [] p others = refl
one_any test (None ∷ ss) zero others = sym (none_any test ss (λ q x e. others (suc q) x e (λ e. absurd (omega (arith, e)))))
one_any test (Some y ∷ ss) zero others =
    let rest : list_any test (present ss) ≡ false = none_any test ss (λ q x e. others (suc q) x e (λ e. absurd (omega (arith, e)))) in
    elim (cases_Bool (test y)) [
      | inl e ↦ rw e refl
      | inr e ↦ rw (e, rest) refl
    ]
one_any test (None ∷ ss) (suc p) others = one_any test ss p (λ q x h d. others (suc q) x h (λ e. d (omega (arith, e))))
one_any test (Some y ∷ ss) (suc p) others =
    let other : test y ≡ false = others 0 y refl (λ e. absurd (omega (arith, e))) in
    rw other (one_any test ss p (λ q x h d. others (suc q) x h (λ e. d (omega (arith, e)))))

pub right_alone : (ss : List (Option DirEntry)) (dn : Option (List (List Pair))) (password : List ℕ) (p : ℕ) → IsAlone ss dn p
    → passes_at (λ (e : DirEntry). both_meet same_dn (spelled e.dn) dn && has_password password e) (at_slot ss p) ≡ list_any (λ (e : DirEntry). both_meet same_dn (spelled e.dn) dn && has_password password e) (present ss)
right_alone ss dn password p alone =
    one_any (λ (e : DirEntry). both_meet same_dn (spelled e.dn) dn && has_password password e) ss p
    (λ q x h d. and_false (both_meet same_dn (spelled x.dn) dn) (has_password password x) (alone.others q x h d))

pub right_nowhere : (ss : List (Option DirEntry)) (dn : Option (List (List Pair))) (password : List ℕ) → IsNowhere ss dn
    → false ≡ list_any (λ (e : DirEntry). both_meet same_dn (spelled e.dn) dn && has_password password e) (present ss)
right_nowhere ss dn password nowhere =
    sym (none_any (λ (e : DirEntry). both_meet same_dn (spelled e.dn) dn && has_password password e) ss
    (λ q x h. and_false (both_meet same_dn (spelled x.dn) dn) (has_password password x) (nowhere q x h)))

pub nowhere_stays : (ss : List (Option DirEntry)) (dn : Option (List (List Pair))) → IsNowhere ss dn → present ss ≡ filter (λ (e : DirEntry). not (both_meet same_dn (spelled e.dn) dn)) (present ss)
nowhere_stays ss dn nowhere = sym (all_stay (λ (e : DirEntry). both_meet same_dn (spelled e.dn) dn) ss nowhere)

-- ---- the places of names

-- an entry with a DN stands at the place of its name
met_place : (names : List (Name × ℕ)) (ss : List (Option DirEntry)) (dn : Option (List (List Pair))) (k : Name) (q : ℕ) (x : DirEntry) → AreNamed names ss → lowered dn ≡ Some (parts k) → at_slot ss q ≡ Some x
    → both_meet same_dn (spelled x.dn) dn ≡ true → place_named names k ≡ Some q
met_place names ss dn k q x named spells at met = named.known k q x at (met_lowered (spelled x.dn) dn met ∙ spells)

same_place : (p q : ℕ) (o : Option ℕ) → o ≡ Some p → o ≡ Some q → q ≡ p
same_place p q o h g = cc

no_place : (q : ℕ) (o : Option ℕ) → o ≡ None → o ≡ Some q → ⊥
no_place q o h g = let bad : None ≡ Some q = sym h ∙ g in cc

others_by : (names : List (Name × ℕ)) (ss : List (Option DirEntry)) (dn : Option (List (List Pair))) (k : Name) (p q : ℕ) (x : DirEntry) → AreNamed names ss → lowered dn ≡ Some (parts k) → place_named names k ≡ Some p
    → at_slot ss q ≡ Some x → q ≢ p → both_meet same_dn (spelled x.dn) dn ≡ false
others_by names ss dn k p q x named spells is at differ =
    elim (cases_Bool (both_meet same_dn (spelled x.dn) dn)) [
      | inl met ↦ absurd (differ (same_place p q (place_named names k) is (met_place names ss dn k q x named spells at met)))
      | inr other ↦ other
    ]

nowhere_by : (names : List (Name × ℕ)) (ss : List (Option DirEntry)) (dn : Option (List (List Pair))) (k : Name) → AreNamed names ss → lowered dn ≡ Some (parts k)
    → ((q : ℕ) (x : DirEntry) → at_slot ss q ≡ Some x → place_named names k ≡ Some q → ⊥) → IsNowhere ss dn
nowhere_by names ss dn k named spells none q x at =
    elim (cases_Bool (both_meet same_dn (spelled x.dn) dn)) [
      | inl met ↦ absurd (none q x at (met_place names ss dn k q x named spells at met))
      | inr other ↦ other
    ]

filled_or : {X : Type 0} (o : Option X) → (o ≡ None) ⊎ ((x : X) × (o ≡ Some x))
filled_or None = inl refl
filled_or (Some x) = inr (x, refl)

is_there : {X : Type 0} (p : ℕ) (o : Option X) (x : X) → o ≡ Some x → cond (is_some o) (Some p) None ≡ Some p
is_there p o x h = rw h refl

is_gone : {X : Type 0} (p : ℕ) (o : Option X) → o ≡ None → cond (is_some o) (Some p) None ≡ None
is_gone p o h = rw h refl

pub place_by : (names : List (Name × ℕ)) (ss : List (Option DirEntry)) (dn : Option (List (List Pair))) (k : Name) → AreNamed names ss → lowered dn ≡ Some (parts k) → IsPlaceOf ss dn (if_there ss (place_named names k))
place_by names ss dn k named spells = by_place (place_named names k) refl
  where
    by_place : (r : Option ℕ) → place_named names k ≡ r → IsPlaceOf ss dn (if_there ss r)
    by_place None is = nowhere_by names ss dn k named spells (λ q x at known. no_place q (place_named names k) is known)
    by_place (Some p) is =
        elim (filled_or (at_slot ss p)) [
          | inl none ↦
              subst (λ (o : Option ℕ). IsPlaceOf ss dn o) (sym (is_gone p (at_slot ss p) none))
              (nowhere_by names ss dn k named spells
              (λ q x at known.
              let here : at_slot ss p ≡ Some x = ap (λ (n : ℕ). at_slot ss n) (sym (same_place p q (place_named names k) is known)) ∙ at in
              let bad : None ≡ Some x = sym none ∙ here in
              cc))
          | inr old ↦
              subst (λ (o : Option ℕ). IsPlaceOf ss dn o) (sym (is_there p (at_slot ss p) old.0 old.1))
              (record {
                within = at_within ss p old.0 old.1;
                here = λ x at. lowered_met (spelled x.dn) dn (parts k) (named.found k p x is at) spells;
                others = λ q x at d. others_by names ss dn k p q x named spells is at d;
              })
        ]

pub place_found : (names : List (Name × ℕ)) (ss : List (Option DirEntry)) (dn : List (List Pair)) (k : Name) (r : Option ℕ) → AreNamed names ss → parts k ≡ lower_dn dn → r ≡ if_there ss (place_named names k) → IsPlaceOf ss (Some dn) r
place_found names ss dn k r named spells is = subst (λ (o : Option ℕ). IsPlaceOf ss (Some dn) o) (sym is) (place_by names ss (Some dn) k named (ap (λ (x : List (List Part)). Some x) (sym spells)))

pub nowhere_none : (ss : List (Option DirEntry)) → IsNowhere ss None
nowhere_none ss q x at = never_met (spelled x.dn) None refl

-- an entry takes the place of the one that has its name
there_of : (ss : List (Option DirEntry)) (r : Option ℕ) (p : ℕ) → if_there ss r ≡ Some p → (r ≡ Some p) × ((old : DirEntry) × (at_slot ss p ≡ Some old))
there_of ss None p h = cc
there_of ss (Some n) p h =
    elim (filled_or (at_slot ss n)) [
      | inl none ↦ let bad : None ≡ Some p = sym (is_gone n (at_slot ss n) none) ∙ h in cc
      | inr old ↦
          let same : Some n ≡ Some p = sym (is_there n (at_slot ss n) old.0 old.1) ∙ h in
          let e : n ≡ p = cc in
          (same, (old.0, ap (λ (x : ℕ). at_slot ss x) (sym e) ∙ old.1))
    ]

pub reserved_there : (names : List (Name × ℕ)) (ss : List (Option DirEntry)) (k : Name) (e : DirEntry) (p : ℕ) → AreNamed names ss → lowered (spelled e.dn) ≡ Some (parts k) → if_there ss (place_named names k) ≡ Some p
    → IsReserved names ss p e
reserved_there names ss k e p named spells h =
    let is : (place_named names k ≡ Some p) × ((old : DirEntry) × (at_slot ss p ≡ Some old)) = there_of ss (place_named names k) p h in
    record {
      within = at_within ss p is.1.0 is.1.1;
      named = λ name at. spells ∙ ap (λ (x : List (List Part)). Some x) (named.apart k name p is.0 at);
      at = λ name s. place_same names name k (let same : Some (parts name) ≡ Some (parts k) = sym s ∙ spells in cc) ∙ is.0;
      here = λ old at. lowered_met (spelled old.dn) (spelled e.dn) (parts k) (named.found k p old is.0 at) spells;
      last = λ none. let bad : None ≡ Some is.1.0 = sym none ∙ is.1.1 in cc;
      others = λ q x at d. others_by names ss (spelled e.dn) k p q x named spells is.0 at d;
    }

-- one slot more
pub named_hole : (names : List (Name × ℕ)) (ss : List (Option DirEntry)) → AreNamed names ss → AreNamed names (ss ++ None ∷ [])
named_hole names ss named = record {
  found = λ name p e is at. named.found name p e is (sym (at_hole ss p) ∙ at);
  known = λ name p e at s. named.known name p e (sym (at_hole ss p) ∙ at) s;
  apart = named.apart;
  below = λ name p is. let lt : p < length ss = named.below name p is in let size = length-append ss (None ∷ []) in omega (arith, lt, size);
}

-- a name more, whose slot is the last one
gone_of : (ss : List (Option DirEntry)) (r : Option ℕ) (p : ℕ) (x : DirEntry) → if_there ss r ≡ None → r ≡ Some p → at_slot ss p ≡ Some x → ⊥
gone_of ss None p x h is at = cc
gone_of ss (Some n) p x h is at =
    let e : n ≡ p = cc in
    let bad : Some n ≡ None = sym (is_there n (at_slot ss n) x (ap (λ (m : ℕ). at_slot ss m) e ∙ at)) ∙ h in
    cc

hole_last : (ss : List (Option DirEntry)) (x : DirEntry) → at_slot (ss ++ None ∷ []) (length ss) ≡ Some x → ⊥
hole_last ss x at = let lt : length ss < length ss = at_within ss (length ss) x (sym (at_hole ss (length ss)) ∙ at) in absurd (omega (arith, lt))

now_is : (t : Bool) (n p : ℕ) (old r : Option ℕ) → r ≡ cond t (Some n) old → r ≡ Some p → ((t ≡ true) × (n ≡ p)) ⊎ ((t ≡ false) × (old ≡ Some p))
now_is true n p old r e is = let same : Some n ≡ Some p = sym e ∙ is in let at : n ≡ p = cc in inl (refl, at)
now_is false n p old r e is = inr (refl, sym e ∙ is)

module _ (names grown : List (Name × ℕ)) (ss : List (Option DirEntry)) (k : Name) (n : ℕ) (behind : n ≡ length ss) (made : grown ≡ insert_entry names_equal names k n) (named : AreNamed names ss)
    (none : if_there ss (place_named names k) ≡ None) where
  place_now : (q : Name) → place_named grown q ≡ cond (names_equal q k) (Some n) (place_named names q)
  place_now q = ap (λ (es : List (Name × ℕ)). place_named es q) made ∙ place_put names k q n

  cases_now : (q : Name) (p : ℕ) → place_named grown q ≡ Some p → ((names_equal q k ≡ true) × (n ≡ p)) ⊎ ((names_equal q k ≡ false) × (place_named names q ≡ Some p))
  cases_now q p is = now_is (names_equal q k) n p (place_named names q) (place_named grown q) (place_now q) is

  size : length (ss ++ None ∷ []) ≡ suc n
  size = omega (arith, length-append ss (None ∷ []), behind)

  not_here : (p : ℕ) (x : DirEntry) → n ≡ p → at_slot (ss ++ None ∷ []) p ≡ Some x → ⊥
  not_here p x e at = hole_last ss x (ap (λ (m : ℕ). at_slot (ss ++ None ∷ []) m) (sym behind ∙ e) ∙ at)

  not_below : (q : Name) (p : ℕ) → n ≡ p → place_named names q ≡ Some p → ⊥
  not_below q p e is = let lt : p < length ss = named.below q p is in absurd (omega (arith, lt, e, behind))

  pub named_fresh : AreNamed grown (ss ++ None ∷ [])
  named_fresh = record {
    found = λ q p e is at.
        elim (cases_now q p is) [
          | inl own ↦ absurd (not_here p e own.1 at)
          | inr old ↦ named.found q p e old.1 (sym (at_hole ss p) ∙ at)
        ];
    known = λ q p e at spells.
        let here : at_slot ss p ≡ Some e = sym (at_hole ss p) ∙ at in
        let is : place_named names q ≡ Some p = named.known q p e here spells in
        elim (cases_Bool (names_equal q k)) [
          | inl equal ↦ absurd (gone_of ss (place_named names k) p e none (sym (place_same names q k (parts_same q k equal)) ∙ is) here)
          | inr differ ↦ place_now q ∙ ap (λ (t : Bool). cond t (Some n) (place_named names q)) differ ∙ is
        ];
    apart = λ a b p isa isb.
        elim (cases_now a p isa) [
          | inl owna ↦
              elim (cases_now b p isb) [
                | inl ownb ↦ parts_same a k owna.0 ∙ sym (parts_same b k ownb.0)
                | inr oldb ↦ absurd (not_below b p owna.1 oldb.1)
              ]
          | inr olda ↦
              elim (cases_now b p isb) [
                | inl ownb ↦ absurd (not_below a p ownb.1 olda.1)
                | inr oldb ↦ named.apart a b p olda.1 oldb.1
              ]
        ];
    below = λ q p is.
        elim (cases_now q p is) [
          | inl own ↦ omega (arith, size, own.1)
          | inr old ↦ let lt : p < length ss = named.below q p old.1 in omega (arith, lt, size, behind)
        ];
  }

  pub reserved_fresh : (e : DirEntry) → lowered (spelled e.dn) ≡ Some (parts k) → IsReserved grown (ss ++ None ∷ []) n e
  reserved_fresh e spells = record {
    within = omega (arith, size);
    named = λ q is.
        elim (cases_now q n is) [
          | inl own ↦ spells ∙ ap (λ (x : List (List Part)). Some x) (sym (parts_same q k own.0))
          | inr old ↦ absurd (not_below q n refl old.1)
        ];
    at = λ q s.
        let both : Some (parts q) ≡ Some (parts k) = sym s ∙ spells in
        let same : parts q ≡ parts k = cc in
        place_now q ∙ ap (λ (t : Bool). cond t (Some n) (place_named names q)) (equal_of q k same);
    here = λ old at. absurd (not_here n old refl at);
    last = λ gone. sym size;
    others = λ q x at d. nowhere_by names ss (spelled e.dn) k named spells (λ p y there known. gone_of ss (place_named names k) p y none known there) q x (sym (at_hole ss q) ∙ at);
  }

-- an entry whose text spells no DN
pub reserved_unnamed : (names : List (Name × ℕ)) (ss : List (Option DirEntry)) (n : ℕ) (e : DirEntry) → n ≡ length ss → AreNamed names ss → lowered (spelled e.dn) ≡ None → IsReserved names (ss ++ None ∷ []) n e
reserved_unnamed names ss n e behind named unnamed = record {
  within = let size = length-append ss (None ∷ []) in omega (arith, size, behind);
  named = λ q is. let lt : n < length ss = named.below q n is in absurd (omega (arith, lt, behind));
  at = λ q s. let bad : None ≡ Some (parts q) = sym unnamed ∙ s in cc;
  here = λ old at. absurd (hole_last ss old (ap (λ (m : ℕ). at_slot (ss ++ None ∷ []) m) (sym behind) ∙ at));
  last = λ gone. let size = length-append ss (None ∷ []) in omega (arith, size, behind);
  others = λ q x at d. never_met (spelled x.dn) (spelled e.dn) unnamed;
}

-- ---- slots that are filled and emptied

pub filled_named : (names : List (Name × ℕ)) (ss new : List (Option DirEntry)) (p : ℕ) (e : DirEntry) → AreNamed names ss → IsReserved names ss p e → new ≡ set ss p (Some e) → AreNamed names new
filled_named names ss new p e named kept made = subst (λ (xs : List (Option DirEntry)). AreNamed names xs) (sym made) by_place
  where
    by_place : AreNamed names (set ss p (Some e))
    by_place = record {
      found = λ q i x is at.
          elim (cases_eq i p) [
            | inl same ↦
                let own : Some e ≡ Some x = sym (at_same ss p (Some e) kept.within) ∙ ap (λ (m : ℕ). at_slot (set ss p (Some e)) m) (sym same) ∙ at in
                let one : e ≡ x = cc in
                ap (λ (y : DirEntry). lowered (spelled y.dn)) (sym one) ∙ kept.named q (is ∙ ap (λ (m : ℕ). Some m) same)
            | inr differ ↦ named.found q i x is (sym (at_other ss p i (Some e) differ) ∙ at)
          ];
      known = λ q i x at spells.
          elim (cases_eq i p) [
            | inl same ↦
                let own : Some e ≡ Some x = sym (at_same ss p (Some e) kept.within) ∙ ap (λ (m : ℕ). at_slot (set ss p (Some e)) m) (sym same) ∙ at in
                let one : e ≡ x = cc in
                kept.at q (ap (λ (y : DirEntry). lowered (spelled y.dn)) one ∙ spells) ∙ ap (λ (m : ℕ). Some m) (sym same)
            | inr differ ↦ named.known q i x (sym (at_other ss p i (Some e) differ) ∙ at) spells
          ];
      apart = named.apart;
      below = λ q i is. let lt : i < length ss = named.below q i is in let size = length-set ss p (Some e) in omega (arith, lt, size);
    }

pub filled_put : (names : List (Name × ℕ)) (ss new : List (Option DirEntry)) (p : ℕ) (e : DirEntry) → IsReserved names ss p e → new ≡ set ss p (Some e) → present new ≡ put (present ss) e
filled_put names ss new p e kept made = ap (λ (xs : List (Option DirEntry)). present xs) made ∙ put_there ss p e kept.within kept.here kept.last kept.others

pub cleared_named : (names : List (Name × ℕ)) (ss new : List (Option DirEntry)) (p : ℕ) → AreNamed names ss → p < length ss → new ≡ set ss p None → AreNamed names new
cleared_named names ss new p named within made = subst (λ (xs : List (Option DirEntry)). AreNamed names xs) (sym made) by_place
  where
    at_old : (i : ℕ) (x : DirEntry) → at_slot (set ss p None) i ≡ Some x → at_slot ss i ≡ Some x
    at_old i x at =
        elim (cases_eq i p) [
          | inl same ↦
              let none : None ≡ Some x = sym (at_same ss p None within) ∙ ap (λ (m : ℕ). at_slot (set ss p None) m) (sym same) ∙ at in
              cc
          | inr differ ↦ sym (at_other ss p i None differ) ∙ at
        ]

    by_place : AreNamed names (set ss p None)
    by_place = record {
      found = λ q i x is at. named.found q i x is (at_old i x at);
      known = λ q i x at spells. named.known q i x (at_old i x at) spells;
      apart = named.apart;
      below = λ q i is. let lt : i < length ss = named.below q i is in let size = length-set {A = Option DirEntry} ss p None in omega (arith, lt, size);
    }

pub cleared_rest : (ss new : List (Option DirEntry)) (p : ℕ) (dn : Option (List (List Pair))) → IsAlone ss dn p → new ≡ set ss p None → present new ≡ filter (λ (e : DirEntry). not (both_meet same_dn (spelled e.dn) dn)) (present ss)
cleared_rest ss new p dn alone made = ap (λ (xs : List (Option DirEntry)). present xs) made ∙ rest_stay (λ (e : DirEntry). both_meet same_dn (spelled e.dn) dn) ss p alone.here alone.others

-- ---- slots that have grown

pub grown_present : (old new : List (Option DirEntry)) → HasGrown old new → present new ≡ present old
grown_present old new (inl same) = ap (λ (xs : List (Option DirEntry)). present xs) same
grown_present old new (inr more) = ap (λ (xs : List (Option DirEntry)). present xs) more ∙ present_hole old

pub none_named : AreNamed [] []
none_named = record {
  found = λ q p e is at. cc;
  known = λ q p e at spells. cc;
  apart = λ a b p isa isb. cc;
  below = λ q p is. cc;
}

pub on_any : {A E : Type 0} (r : Result A E) (P : Type 0) → P → OnErr r P
on_any (Ok x) P h = tt
on_any (Err e) P h = h
