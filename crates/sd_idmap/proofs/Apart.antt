-- Pairs of domains and slices, of which no two are the same.
use Rattle.std.specs.Prelude.{nat_eq, ◌==◌, ◌||◌, find, is_some}
use Rattle.std.proofs.Common.{◌≡◌, ℕ, Bool, true, false, cond, List, [], ◌∷◌, ◌++◌, map, Option, Some, None, refl, sym, ap, subst, ◌∙◌, inl, inr}
use Rattle.std.specs.List.{list_any}
use Rattle.std.specs.Map.{lookup}
use Rattle.std.specs.Cmp.Lexicographic.{same_text}
use Rattle.std.proofs.lemmas.Bool.{cases_Bool, eq-eqb, ne_eqb, true≢false, false_from_ne_true, or_from, or_parts, or_left, or_right}
use Rattle.std.proofs.lemmas.List.Folds.{list_any-append}
use Rattle.sd_idmap.specs.Slicing.{Placed, same_domain}
use Rattle.sd_idmap.specs.Keeping.{AreApart, turned}

-- ---- domains

pub same_is : (a b : List ℕ) → same_domain a b ≡ true → a ≡ b
same_is a b h = same_text a b (sym h)

pub same_self : (a : List ℕ) → same_domain a a ≡ true
same_self [] = refl
same_self (x ∷ xs) = rw (eq-eqb x x refl) (same_self xs)

other_domain : (a b : List ℕ) → (a ≡ b → ⊥) → same_domain a b ≡ false
other_domain a b h = false_from_ne_true (same_domain a b) (λ e. h (same_is a b e))

pub same_flips : (a b : List ℕ) → same_domain a b ≡ false → same_domain b a ≡ false
same_flips a b h = other_domain b a (λ e. true≢false (sym (same_self a) ∙ (ap (same_domain a) (sym e) ∙ h)))

-- ---- look-ups

pub found_any : (d : List ℕ) (s : ℕ) (ps : Placed) → lookup (same_domain d) ps ≡ Some s → list_any (λ q. same_domain d q.0) ps ≡ true
found_any d s [] h = absurd cc
found_any d s (p ∷ ps) h =
    elim (cases_Bool (same_domain d p.0)) [
      | inl e ↦ or_left (same_domain d p.0) (list_any (λ q. same_domain d q.0) ps) e
      | inr e ↦ or_right (same_domain d p.0) (list_any (λ q. same_domain d q.0) ps) (found_any d s ps (sym (ap (λ (t : Bool). cond t (Some p.1) (lookup (same_domain d) ps)) e) ∙ h))
    ]

found_slice : (d : List ℕ) (s : ℕ) (ps : Placed) → lookup (same_domain d) ps ≡ Some s → list_any (λ q. s == q.1) ps ≡ true
found_slice d s [] h = absurd cc
found_slice d s (p ∷ ps) h =
    elim (cases_Bool (same_domain d p.0)) [
      | inl e ↦
          let k : Some p.1 ≡ Some s = sym (ap (λ (t : Bool). cond t (Some p.1) (lookup (same_domain d) ps)) e) ∙ h in
          let at : s ≡ p.1 = cc in
          or_left (s == p.1) (list_any (λ q. s == q.1) ps) (eq-eqb s p.1 at)
      | inr e ↦ or_right (s == p.1) (list_any (λ q. s == q.1) ps) (found_slice d s ps (sym (ap (λ (t : Bool). cond t (Some p.1) (lookup (same_domain d) ps)) e) ∙ h))
    ]

pub missed_any : (d : List ℕ) (ps : Placed) → lookup (same_domain d) ps ≡ None → list_any (λ q. same_domain d q.0) ps ≡ false
missed_any d [] h = refl
missed_any d (p ∷ ps) h =
    elim (cases_Bool (same_domain d p.0)) [
      | inl e ↦ let k : Some p.1 ≡ None = sym (ap (λ (t : Bool). cond t (Some p.1) (lookup (same_domain d) ps)) e) ∙ h in absurd cc
      | inr e ↦ or_from (same_domain d p.0) (list_any (λ q. same_domain d q.0) ps) e (missed_any d ps (sym (ap (λ (t : Bool). cond t (Some p.1) (lookup (same_domain d) ps)) e) ∙ h))
    ]

-- a domain that has a slice keeps it where more are behind
pub lookup_kept : (d : List ℕ) (s : ℕ) (ps qs : Placed) → lookup (same_domain d) ps ≡ Some s → lookup (same_domain d) (ps ++ qs) ≡ Some s
lookup_kept d s [] qs h = absurd cc
lookup_kept d s (p ∷ ps) qs h =
    elim (cases_Bool (same_domain d p.0)) [
      | inl e ↦ ap (λ (t : Bool). cond t (Some p.1) (lookup (same_domain d) (ps ++ qs))) e ∙ (sym (ap (λ (t : Bool). cond t (Some p.1) (lookup (same_domain d) ps)) e) ∙ h)
      | inr e ↦ ap (λ (t : Bool). cond t (Some p.1) (lookup (same_domain d) (ps ++ qs))) e ∙ lookup_kept d s ps qs (sym (ap (λ (t : Bool). cond t (Some p.1) (lookup (same_domain d) ps)) e) ∙ h)
    ]

-- and a new one has its own
pub lookup_new : (d : List ℕ) (s : ℕ) (ps : Placed) → lookup (same_domain d) ps ≡ None → lookup (same_domain d) (ps ++ (d, s) ∷ []) ≡ Some s
lookup_new d s [] h = ap (λ (t : Bool). cond t (Some s) None) (same_self d)
lookup_new d s (p ∷ ps) h =
    elim (cases_Bool (same_domain d p.0)) [
      | inl e ↦ let k : Some p.1 ≡ None = sym (ap (λ (t : Bool). cond t (Some p.1) (lookup (same_domain d) ps)) e) ∙ h in absurd cc
      | inr e ↦ ap (λ (t : Bool). cond t (Some p.1) (lookup (same_domain d) (ps ++ (d, s) ∷ []))) e ∙ lookup_new d s ps (sym (ap (λ (t : Bool). cond t (Some p.1) (lookup (same_domain d) ps)) e) ∙ h)
    ]

-- ---- pairs that are apart

pub apart_push : (d : List ℕ) (s : ℕ) (ps : Placed) → AreApart ps → list_any (λ q. same_domain d q.0) ps ≡ false → list_any (λ q. s == q.1) ps ≡ false → AreApart (ps ++ (d, s) ∷ [])
apart_push d s [] h no_domain no_slice = (refl, (refl, tt))
apart_push d s (p ∷ ps) h no_domain no_slice =
    let a = or_parts (same_domain d p.0) (list_any (λ q. same_domain d q.0) ps) no_domain in
    let b = or_parts (s == p.1) (list_any (λ q. s == q.1) ps) no_slice in
    let other : (p.1 == s) ≡ false = ne_eqb p.1 s (λ e. true≢false (sym (eq-eqb s p.1 (sym e)) ∙ b.0)) in (
      list_any-append (λ q. same_domain p.0 q.0) ps ((d, s) ∷ []) ∙ or_from (list_any (λ q. same_domain p.0 q.0) ps) (same_domain p.0 d || false) h.0 (or_from (same_domain p.0 d) false (same_flips d p.0 a.0) refl),
      (
        list_any-append (λ q. p.1 == q.1) ps ((d, s) ∷ []) ∙ or_from (list_any (λ q. p.1 == q.1) ps) ((p.1 == s) || false) h.1.0 (or_from (p.1 == s) false other refl),
        apart_push d s ps h.1.1 a.1 b.1,
      ),
    )

-- the pair of a domain, searched by its slice
pub find_by_slice : (d : List ℕ) (s : ℕ) (f : ℕ → Bool) → ((t : ℕ) → f t ≡ (s == t)) → (ps : Placed) → AreApart ps → lookup (same_domain d) ps ≡ Some s → find (λ q. f q.1) ps ≡ Some (d, s)
find_by_slice d s f is [] apart h = absurd cc
find_by_slice d s f is (p ∷ ps) apart h =
    elim (cases_Bool (same_domain d p.0)) [
      | inl e ↦
          let k : Some p.1 ≡ Some s = sym (ap (λ (t : Bool). cond t (Some p.1) (lookup (same_domain d) ps)) e) ∙ h in
          let at : s ≡ p.1 = cc in
          let yes : f p.1 ≡ true = is p.1 ∙ eq-eqb s p.1 at in
          let first : d ≡ p.0 = same_is d p.0 e in
          ap (λ (t : Bool). cond t (Some p) (find (λ q. f q.1) ps)) yes ∙ (ap (λ (x : List ℕ). Some (x, p.1)) (sym first) ∙ ap (λ (x : ℕ). Some (d, x)) (sym at))
      | inr e ↦
          let k : lookup (same_domain d) ps ≡ Some s = sym (ap (λ (t : Bool). cond t (Some p.1) (lookup (same_domain d) ps)) e) ∙ h in
          let differs : s ≡ p.1 → ⊥ = λ at. true≢false (sym (found_slice d s ps k) ∙ (ap (λ (x : ℕ). list_any (λ q. x == q.1) ps) at ∙ apart.1.0)) in
          ap (λ (t : Bool). cond t (Some p) (find (λ q. f q.1) ps)) (is p.1 ∙ ne_eqb s p.1 differs) ∙ find_by_slice d s f is ps apart.1.1 k
    ]

-- and the slice of a pair that was found
pub lookup_by_found : (f : ℕ → Bool) (ps : Placed) (q : List ℕ × ℕ) → AreApart ps → find (λ r. f r.1) ps ≡ Some q → (lookup (same_domain q.0) ps ≡ Some q.1) × (f q.1 ≡ true)
lookup_by_found f [] q apart h = absurd cc
lookup_by_found f (p ∷ ps) q apart h =
    elim (cases_Bool (f p.1)) [
      | inl e ↦
          let k : Some p ≡ Some q = sym (ap (λ (t : Bool). cond t (Some p) (find (λ r. f r.1) ps)) e) ∙ h in
          let at : p ≡ q = cc in
          subst (λ (r : List ℕ × ℕ). (lookup (same_domain r.0) (p ∷ ps) ≡ Some r.1) × (f r.1 ≡ true)) at (ap (λ (t : Bool). cond t (Some p.1) (lookup (same_domain p.0) ps)) (same_self p.0), e)
      | inr e ↦
          let k : find (λ r. f r.1) ps ≡ Some q = sym (ap (λ (t : Bool). cond t (Some p) (find (λ r. f r.1) ps)) e) ∙ h in
          let rest = lookup_by_found f ps q apart.1.1 k in
          let differs : (q.0 ≡ p.0) → ⊥ = λ at. true≢false (sym (found_any q.0 q.1 ps rest.0) ∙ (ap (λ (x : List ℕ). list_any (λ r. same_domain x r.0) ps) at ∙ apart.0)) in
          (ap (λ (t : Bool). cond t (Some p.1) (lookup (same_domain q.0) ps)) (other_domain q.0 p.0 differs) ∙ rest.0, rest.1)
    ]

-- ---- the table by slices

abbrev pub first_of : Option (List ℕ × ℕ) → Option (List ℕ)
first_of None = None
first_of (Some p) = Some p.0

pub turned_lookup : (s : ℕ) (ps : Placed) → is_some (lookup (nat_eq s) (map turned ps)) ≡ list_any (λ p. s == p.1) ps
turned_lookup s [] = refl
turned_lookup s (p ∷ ps) = by (nat_eq s p.1) (turned_lookup s ps)
  where
    by : (t : Bool) → is_some (lookup (nat_eq s) (map turned ps)) ≡ list_any (λ q. s == q.1) ps → is_some (cond t (Some p.0) (lookup (nat_eq s) (map turned ps))) ≡ (t || list_any (λ q. s == q.1) ps)
    by true h = refl
    by false h = h

pub turned_find : (s : ℕ) (f : ℕ → Bool) → ((t : ℕ) → f t ≡ (s == t)) → (ps : Placed) (o : Option (List ℕ × ℕ)) → find (λ q. f q.1) ps ≡ o → lookup (nat_eq s) (map turned ps) ≡ first_of o
turned_find s f is [] o h = ap first_of h
turned_find s f is (p ∷ ps) o h =
    ap (λ (t : Bool). cond t (Some p.0) (lookup (nat_eq s) (map turned ps))) (sym (is p.1)) ∙ (by (f p.1) (turned_find s f is ps (find (λ q. f q.1) ps) refl) ∙ ap first_of h)
  where
    by : (t : Bool) → lookup (nat_eq s) (map turned ps) ≡ first_of (find (λ q. f q.1) ps) → cond t (Some p.0) (lookup (nat_eq s) (map turned ps)) ≡ first_of (cond t (Some p) (find (λ q. f q.1) ps))
    by true k = refl
    by false k = k
