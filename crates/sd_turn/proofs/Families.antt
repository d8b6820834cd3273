-- A split and a join keep what is known of the names.
use Rattle.std.proofs.Common.{◌≡◌, ℕ, zero, suc, ◌+◌, ◌<◌, ◌≤◌, ◌≢◌, ◌⊎◌, Bool, true, false, not, ◌==◌, List, [], ◌∷◌, ◌++◌, length, set, sym, refl, ap, ◌∙◌, subst, inl, inr, ⊎_elim, arith, length-append, le_refl, append_assoc, Contains}
use Rattle.std.proofs.lemmas.List.Elements.{Contains-append_left, Contains-append_right, Contains-append_cases, Contains-push}
use Rattle.std.specs.Cmp.Lexicographic.{pointwise, same_text}
use mathlib.Core.Logic.{dite}
use mathlib.Core.Option.{some}
use native.Mathlib.Decide.{ℕ_discrete}
use lib.ListN.{get_elem?}
use Rattle.atomic_table.proofs.Lists.{at_set, at_longer, set_else}
use Rattle.sd_turn.specs.Names.{Member, child_name, without, Family}
use Rattle.sd_turn.proofs.Lists.{at_put, at_one, at_only, at_end, contains_none, contains_only, contains_filter, contains_from_filter}

abbrev head_or : ℕ → List ℕ → ℕ
head_or d [] = d
head_or d (x ∷ xs) = x

abbrev tail_of : List ℕ → List ℕ
tail_of [] = []
tail_of (x ∷ xs) = xs

is_other : (b : Bool) → (true ≡ b → ⊥) → not b ≡ true
is_other true h = absurd (h refl)
is_other false h = refl

without_contains : (name other : List ℕ) (names : List (List ℕ)) → other ≢ name → Contains names other → Contains (without name names) other
without_contains name other names differs h = contains_filter (λ o. not (pointwise ◌==◌ name o)) names other (is_other (pointwise ◌==◌ name other) (λ e. differs (sym (same_text name other e)))) h

-- A list and one more is another list with something behind it: the one more is the first of that, or the list goes on.
push_split : (xs ys rest : List ℕ) (a k : ℕ) → xs ++ a ∷ [] ≡ ys ++ k ∷ rest → ((xs ≡ ys) × (a ≡ k)) ⊎ ((r : List ℕ) × (xs ≡ ys ++ k ∷ r))
push_split [] [] rest a k e = inl (refl, ap (head_or 0) e)
push_split [] (y ∷ ys) rest a k e = let l : length (ys ++ k ∷ rest) ≡ 0 = ap length (sym (ap tail_of e)) in let z : length (ys ++ k ∷ rest) ≡ length ys + length (k ∷ rest) = length-append ys (k ∷ rest) in absurd (omega arith)
push_split (x ∷ xs) [] rest a k e = let h : x ≡ k = ap (head_or 0) e in inr (xs, λ i. h i ∷ xs)
push_split (x ∷ xs) (y ∷ ys) rest a k e = let h : x ≡ y = ap (head_or 0) e in ⊎_elim
    (λ (t : (xs ≡ ys) × (a ≡ k)). inl ((λ i. h i ∷ t.0 i), t.1))
    (λ (t : (r : List ℕ) × (xs ≡ ys ++ k ∷ r)). inr (t.0, λ i. h i ∷ t.1 i))
    (push_split xs ys rest a k (ap tail_of e))

-- The seat at `place` makes a split.
module _ (members : List Member) (family : Family members) (place : ℕ) (m : Member) (at : get_elem? members place ≡ some m) (lives : m.lives ≡ true) where
  abbrev child : List ℕ
  child = child_name m.name m.splits

  abbrev parent : Member
  parent = record m { splits = m.splits + 1; out = m.out ++ child ∷ [] }

  abbrev born : Member
  born = record { lives = true; name = child; splits = 0; out = [] }

  abbrev after : List Member
  after = set members place parent ++ born ∷ []

  -- the member that stood at a place before
  abbrev Was : ℕ → Member → Type 0
  Was i x = (o : Member) × (get_elem? members i ≡ some o) × (x.lives ≡ o.lives) × (x.name ≡ o.name) × (o.splits ≤ x.splits) × (i ≡ place → x.splits ≡ m.splits + 1)
      × ((name : List ℕ) → Contains x.out name → Contains o.out name ⊎ ((name ≡ child) × (i ≡ place)))

  abbrev IsBorn : ℕ → Member → Type 0
  IsBorn i x = (i ≡ length (set members place parent)) × (born ≡ x)

  was_or_born : (i : ℕ) (x : Member) → get_elem? after i ≡ some x → Was i x ⊎ IsBorn i x
  was_or_born i x e = ⊎_elim
      (λ (o : get_elem? (set members place parent) i ≡ some x). ⊎_elim
      (λ (t : (i ≡ place) × (parent ≡ x)). inl (subst (Was i) t.1 (
        m,
        ap (get_elem? members) t.0 ∙ at,
        refl,
        refl,
        omega arith,
        (λ _. refl),
        λ name h. ⊎_elim
            (λ (a : Contains m.out name). inl a)
            (λ (b : Contains (child ∷ []) name). inr (sym (contains_only child name b), t.0))
            (Contains-append_cases m.out (child ∷ []) name h),
      )))
      (λ (t : (i ≢ place) × (get_elem? members i ≡ some x)). inl (x, t.1, refl, refl, le_refl x.splits, (λ e. absurd (t.0 e)), λ name h. inl h))
      (at_set members place i parent x o))
      (λ (n : IsBorn i x). inr n)
      (at_end (set members place parent) born x i e)

  stays : (j : ℕ) (p : Member) → get_elem? members j ≡ some p → (q : Member) × (get_elem? after j ≡ some q) × (q.lives ≡ p.lives) × ((name : List ℕ) → Contains p.out name → Contains q.out name)
  stays j p e = dite (ℕ_discrete j place)
      (λ is. let one : p ≡ m = at_one members j place p m e at is in (
        parent,
        at_longer (set members place parent) (born ∷ []) j parent (ap (get_elem? (set members place parent)) is ∙ at_put members place m parent at),
        ap (λ z. z.lives) (sym one),
        λ name h. Contains-append_left m.out (child ∷ []) name (subst (λ z. Contains z.out name) one h),
      ))
      (λ not. (p, at_longer (set members place parent) (born ∷ []) j p (set_else members place j parent not ∙ e), refl, λ name h. h))

  -- No seat that lives had the new name, or one that goes on from it.
  not_there : (i : ℕ) (x : Member) (rest : List ℕ) → Was i x → x.lives ≡ true → ¬ (x.name ≡ m.name ++ m.splits ∷ rest)
  not_there i x rest w lives_too is = let bad : m.splits < m.splits = family.fresh place i m w.0 m.splits rest at w.1 lives (sym w.2 ∙ lives_too) (sym w.3 ∙ is) in omega arith

  pub family-split : Family after
  family-split = record {
    unique = λ i j x y ex ey hx hy same. ⊎_elim
        (λ (a : Was i x). ⊎_elim
        (λ (b : Was j y). family.unique i j a.0 b.0 a.1 b.1 (sym a.2 ∙ hx) (sym b.2 ∙ hy) (sym a.3 ∙ (same ∙ b.3)))
        (λ (n : IsBorn j y). absurd (not_there i x [] a hx (same ∙ ap (λ z. z.name) (sym n.1))))
        (was_or_born j y ey))
        (λ (n : IsBorn i x). ⊎_elim
        (λ (b : Was j y). absurd (not_there j y [] b hy (sym same ∙ ap (λ z. z.name) (sym n.1))))
        (λ (n' : IsBorn j y). n.0 ∙ sym n'.0)
        (was_or_born j y ey))
        (was_or_born i x ex);
    fresh = λ i j x y k rest ex ey hx hy is. ⊎_elim
        (λ (a : Was i x). ⊎_elim
        (λ (b : Was j y). let l : k < a.0.splits = family.fresh i j a.0 b.0 k rest a.1 b.1 (sym a.2 ∙ hx) (sym b.2 ∙ hy) (sym b.3 ∙ (is ∙ ap (λ z. z ++ k ∷ rest) a.3)) in let g = a.4 in omega arith)
        (λ (n : IsBorn j y). ⊎_elim
        (λ (t : (m.name ≡ a.0.name) × (m.splits ≡ k)). let there : i ≡ place = family.unique i place a.0 m a.1 at (sym a.2 ∙ hx) lives (sym t.0) in let up = a.5 there in let z = t.1 in omega arith)
        (λ (t : (r : List ℕ) × (m.name ≡ a.0.name ++ k ∷ r)). let l : k < a.0.splits = family.fresh i place a.0 m k t.0 a.1 at (sym a.2 ∙ hx) lives t.1 in let g = a.4 in omega arith)
        (push_split m.name a.0.name rest m.splits k (ap (λ z. z.name) n.1 ∙ (is ∙ ap (λ z. z ++ k ∷ rest) a.3))))
        (was_or_born j y ey))
        (λ (n : IsBorn i x). ⊎_elim
        (λ (b : Was j y). absurd (not_there j y (k ∷ rest) b hy (is ∙ (ap (λ z. z.name ++ k ∷ rest) (sym n.1) ∙ append_assoc m.name (m.splits ∷ []) (k ∷ rest)))))
        (λ (n' : IsBorn j y). absurd (let long = ap length (ap (λ z. z.name) n'.1 ∙ (is ∙ ap (λ z. z.name ++ k ∷ rest) (sym n.1))) in let l : length (child ++ k ∷ rest) ≡ length child + length (k ∷ rest) = length-append child (k ∷ rest) in let z : length child ≡ length (child ++ k ∷ rest) = long in omega arith))
        (was_or_born j y ey))
        (was_or_born i x ex);
    longer = λ i x name ex hx has. ⊎_elim
        (λ (a : Was i x). ⊎_elim
        (λ (h : Contains a.0.out name). let l : length a.0.name < length name = family.longer i a.0 name a.1 (sym a.2 ∙ hx) h in subst (λ z. length z < length name) (sym a.3) l)
        (λ (h : (name ≡ child) × (i ≡ place)). let one : a.0 ≡ m = at_one members i place a.0 m a.1 at h.1 in let e : length child ≡ length m.name + 1 = length-append m.name (m.splits ∷ []) in
        subst (λ (z : List ℕ × List ℕ). length z.0 < length z.1) (λ q. ((ap (λ z. z.name) (sym one) ∙ sym a.3) q, sym h.0 q)) (omega arith))
        (a.6 name has))
        (λ (b : IsBorn i x). absurd (contains_none name (subst (λ z. Contains z.out name) (sym b.1) has)))
        (was_or_born i x ex);
    parents = λ i x ex hx. ⊎_elim
        (λ (a : Was i x). ⊎_elim
        (λ (e : a.0.name ≡ []). inl (a.3 ∙ e))
        (λ (p : (j : ℕ) × (p : Member) × (get_elem? members j ≡ some p) × (p.lives ≡ true) × Contains p.out a.0.name). let q = stays p.0 p.1 p.2 in inr (p.0, q.0, q.1, q.2 ∙ p.3, subst (Contains q.0.out) (sym a.3) (q.3 a.0.name p.4)))
        (family.parents i a.0 a.1 (sym a.2 ∙ hx)))
        (λ (b : IsBorn i x). inr (place, parent, at_longer (set members place parent) (born ∷ []) place parent (at_put members place m parent at), lives, subst (λ z. Contains parent.out z.name) b.1 (Contains-push m.out child)))
        (was_or_born i x ex);
  }

-- The seat at `other`, which stands in the list of the seat at `place`, is joined into it.
module _ (members : List Member) (family : Family members) (place other : ℕ) (m n gone : Member) (at : get_elem? members place ≡ some m) (at_other : get_elem? members other ≡ some n) (differ : other ≢ place) (lives : m.lives ≡ true) (lives_too : n.lives ≡ true)
    (there : Contains m.out n.name) (dead : gone.lives ≡ false) where
  abbrev both : Member
  both = record m { out = without n.name m.out ++ n.out }

  abbrev left : List Member
  left = set (set members place both) other gone

  abbrev Stood : ℕ → Member → Type 0
  Stood i x = (o : Member) × (get_elem? members i ≡ some o) × (i ≢ other) × (x.lives ≡ o.lives) × (x.name ≡ o.name) × (x.splits ≡ o.splits)
      × ((name : List ℕ) → Contains x.out name → Contains o.out name ⊎ ((i ≡ place) × Contains n.out name))

  stood : (i : ℕ) (x : Member) → get_elem? left i ≡ some x → x.lives ≡ true → Stood i x
  stood i x e hx = ⊎_elim
      (λ (t : (i ≡ other) × (gone ≡ x)). let off : x.lives ≡ false = ap (λ z. z.lives) (sym t.1) ∙ dead in cc)
      (λ (t : (i ≢ other) × (get_elem? (set members place both) i ≡ some x)). ⊎_elim
      (λ (u : (i ≡ place) × (both ≡ x)). subst (Stood i) u.1 (
        m,
        ap (get_elem? members) u.0 ∙ at,
        t.0,
        refl,
        refl,
        refl,
        λ name h. ⊎_elim
            (λ (a : Contains (without n.name m.out) name). inl (contains_from_filter (λ o. not (pointwise ◌==◌ n.name o)) m.out name a))
            (λ (b : Contains n.out name). inr (u.0, b))
            (Contains-append_cases (without n.name m.out) n.out name h),
      ))
      (λ (u : (i ≢ place) × (get_elem? members i ≡ some x)). (x, u.1, t.0, refl, refl, refl, λ name h. inl h))
      (at_set members place i both x t.1))
      (at_set (set members place both) other i gone x e)

  both_at : get_elem? left place ≡ some both
  both_at = set_else (set members place both) other place gone (λ e. differ (sym e)) ∙ at_put members place m both at

  still_stands : (j : ℕ) (p : Member) → get_elem? members j ≡ some p → j ≢ other → (q : Member) × (get_elem? left j ≡ some q) × (q.lives ≡ p.lives) × ((name : List ℕ) → name ≢ n.name → Contains p.out name → Contains q.out name)
  still_stands j p e apart = dite (ℕ_discrete j place)
      (λ is. let one : p ≡ m = at_one members j place p m e at is in (
        both,
        ap (get_elem? left) is ∙ both_at,
        ap (λ z. z.lives) (sym one),
        λ name no h. Contains-append_left (without n.name m.out) n.out name (without_contains n.name name m.out no (subst (λ z. Contains z.out name) one h)),
      ))
      (λ not. (p, set_else (set members place both) other j gone apart ∙ (set_else members place j both not ∙ e), refl, λ name _ h. h))

  pub family-join : Family left
  family-join = record {
    unique = λ i j x y ex ey hx hy same. let a = stood i x ex hx in let b = stood j y ey hy in family.unique i j a.0 b.0 a.1 b.1 (sym a.3 ∙ hx) (sym b.3 ∙ hy) (sym a.4 ∙ (same ∙ b.4));
    fresh = λ i j x y k rest ex ey hx hy is. let a = stood i x ex hx in let b = stood j y ey hy in
        subst (λ z. k < z) (sym a.5) (family.fresh i j a.0 b.0 k rest a.1 b.1 (sym a.3 ∙ hx) (sym b.3 ∙ hy) (sym b.4 ∙ (is ∙ ap (λ z. z ++ k ∷ rest) a.4)));
    longer = λ i x name ex hx has. let a = stood i x ex hx in ⊎_elim
        (λ (h : Contains a.0.out name). let l : length a.0.name < length name = family.longer i a.0 name a.1 (sym a.3 ∙ hx) h in subst (λ z. length z < length name) (sym a.4) l)
        (λ (h : (i ≡ place) × Contains n.out name). let one : a.0 ≡ m = at_one members i place a.0 m a.1 at h.0 in let l : length n.name < length name = family.longer other n name at_other lives_too h.1 in let u : length m.name < length n.name = family.longer place m n.name at lives there in
        subst (λ z. length z < length name) (ap (λ z. z.name) (sym one) ∙ sym a.4) (omega arith))
        (a.6 name has);
    parents = λ i x ex hx. let a = stood i x ex hx in ⊎_elim
        (λ (e : a.0.name ≡ []). inl (a.4 ∙ e))
        (λ (p : (j : ℕ) × (p : Member) × (get_elem? members j ≡ some p) × (p.lives ≡ true) × Contains p.out a.0.name). inr (dite (ℕ_discrete p.0 other)
        (λ is. let one : p.1 ≡ n = at_one members p.0 other p.1 n p.2 at_other is in (place, both, both_at, lives, subst (Contains both.out) (sym a.4) (Contains-append_right (without n.name m.out) n.out a.0.name (subst (λ z. Contains z.out a.0.name) one p.4))))
        (λ not. let q = still_stands p.0 p.1 p.2 not in (p.0, q.0, q.1, q.2 ∙ p.3, subst (Contains q.0.out) (sym a.4) (q.3 a.0.name (λ e. a.2 (family.unique i other a.0 n a.1 at_other (sym a.3 ∙ hx) lives_too e)) p.4)))))
        (family.parents i a.0 a.1 (sym a.3 ∙ hx));
  }

-- Where the first seat's list is empty, no other seat lives: the others stand in lists, and go up to the first by ever shorter names.
module _ (members : List Member) (family : Family members) (place : ℕ) (m : Member) (at : get_elem? members place ≡ some m) (lives : m.lives ≡ true) (first : m.name ≡ []) (none_out : m.out ≡ []) where
  alone_below : (bound i : ℕ) (x : Member) → length x.name < bound → get_elem? members i ≡ some x → x.lives ≡ true → i ≡ place
  alone_below zero i x h e hx = absurd (omega arith)
  alone_below (suc bound) i x h e hx = ⊎_elim
      (λ (n : x.name ≡ []). family.unique i place x m e at hx lives (n ∙ sym first))
      (λ (p : (j : ℕ) × (p : Member) × (get_elem? members j ≡ some p) × (p.lives ≡ true) × Contains p.out x.name).
      let l : length p.1.name < length x.name = family.longer p.0 p.1 x.name p.2 p.3 p.4 in
      let there : p.0 ≡ place = alone_below bound p.0 p.1 (omega arith) p.2 p.3 in
      let one : p.1 ≡ m = at_one members p.0 place p.1 m p.2 at there in
      absurd (contains_none x.name (subst (λ z. Contains z x.name) (ap (λ z. z.out) one ∙ none_out) p.4)))
      (family.parents i x e hx)

  pub alone : (i : ℕ) (x : Member) → get_elem? members i ≡ some x → x.lives ≡ true → i ≡ place
  alone i x = alone_below (suc (length x.name)) i x (omega arith)

pub family-single : Family (record { lives = true; name = []; splits = 0; out = [] } ∷ [])
family-single = record {
  unique = λ i j m n ei ej _ _ _. (at_only _ i m ei).0 ∙ sym (at_only _ j n ej).0;
  fresh = λ i j m n k rest ei ej _ _ is. let a = (at_only _ i m ei).1 in let b = (at_only _ j n ej).1 in
      absurd (let z : length ([] ++ k ∷ rest) ≡ 0 = ap length (ap (λ z. z ++ k ∷ rest) (ap (λ z. z.name) a) ∙ (sym is ∙ ap (λ z. z.name) (sym b))) in omega arith);
  longer = λ i m name ei _ has. absurd (contains_none name (subst (λ z. Contains z.out name) (sym (at_only _ i m ei).1) has));
  parents = λ i m ei _. inl (ap (λ z. z.name) (sym (at_only _ i m ei).1));
}
