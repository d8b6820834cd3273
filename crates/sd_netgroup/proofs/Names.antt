-- Names put behind others, each where it is new.
use Rattle.std.proofs.Common.{◌≡◌, ℕ, zero, suc, ◌≤◌, Bool, true, false, cond, ◌||◌, List, [], ◌∷◌, ◌++◌, length, take, slice_get, Some, None, refl, sym, ap, ◌∙◌, subst, append_assoc, append-nil, inl, inr, ◌⊎◌, arith}
use Rattle.std.specs.List.{list_any}
use Rattle.std.specs.Cmp.Lexicographic.{bytes_decides}
use Rattle.sd_match.specs.Answering.{same_bytes}
use Rattle.sd_netgroup.specs.Paths.{In}
use Rattle.sd_netgroup.specs.Rounds.{with_name, with_names}
use Rattle.sd_nested.proofs.In.{in_left, in_right, in_either}

any_by : (b : Bool) (name n : List ℕ) (ns : List (List ℕ)) → same_bytes name n ≡ b → (b || list_any (same_bytes name) ns) ≡ true → (list_any (same_bytes name) ns ≡ true → In name ns) → In name (n ∷ ns)
any_by true name n ns e h f = inl (sym ((bytes_decides name n).0 e))
any_by false name n ns e h f = inr (f h)

any_is : (name : List ℕ) (names : List (List ℕ)) → list_any (same_bytes name) names ≡ true → In name names
any_is name [] h = absurd (let e : false ≡ true = h in cc)
any_is name (n ∷ ns) h = any_by (same_bytes name n) name n ns refl h (any_is name ns)

-- the names that were there stay in front
pub record Grows (names grown : List (List ℕ)) : Type 0 where
  pub more : List (List ℕ)
  pub are : grown ≡ names ++ more

name_grows : (names : List (List ℕ)) (name : List ℕ) → Grows names (with_name names name)
name_grows names name = by (list_any (same_bytes name) names)
  where
    by : (b : Bool) → Grows names (cond b names (names ++ name ∷ []))
    by true = record { more = []; are = sym (append-nil names) }
    by false = record { more = name ∷ []; are = refl }

pub grows_more : (a b c : List (List ℕ)) → Grows a b → Grows b c → Grows a c
grows_more a b c g h = record { more = g.more ++ h.more; are = h.are ∙ (ap (λ (xs : List (List ℕ)). xs ++ h.more) g.are ∙ append_assoc a g.more h.more) }

pub names_grow : (names more : List (List ℕ)) → Grows names (with_names names more)
names_grow names [] = record { more = []; are = sym (append-nil names) }
names_grow names (n ∷ ns) = grows_more names (with_name names n) (with_names (with_name names n) ns) (name_grows names n) (names_grow (with_name names n) ns)

pub still_in : (x : List ℕ) (names grown : List (List ℕ)) → Grows names grown → In x names → In x grown
still_in x names grown g h = subst (λ (xs : List (List ℕ)). In x xs) (sym g.are) (in_left x names g.more h)

name_in : (names : List (List ℕ)) (name : List ℕ) → In name (with_name names name)
name_in names name = by (list_any (same_bytes name) names) refl
  where
    by : (b : Bool) → list_any (same_bytes name) names ≡ b → In name (cond b names (names ++ name ∷ []))
    by true e = any_is name names e
    by false e = in_right name names (name ∷ []) (inl refl)

-- the names that are put are there
pub put_in : (x : List ℕ) (names more : List (List ℕ)) → In x more → In x (with_names names more)
put_in x names [] h = absurd h
put_in x names (n ∷ ns) (inl e) = still_in x (with_name names n) (with_names (with_name names n) ns) (names_grow (with_name names n) ns) (subst (λ (m : List ℕ). In m (with_name names n)) e (name_in names n))
put_in x names (n ∷ ns) (inr h) = put_in x (with_name names n) ns h

only : (x name : List ℕ) → In x (name ∷ []) → name ≡ x
only x name (inl e) = e
only x name (inr h) = absurd h

name_from : (x : List ℕ) (names : List (List ℕ)) (name : List ℕ) → In x (with_name names name) → In x names ⊎ (name ≡ x)
name_from x names name h = by (list_any (same_bytes name) names) h
  where
    new : In x names ⊎ In x (name ∷ []) → In x names ⊎ (name ≡ x)
    new (inl k) = inl k
    new (inr k) = inr (only x name k)

    by : (b : Bool) → In x (cond b names (names ++ name ∷ [])) → In x names ⊎ (name ≡ x)
    by true k = inl k
    by false k = new (in_either x names (name ∷ []) k)

-- no others are
pub names_from : (x : List ℕ) (names more : List (List ℕ)) → In x (with_names names more) → In x names ⊎ In x more
names_from x names [] h = inl h
names_from x names (n ∷ ns) h = first (names_from x (with_name names n) ns h)
  where
    either : In x names ⊎ (n ≡ x) → In x names ⊎ In x (n ∷ ns)
    either (inl k) = inl k
    either (inr e) = inr (inl e)

    first : In x (with_name names n) ⊎ In x ns → In x names ⊎ In x (n ∷ ns)
    first (inl k) = either (name_from x names n k)
    first (inr k) = inr (inr k)

-- ---- the first names

pub got_in : (names : List (List ℕ)) (place : ℕ) (name : List ℕ) → slice_get names place ≡ Some name → In name names
got_in [] place name h = absurd (let e : None ≡ Some name = h in cc)
got_in (n ∷ ns) zero name h = inl (let e : Some n ≡ Some name = h in cc)
got_in (n ∷ ns) (suc place) name h = inr (got_in ns place name h)

-- the first names are those before a place, and the one there
pub taken : (x : List ℕ) (names more : List (List ℕ)) (place : ℕ) (name : List ℕ) → slice_get names place ≡ Some name → In x (take (suc place) (names ++ more)) → In x (take place names) ⊎ (name ≡ x)
taken x [] more place name h k = absurd (let e : None ≡ Some name = h in cc)
taken x (n ∷ ns) more zero name h (inl e) = inr (let f : Some n ≡ Some name = h in let g : n ≡ name = cc in sym g ∙ e)
taken x (n ∷ ns) more zero name h (inr k) = absurd k
taken x (n ∷ ns) more (suc place) name h (inl e) = inl (inl e)
taken x (n ∷ ns) more (suc place) name h (inr k) = rest (taken x ns more place name h k)
  where
    rest : In x (take place ns) ⊎ (name ≡ x) → In x (n ∷ take place ns) ⊎ (name ≡ x)
    rest (inl k) = inl (inr k)
    rest (inr e) = inr e

-- where no name is at a place, the first names are all
pub taken_all : (x : List ℕ) (names : List (List ℕ)) (place : ℕ) → slice_get names place ≡ None → In x (take (suc place) names) → In x (take place names)
taken_all x [] place h k = absurd k
taken_all x (n ∷ ns) zero h k = absurd (let e : Some n ≡ None = h in cc)
taken_all x (n ∷ ns) (suc place) h (inl e) = inl e
taken_all x (n ∷ ns) (suc place) h (inr k) = inr (taken_all x ns place h k)

pub all_taken : (x : List ℕ) (names : List (List ℕ)) (n : ℕ) → length names ≤ n → In x names → In x (take n names)
all_taken x [] n le h = absurd h
all_taken x (m ∷ ms) zero le h = absurd (omega arith)
all_taken x (m ∷ ms) (suc n) le (inl e) = inl e
all_taken x (m ∷ ms) (suc n) le (inr h) = inr (all_taken x ms n (omega arith) h)
