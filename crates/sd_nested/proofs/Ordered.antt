-- Sorted names, each kept once, are in order, and so are groups that were joined by name; each list in order is one.
use Rattle.std.proofs.Common.{◌≡◌, ℕ, zero, suc, ◌+◌, ◌<◌, ◌≤◌, Bool, true, false, List, [], ◌∷◌, map, length, get_or, Option, Some, None, refl, sym, ap, ◌∙◌, subst, cond, inl, inr, arith}
use Rattle.std.proofs.Common.{Less}
use Rattle.std.specs.Bool.{MatchBool}
use Rattle.std.specs.Cmp.{IsStrictWeakOrder}
use Rattle.std.specs.Cmp.Lexicographic.{slice_cmp}
use Rattle.std.specs.List.{All, AllByRecursion, Contains, dedup, dedup_from}
use Rattle.std.specs.List.Retain.{DedupsFrom, IsDeduped}
use Rattle.std.specs.List.Sorted.{IsPermutation, IsSorted, IsSortedBy, IsStrictlySortedBy}
use Rattle.std.specs.Ordering.{nat_cmp, is_lt, is_eq, eq_by_cmp}
use Rattle.std.proofs.lemmas.Bool.Decides.{nat_tests}
use Rattle.std.proofs.lemmas.Cmp.{same_from_slice_cmp, nat_list_cmp_total, nat_list_eq_equiv}
use Rattle.std.proofs.lemmas.List.Elements.{All-nil, All-cons, All-head, All-tail}
use Rattle.std.proofs.lemmas.List.Kept.{IsStrictlySortedBy-dedup, Contains-dedup, Contains-from_dedup}
use Rattle.std.proofs.lemmas.List.{length-map}
use Rattle.std.proofs.lemmas.List.Sorted.{IsPermutation-map, IsPermutation-sym, Contains-permutation, ranks_by, sorted_far}
use Rattle.sd_rules.specs.Keys.{same_name}
use Rattle.sd_rules.specs.declared.records.GroupRef.{GroupRef}
use Rattle.sd_nested.specs.Order.{is_before, AllAfter, Ascends, AreInOrder, in_order, lesser, with_lesser, least_gid, names_of, ref_among, refs_in_order, AreRefsInOrder}
use Rattle.sd_nested.proofs.In.{In}
use Rattle.sd_nested.proofs.Ascending.{same_is, not_before_self, turned, ascends, in_order_in, in_order_from, one_list, lesser_assoc, same_least}

-- ---- the byte order, as it is computed

before_is : (a b : List ℕ) → is_lt (slice_cmp nat_cmp a b) ≡ is_before a b
before_is a b =
    same_from_slice_cmp nat_cmp is_lt is_before refl (λ _ _. refl) (λ _ _. refl) (λ x y xs ys o h. grind (arith, nat_tests)) a b (slice_cmp nat_cmp a b) refl

same_by_cmp : (a b : List ℕ) → same_name a b ≡ eq_by_cmp (slice_cmp nat_cmp) a b
same_by_cmp a b =
    sym (same_from_slice_cmp nat_cmp is_eq same_name refl (λ _ _. refl) (λ _ _. refl) (λ x y xs ys o h. grind (arith, nat_tests)) a b (slice_cmp nat_cmp a b) refl)

all_after : (name : List ℕ) (names : List (List ℕ)) → AllByRecursion (λ other. slice_cmp nat_cmp name other ≡ Less) names → AllAfter name names
all_after name [] h = tt
all_after name (other ∷ others) h = (sym (before_is name other) ∙ ap is_lt h.0, all_after name others h.1)

ascending : (names : List (List ℕ)) → IsStrictlySortedBy (slice_cmp nat_cmp) names → Ascends names
unfolding IsStrictlySortedBy
ascending [] h = tt
ascending (name ∷ names) h = (all_after name names h.0, ascending names h.1)

-- the order of the names of things
pub ranks : {X : Type 0} (name : X → List ℕ) → IsStrictWeakOrder (λ x y. is_lt (slice_cmp nat_cmp (name x) (name y)))
ranks name = ranks_by nat_list_cmp_total name

-- ---- things in lists

in_contains : {X : Type 0} (x : X) (xs : List X) → In x xs → Contains xs x
in_contains x [] h = absurd h
in_contains x (y ∷ ys) (inl e) = (0, omega arith, e)
in_contains x (y ∷ ys) (inr h) = let c = in_contains x ys h in (suc c.0, omega (arith, c.1), c.2)

in_at : {X : Type 0} (x : X) (xs : List X) (k : ℕ) → k < length xs → get_or xs k x ≡ x → In x xs
in_at x [] k lt e = absurd (omega (arith, lt))
in_at x (y ∷ ys) zero lt e = inl e
in_at x (y ∷ ys) (suc k) lt e = inr (in_at x ys k (omega (arith, lt)) e)

contains_in : {X : Type 0} (x : X) (xs : List X) → Contains xs x → In x xs
contains_in x xs c = in_at x xs c.0 c.1 c.2

all_in : {X : Type 0} (P : X → Type 0) (xs : List X) → ((x : X) → In x xs → P x) → All P xs
all_in P [] h = All-nil P
all_in P (x ∷ xs) h = All-cons P x xs (h x (inl refl)) (all_in P xs (λ y g. h y (inr g)))

in_moved : {X : Type 0} (xs ys : List X) → IsPermutation xs ys → (x : X) → In x xs → In x ys
in_moved xs ys moved x h = contains_in x ys (Contains-permutation xs ys x moved (in_contains x xs h))

-- ---- names in order

-- sorted, and each kept once
pub sorted_once : (names sorted once : List (List ℕ)) → IsPermutation names sorted → IsSorted (slice_cmp nat_cmp) sorted → once ≡ dedup same_name sorted → AreInOrder names once
sorted_once names sorted once moved up is = subst (λ (xs : List (List ℕ)). AreInOrder names xs) (sym is) kept
  where
    kept : AreInOrder names (dedup same_name sorted)
    kept = record {
      rise = ascending (dedup same_name sorted) (IsStrictlySortedBy-dedup nat_list_cmp_total same_by_cmp sorted up);
      same = λ name. (
        λ h. Contains-permutation sorted names name (IsPermutation-sym names sorted moved) (Contains-from_dedup same_name sorted name h),
        λ h. Contains-dedup nat_list_eq_equiv same_is sorted name (Contains-permutation names sorted name moved h),
      );
    }

-- two lists in order of the same names are one
pub only_one : (names xs ys : List (List ℕ)) → AreInOrder names xs → AreInOrder names ys → xs ≡ ys
only_one names xs ys a b =
    one_list xs ys a.rise b.rise
    (λ name h. contains_in name ys ((b.same name).1 ((a.same name).0 (in_contains name xs h))))
    (λ name h. contains_in name xs ((a.same name).1 ((b.same name).0 (in_contains name ys h))))

-- the list by insertion is in order
pub inserted : (names : List (List ℕ)) → AreInOrder names (in_order names)
inserted names = record {
  rise = ascends names;
  same = λ name. (
    λ h. in_contains name names (in_order_from name names (contains_in name (in_order names) h)),
    λ h. in_contains name (in_order names) (in_order_in name names (contains_in name names h)),
  );
}

pub is_inserted : (names xs : List (List ℕ)) → AreInOrder names xs → xs ≡ in_order names
is_inserted names xs a = only_one names xs (in_order names) a (inserted names)

-- ---- groups in order

by_least : (refs made : List GroupRef) → All (λ (r : GroupRef). r.gid ≡ least_gid r.name refs) made → made ≡ map (ref_among refs) (names_of made)
by_least refs [] h = refl
by_least refs (r ∷ rs) h =
    let own : r.gid ≡ least_gid r.name refs = All-head (λ (x : GroupRef). x.gid ≡ least_gid x.name refs) r rs h in
    let rest : rs ≡ map (ref_among refs) (names_of rs) = by_least refs rs (All-tail (λ (x : GroupRef). x.gid ≡ least_gid x.name refs) r rs h) in
    ap (λ (gid : Option ℕ). record { name = r.name; gid = gid } ∷ rs) own ∙ ap (λ (xs : List GroupRef). ref_among refs r.name ∷ xs) rest

-- groups in order are one list, that by insertion
pub are_inserted : (refs made : List GroupRef) → AreRefsInOrder refs made → made ≡ refs_in_order refs
are_inserted refs made a = by_least refs made a.least ∙ ap (λ (names : List (List ℕ)). map (ref_among refs) names) (is_inserted (names_of refs) (names_of made) a.names)

-- ---- groups that are joined by name

-- a group, and those behind it, where neighbours of a name are joined
abbrev pub merged : GroupRef → List GroupRef → List GroupRef
merged r [] = r ∷ []
merged r (x ∷ xs) = cond (same_name x.name r.name) (merged (with_lesser r x) xs) (r ∷ merged x xs)

abbrev pub merged_all : List GroupRef → List GroupRef
merged_all [] = []
merged_all (r ∷ rs) = merged r rs

module _ {S : Type 0} (R : S → GroupRef → GroupRef → Bool → S → GroupRef → GroupRef → Type 0)
    (joins : (s : S) (x r : GroupRef) (b : Bool) (t : S) (y q : GroupRef) → R s x r b t y q → (b ≡ same_name x.name r.name) × (y ≡ x) × (q ≡ cond b (with_lesser r x) r)) where
  merge_step : (b same : Bool) (t : S) (r q x y : GroupRef) (xs ys : List GroupRef) → b ≡ same → y ≡ x → q ≡ cond b (with_lesser r x) r
      → ((s : S) (p : GroupRef) (zs : List GroupRef) → DedupsFrom R s p xs zs → zs ≡ merged p xs)
      → MatchBool b (DedupsFrom R t q xs ys) ((zs : List GroupRef) × DedupsFrom R t y xs zs × (ys ≡ q ∷ zs))
      → ys ≡ cond same (merged (with_lesser r x) xs) (r ∷ merged x xs)
  merge_step true true t r q x y xs ys e f g k d = k t q ys d ∙ ap (λ (p : GroupRef). merged p xs) g
  merge_step false false t r q x y xs ys e f g k d =
      d.2 ∙ ap (λ (p : GroupRef). p ∷ d.0) g ∙ ap (λ (zs : List GroupRef). r ∷ zs) (k t y d.0 d.1 ∙ ap (λ (p : GroupRef). merged p xs) f)
  merge_step true false t r q x y xs ys e f g k d = cc
  merge_step false true t r q x y xs ys e f g k d = cc

  merged_from : (xs : List GroupRef) (s : S) (r : GroupRef) (ys : List GroupRef) → DedupsFrom R s r xs ys → ys ≡ merged r xs
  merged_from [] s r ys d = d
  merged_from (x ∷ xs) s r ys d =
      let j = joins s x r d.0 d.1 d.2 d.3 d.4 in
      merge_step d.0 (same_name x.name r.name) d.1 r d.3 x d.2 xs ys j.0 j.1 j.2 (λ t p zs h. merged_from xs t p zs h) d.5

  pub are_merged : (s : S) (xs ys : List GroupRef) → IsDeduped R s xs ys → ys ≡ merged_all xs
  are_merged s [] ys d = d.told
  are_merged s (x ∷ xs) ys d = merged_from xs s x ys d.told

names_by : (b : Bool) (r x : GroupRef) (xs : List GroupRef) → names_of (merged (with_lesser r x) xs) ≡ dedup_from same_name r.name (names_of xs) → names_of (merged x xs) ≡ dedup_from same_name x.name (names_of xs)
    → names_of (cond b (merged (with_lesser r x) xs) (r ∷ merged x xs)) ≡ cond b (dedup_from same_name r.name (names_of xs)) (r.name ∷ dedup_from same_name x.name (names_of xs))
names_by true r x xs h g = h
names_by false r x xs h g = ap (λ (names : List (List ℕ)). r.name ∷ names) g

names_merged : (r : GroupRef) (xs : List GroupRef) → names_of (merged r xs) ≡ dedup_from same_name r.name (names_of xs)
names_merged r [] = refl
names_merged r (x ∷ xs) = names_by (same_name x.name r.name) r x xs (names_merged (with_lesser r x) xs) (names_merged x xs)

all_names_merged : (xs : List GroupRef) → names_of (merged_all xs) ≡ dedup same_name (names_of xs)
all_names_merged [] = refl
all_names_merged (x ∷ xs) = names_merged x xs

-- ---- the least numbers of groups that are joined

-- none of these has a name before it
abbrev NoneBefore : List ℕ → List GroupRef → Type 0
NoneBefore name [] = Unit {0}
NoneBefore name (x ∷ xs) = (is_before x.name name ≡ false) × NoneBefore name xs

abbrev Climbs : List GroupRef → Type 0
Climbs [] = Unit {0}
Climbs (x ∷ xs) = NoneBefore x.name xs × Climbs xs

none_before : (name : List ℕ) (xs : List GroupRef) → ((k : ℕ) (d : GroupRef) → k < length xs → is_before (get_or xs k d).name name ≡ false) → NoneBefore name xs
none_before name [] h = tt
none_before name (x ∷ xs) h = (h 0 x (omega arith), none_before name xs (λ k d lt. h (suc k) d (omega (arith, lt))))

climbs_by : (xs : List GroupRef) → ((i j : ℕ) (d : GroupRef) → i ≤ j → j < length xs → is_before (get_or xs j d).name (get_or xs i d).name ≡ false) → Climbs xs
climbs_by [] h = tt
climbs_by (x ∷ xs) h = (
  none_before x.name xs (λ k d lt. h 0 (suc k) d (omega arith) (omega (arith, lt))),
  climbs_by xs (λ i j d le lt. h (suc i) (suc j) d (omega (arith, le)) (omega (arith, lt))),
)

climbs : (xs : List GroupRef) → IsSortedBy (λ (a b : GroupRef). is_lt (slice_cmp nat_cmp a.name b.name)) xs → Climbs xs
climbs xs up =
    climbs_by xs
    (λ i j d le lt.
    sym (before_is (get_or xs j d).name (get_or xs i d).name)
    ∙ sorted_far (λ (a b : GroupRef). is_lt (slice_cmp nat_cmp a.name b.name)) (ranks (λ (r : GroupRef). r.name)) xs up i j d le lt)

-- what is joined has no name before one that none had before it
still_none : (b : Bool) (name : List ℕ) (r x : GroupRef) (xs : List GroupRef) (g : GroupRef) → is_before r.name name ≡ false → is_before x.name name ≡ false → In g (cond b (merged (with_lesser r x) xs) (r ∷ merged x xs))
    → (In g (merged (with_lesser r x) xs) → is_before g.name name ≡ false) → (In g (merged x xs) → is_before g.name name ≡ false) → is_before g.name name ≡ false
still_none true name r x xs g h i m f k = f m
still_none false name r x xs g h i (inl e) f k = subst (λ (y : GroupRef). is_before y.name name ≡ false) e h
still_none false name r x xs g h i (inr m) f k = k m

merged_none : (name : List ℕ) (r : GroupRef) (xs : List GroupRef) → is_before r.name name ≡ false → NoneBefore name xs → (g : GroupRef) → In g (merged r xs) → is_before g.name name ≡ false
merged_none name r [] h n g (inl e) = subst (λ (y : GroupRef). is_before y.name name ≡ false) e h
merged_none name r [] h n g (inr m) = absurd m
merged_none name r (x ∷ xs) h n g m = still_none (same_name x.name r.name) name r x xs g h n.0 m (λ k. merged_none name (with_lesser r x) xs h n.1 g k) (λ k. merged_none name x xs n.0 n.1 g k)

-- a name before another differs from what is not before that
apart : (b : Bool) (name other next : List ℕ) → same_name name next ≡ b → is_before name other ≡ true → is_before next other ≡ false → b ≡ false
apart true name other next s h n =
    let e : name ≡ next = same_is name next s in
    let f : is_before next other ≡ true = ap (λ (m : List ℕ). is_before m other) (sym e) ∙ h in
    cc
apart false name other next s h n = refl

no_least : (name other : List ℕ) (xs : List GroupRef) → is_before name other ≡ true → NoneBefore other xs → least_gid name xs ≡ None
no_least name other [] h n = refl
no_least name other (x ∷ xs) h n = passed (same_name x.name name) x (turned_round name x.name (apart (same_name name x.name) name other x.name refl h n.0)) (no_least name other xs h n.1)
  where
    turned_round : (a b : List ℕ) → same_name a b ≡ false → same_name b a ≡ false
    turned_round a b h = sym (nat_list_eq_equiv.symm a b) ∙ h

    passed : (b : Bool) (x : GroupRef) → b ≡ false → least_gid name xs ≡ None → cond b (lesser x.gid (least_gid name xs)) (least_gid name xs) ≡ None
    passed true x e k = cc
    passed false x e k = k

-- the least of a name, where a group of the name is the first
own_least : (r : GroupRef) (xs : List GroupRef) → least_gid r.name (r ∷ xs) ≡ lesser r.gid (least_gid r.name xs)
own_least r xs = rw (nat_list_eq_equiv.refl r.name) refl

alone_least : (r : GroupRef) (xs : List GroupRef) → least_gid r.name xs ≡ None → r.gid ≡ least_gid r.name (r ∷ xs)
alone_least r xs h = sym (own_least r xs ∙ ap (lesser r.gid) h ∙ lesser_none r.gid)
  where
    lesser_none : (a : Option ℕ) → lesser a None ≡ a
    lesser_none None = refl
    lesser_none (Some a) = refl

-- a joined group counts as both
joined_by : (b : Bool) (a c least : Option ℕ) → cond b (lesser (lesser a c) least) least ≡ cond b (lesser a (cond b (lesser c least) least)) (cond b (lesser c least) least)
joined_by true a c least = lesser_assoc a c least
joined_by false a c least = refl

joined_least : (name : List ℕ) (r x : GroupRef) (xs : List GroupRef) → x.name ≡ r.name → least_gid name (with_lesser r x ∷ xs) ≡ least_gid name (r ∷ x ∷ xs)
joined_least name r x xs e =
    joined_by (same_name r.name name) r.gid x.gid (least_gid name xs)
    ∙ ap (λ (m : List ℕ). cond (same_name r.name name) (lesser r.gid (cond (same_name m name) (lesser x.gid (least_gid name xs)) (least_gid name xs))) (cond (same_name m name) (lesser x.gid (least_gid name xs)) (least_gid name xs))) (sym e)

other_least : (name : List ℕ) (r : GroupRef) (xs : List GroupRef) → same_name r.name name ≡ false → least_gid name xs ≡ least_gid name (r ∷ xs)
other_least name r xs h = rw h refl

least_by : (b : Bool) (r x : GroupRef) (xs : List GroupRef) (g : GroupRef) → same_name x.name r.name ≡ b → is_before x.name r.name ≡ false → NoneBefore x.name xs
    → In g (cond b (merged (with_lesser r x) xs) (r ∷ merged x xs))
    → (In g (merged (with_lesser r x) xs) → g.gid ≡ least_gid g.name (with_lesser r x ∷ xs)) → (In g (merged x xs) → g.gid ≡ least_gid g.name (x ∷ xs))
    → g.gid ≡ least_gid g.name (r ∷ x ∷ xs)
least_by true r x xs g s h n m f k = f m ∙ joined_least g.name r x xs (same_is x.name r.name s)
least_by false r x xs g s h n (inl e) f k =
    subst (λ (y : GroupRef). y.gid ≡ least_gid y.name (r ∷ x ∷ xs)) e
    (alone_least r (x ∷ xs) (no_least r.name x.name (x ∷ xs) (turned x.name r.name s h) (not_before_self x.name, n)))
least_by false r x xs g s h n (inr m) f k =
    k m
    ∙ other_least g.name r (x ∷ xs)
    (apart (same_name r.name g.name) r.name x.name g.name refl (turned x.name r.name s h) (merged_none x.name x xs (not_before_self x.name) n g m))

least_in : (r : GroupRef) (xs : List GroupRef) → NoneBefore r.name xs → Climbs xs → (g : GroupRef) → In g (merged r xs) → g.gid ≡ least_gid g.name (r ∷ xs)
least_in r [] n c g (inl e) = subst (λ (y : GroupRef). y.gid ≡ least_gid y.name (r ∷ [])) e (alone_least r [] refl)
least_in r [] n c g (inr m) = absurd m
least_in r (x ∷ xs) n c g m =
    least_by (same_name x.name r.name) r x xs g refl n.0 c.0 m (λ k. least_in (with_lesser r x) xs n.1 c.1 g k) (λ k. least_in x xs c.0 c.1 g k)

all_least : (xs : List GroupRef) → Climbs xs → (g : GroupRef) → In g (merged_all xs) → g.gid ≡ least_gid g.name xs
all_least [] c g m = absurd m
all_least (x ∷ xs) c g m = least_in x xs c.0 c.1 g m

name_at : (xs : List GroupRef) (k : ℕ) (d : GroupRef) → get_or (names_of xs) k d.name ≡ (get_or xs k d).name
name_at [] k d = refl
name_at (x ∷ xs) zero d = refl
name_at (x ∷ xs) (suc k) d = name_at xs k d

names_up : (xs : List GroupRef) → IsSorted (λ (a b : GroupRef). slice_cmp nat_cmp a.name b.name) xs → IsSorted (slice_cmp nat_cmp) (names_of xs)
names_up xs up k d low lt =
    let r : GroupRef = record { name = d; gid = None } in
    ap (λ (name : List ℕ). is_lt (slice_cmp nat_cmp name (get_or (names_of xs) k d))) (name_at xs (k + 1) r)
    ∙ (ap (λ (name : List ℕ). is_lt (slice_cmp nat_cmp (get_or xs (k + 1) r).name name)) (name_at xs k r)
    ∙ up k r low (subst (λ (n : ℕ). k + 1 < n) (length-map xs (λ (x : GroupRef). x.name)) lt))

-- sorted by name, and joined
pub sorted_joined : (refs sorted made : List GroupRef) → IsPermutation refs sorted → IsSorted (λ (a b : GroupRef). slice_cmp nat_cmp a.name b.name) sorted → made ≡ merged_all sorted → AreRefsInOrder refs made
sorted_joined refs sorted made moved up is = subst (λ (xs : List GroupRef). AreRefsInOrder refs xs) (sym is) all
  where
    least : (g : GroupRef) → In g (merged_all sorted) → g.gid ≡ least_gid g.name refs
    least g h =
        all_least sorted (climbs sorted up) g h
        ∙ same_least g.name sorted refs (in_moved sorted refs (IsPermutation-sym refs sorted moved)) (in_moved refs sorted moved)

    all : AreRefsInOrder refs (merged_all sorted)
    all = record {
      names = sorted_once (names_of refs) (names_of sorted) (names_of (merged_all sorted)) (IsPermutation-map (λ (r : GroupRef). r.name) refs sorted moved) (names_up sorted up) (all_names_merged sorted);
      least = all_in (λ (r : GroupRef). r.gid ≡ least_gid r.name refs) (merged_all sorted) least;
    }
