-- Names in order depend on which names there are, and not on their order or number.
use Rattle.std.proofs.Common.{◌≡◌, ℕ, ◌<◌, Bool, true, false, ◌&&◌, ◌||◌, ◌==◌, List, [], ◌∷◌, ◌++◌, map, min, Option, Some, None, refl, sym, ap, ◌∙◌, subst, cond, inl, inr, ◌⊎◌, arith}
use Rattle.std.proofs.lemmas.Bool.{eqb-true, eq-eqb, ltb-true, lt-ltb, and_parts, cases_lt}
use Rattle.std.proofs.lemmas.List.{map-append}
use Rattle.std.specs.Prelude.{nat_lt, codes}
use Rattle.std.specs.List.{flat_map}
use Rattle.sd_rules.specs.Keys.{same_name}
use Rattle.sd_rules.specs.declared.records.GroupRef.{GroupRef}
use Rattle.sd_ldap.specs.declared.entry.DirEntry.{DirEntry}
use Rattle.sd_entry.specs.Values.{first_of}
use Rattle.sd_entry.specs.Users.{is_user}
use Rattle.sd_nested.specs.Named.{listed, called, user_name, user_names}
use Rattle.sd_nested.specs.Directions.{user_ref}
use Rattle.sd_nested.specs.Order.{is_before, AllAfter, Ascends, with_name, in_order, lesser, least_gid, names_of, ref_among, refs_in_order}
use Rattle.sd_nested.proofs.In.{In}

-- ---- the byte order

pub same_is : (a b : List ℕ) → same_name a b ≡ true → a ≡ b
same_is [] [] h = refl
same_is [] (y ∷ ys) h = cc
same_is (x ∷ xs) [] h = cc
same_is (x ∷ xs) (y ∷ ys) h =
    let p = and_parts (x == y) (same_name xs ys) h in
    let e : x ≡ y = eqb-true x y p.0 in
    let f : xs ≡ ys = same_is xs ys p.1 in
    cc

pub not_before_self : (a : List ℕ) → is_before a a ≡ false
not_before_self [] = refl
not_before_self (x ∷ xs) = self_by (nat_lt x x) (x == x) (is_before xs xs) (ltb_self x) (not_before_self xs)
  where
    ltb_self : (n : ℕ) → nat_lt n n ≡ false
    ltb_self n = grind arith

    self_by : (a b c : Bool) → a ≡ false → c ≡ false → (a || (b && c)) ≡ false
    self_by true b c h g = cc
    self_by false true c h g = g
    self_by false false c h g = refl

-- of two heads that decide, or are equal with tails that do
either_way : (lt eq rest : Bool) → (lt || (eq && rest)) ≡ true → (lt ≡ true) ⊎ ((eq ≡ true) × (rest ≡ true))
either_way true eq rest h = inl refl
either_way false true rest h = inr (refl, h)
either_way false false rest h = cc

by_head : (x y : ℕ) (rest : Bool) → x < y → (nat_lt x y || (x == y && rest)) ≡ true
by_head x y rest h = ap (λ (b : Bool). b || (x == y && rest)) (lt-ltb x y h)

by_tail : (x y : ℕ) (rest : Bool) → x ≡ y → rest ≡ true → (nat_lt x y || (x == y && rest)) ≡ true
by_tail x y rest e h = tail_by (nat_lt x y) (x == y) rest (eq-eqb x y e) h
  where
    tail_by : (a b c : Bool) → b ≡ true → c ≡ true → (a || (b && c)) ≡ true
    tail_by true b c h g = refl
    tail_by false true c h g = g
    tail_by false false c h g = cc

chain_by : (x y z : ℕ) (r s t : Bool) → (nat_lt x y ≡ true) ⊎ (((x == y) ≡ true) × (r ≡ true)) → (nat_lt y z ≡ true) ⊎ (((y == z) ≡ true) × (s ≡ true)) → (r ≡ true → s ≡ true → t ≡ true) → (nat_lt x z || (x == z && t)) ≡ true
chain_by x y z r s t (inl h) (inl g) f = by_head x z t (below x y z (ltb-true x y h) (ltb-true y z g))
  where
    below : (x y z : ℕ) → x < y → y < z → x < z
    below x y z h g = omega arith
chain_by x y z r s t (inl h) (inr g) f = by_head x z t (subst (λ (n : ℕ). x < n) (eqb-true y z g.0) (ltb-true x y h))
chain_by x y z r s t (inr h) (inl g) f = by_head x z t (subst (λ (n : ℕ). n < z) (sym (eqb-true x y h.0)) (ltb-true y z g))
chain_by x y z r s t (inr h) (inr g) f = by_tail x z t (eqb-true x y h.0 ∙ eqb-true y z g.0) (f h.1 g.1)

chain : (a b c : List ℕ) → is_before a b ≡ true → is_before b c ≡ true → is_before a c ≡ true
chain [] [] c h g = cc
chain [] (y ∷ ys) [] h g = cc
chain [] (y ∷ ys) (z ∷ zs) h g = refl
chain (x ∷ xs) [] c h g = cc
chain (x ∷ xs) (y ∷ ys) [] h g = cc
chain (x ∷ xs) (y ∷ ys) (z ∷ zs) h g =
    chain_by x y z (is_before xs ys) (is_before ys zs) (is_before xs zs) (either_way (nat_lt x y) (x == y) (is_before xs ys) h) (either_way (nat_lt y z) (y == z) (is_before ys zs) g) (chain xs ys zs)

heads : (x y : ℕ) → (x < y) ⊎ ((x ≡ y) ⊎ (y < x))
heads x y = elim (cases_lt x y) [ inl less ↦ inl less | inr more ↦ elim (cases_lt y x) [ inl less ↦ inr (inr less) | inr same ↦ inr (inl (omega arith)) ] ]

turned_by : (x y : ℕ) (same fore back : Bool) → (x < y) ⊎ ((x ≡ y) ⊎ (y < x)) → (x == y && same) ≡ false → (nat_lt x y || (x == y && fore)) ≡ false → (same ≡ false → fore ≡ false → back ≡ true) → (nat_lt y x || (y == x && back)) ≡ true
turned_by x y same fore back (inl less) h g f = let e = by_head x y fore less in cc
turned_by x y same fore back (inr (inr more)) h g f = by_head y x back more
turned_by x y same fore back (inr (inl e)) h g f = by_tail y x back (sym e) (f (part (x == y) same (eq-eqb x y e) h) (other (nat_lt x y) (x == y) fore (eq-eqb x y e) g))
  where
    part : (b s : Bool) → b ≡ true → (b && s) ≡ false → s ≡ false
    part true s e h = h
    part false s e h = cc

    other : (a b r : Bool) → b ≡ true → (a || (b && r)) ≡ false → r ≡ false
    other true b r e h = cc
    other false true r e h = h
    other false false r e h = cc

pub turned : (a b : List ℕ) → same_name a b ≡ false → is_before a b ≡ false → is_before b a ≡ true
turned [] [] h g = cc
turned [] (y ∷ ys) h g = cc
turned (x ∷ xs) [] h g = refl
turned (x ∷ xs) (y ∷ ys) h g = turned_by x y (same_name xs ys) (is_before xs ys) (is_before ys xs) (heads x y) h g (turned xs ys)

-- ---- ascending lists

after_in : (x n : List ℕ) (ys : List (List ℕ)) → AllAfter x ys → In n ys → is_before x n ≡ true
after_in x n [] a h = absurd h
after_in x n (y ∷ ys) a (inl e) = subst (λ (m : List ℕ). is_before x m ≡ true) e a.0
after_in x n (y ∷ ys) a (inr h) = after_in x n ys a.1 h

after_before : (x y : List ℕ) (ys : List (List ℕ)) → is_before x y ≡ true → AllAfter y ys → AllAfter x ys
after_before x y [] h a = tt
after_before x y (z ∷ zs) h a = (chain x y z h a.0, after_before x y zs h a.1)

-- a name put in its place, by the two tests
put_by : Bool → Bool → List ℕ → List ℕ → List (List ℕ) → List (List ℕ)
put_by same before name other others = cond same (other ∷ others) (cond before (name ∷ other ∷ others) (other ∷ with_name name others))

after_put : (s b : Bool) (x name other : List ℕ) (others : List (List ℕ)) → is_before x name ≡ true → is_before x other ≡ true → AllAfter x others → AllAfter x (with_name name others) → AllAfter x (put_by s b name other others)
unfolding put_by
after_put true b x name other others h g a k = (g, a)
after_put false true x name other others h g a k = (h, (g, a))
after_put false false x name other others h g a k = (g, k)

after_with : (x name : List ℕ) (ys : List (List ℕ)) → is_before x name ≡ true → AllAfter x ys → AllAfter x (with_name name ys)
unfolding put_by
after_with x name [] h a = (h, tt)
after_with x name (y ∷ ys) h a = after_put (same_name name y) (is_before name y) x name y ys h a.0 a.1 (after_with x name ys h a.1)

ascends_put : (s b : Bool) (name other : List ℕ) (others : List (List ℕ)) → same_name name other ≡ s → is_before name other ≡ b → AllAfter other others → Ascends others → Ascends (with_name name others) → Ascends (put_by s b name other others)
unfolding put_by
ascends_put true b name other others h g a r k = (a, r)
ascends_put false true name other others h g a r k = ((g, after_before name other others g a), (a, r))
ascends_put false false name other others h g a r k = (after_with other name others (turned name other h g) a, k)

ascends_with : (name : List ℕ) (ys : List (List ℕ)) → Ascends ys → Ascends (with_name name ys)
unfolding put_by
ascends_with name [] a = (tt, tt)
ascends_with name (y ∷ ys) a = ascends_put (same_name name y) (is_before name y) name y ys refl refl a.0 a.1 (ascends_with name ys a.1)

pub ascends : (xs : List (List ℕ)) → Ascends (in_order xs)
ascends [] = tt
ascends (x ∷ xs) = ascends_with x (in_order xs) (ascends xs)

-- ---- which names are in it

keeps_put : (s b : Bool) (name other n : List ℕ) (others : List (List ℕ)) → In n (other ∷ others) → (In n others → In n (with_name name others)) → In n (put_by s b name other others)
unfolding put_by
keeps_put true b name other n others h k = h
keeps_put false true name other n others h k = inr h
keeps_put false false name other n others (inl e) k = inl e
keeps_put false false name other n others (inr h) k = inr (k h)

keeps : (name n : List ℕ) (ys : List (List ℕ)) → In n ys → In n (with_name name ys)
unfolding put_by
keeps name n [] h = absurd h
keeps name n (y ∷ ys) h = keeps_put (same_name name y) (is_before name y) name y n ys h (keeps name n ys)

there_put : (s b : Bool) (name other : List ℕ) (others : List (List ℕ)) → same_name name other ≡ s → In name (with_name name others) → In name (put_by s b name other others)
unfolding put_by
there_put true b name other others h k = inl (sym (same_is name other h))
there_put false true name other others h k = inl refl
there_put false false name other others h k = inr k

there : (name : List ℕ) (ys : List (List ℕ)) → In name (with_name name ys)
unfolding put_by
there name [] = inl refl
there name (y ∷ ys) = there_put (same_name name y) (is_before name y) name y ys refl (there name ys)

deeper : (name other n : List ℕ) (others : List (List ℕ)) → (name ≡ n) ⊎ In n others → (name ≡ n) ⊎ In n (other ∷ others)
deeper name other n others (inl e) = inl e
deeper name other n others (inr h) = inr (inr h)

from_put : (s b : Bool) (name other n : List ℕ) (others : List (List ℕ)) → In n (put_by s b name other others) → (In n (with_name name others) → (name ≡ n) ⊎ In n others) → (name ≡ n) ⊎ In n (other ∷ others)
unfolding put_by
from_put true b name other n others h k = inr h
from_put false true name other n others (inl e) k = inl e
from_put false true name other n others (inr h) k = inr h
from_put false false name other n others (inl e) k = inr (inl e)
from_put false false name other n others (inr h) k = deeper name other n others (k h)

from_with : (name n : List ℕ) (ys : List (List ℕ)) → In n (with_name name ys) → (name ≡ n) ⊎ In n ys
unfolding put_by
from_with name n [] (inl e) = inl e
from_with name n [] (inr h) = absurd h
from_with name n (y ∷ ys) h = from_put (same_name name y) (is_before name y) name y n ys h (from_with name n ys)

pub in_order_in : (n : List ℕ) (xs : List (List ℕ)) → In n xs → In n (in_order xs)
in_order_in n [] h = absurd h
in_order_in n (x ∷ xs) (inl e) = subst (λ (m : List ℕ). In m (with_name x (in_order xs))) e (there x (in_order xs))
in_order_in n (x ∷ xs) (inr h) = keeps x n (in_order xs) (in_order_in n xs h)

either_in : (n x : List ℕ) (xs : List (List ℕ)) → (x ≡ n) ⊎ In n (in_order xs) → (In n (in_order xs) → In n xs) → In n (x ∷ xs)
either_in n x xs (inl e) k = inl e
either_in n x xs (inr h) k = inr (k h)

pub in_order_from : (n : List ℕ) (xs : List (List ℕ)) → In n (in_order xs) → In n xs
in_order_from n [] h = absurd h
in_order_from n (x ∷ xs) h = either_in n x xs (from_with x n (in_order xs) h) (in_order_from n xs)

-- ---- two ascending lists of the same names

both_before : (x y : List ℕ) → is_before x y ≡ true → is_before y x ≡ true → ⊥
both_before x y h g = let e = chain x y x h g in let f = not_before_self x in cc

same_heads : (x y : List ℕ) (xs ys : List (List ℕ)) → AllAfter x xs → AllAfter y ys → In x (y ∷ ys) → In y (x ∷ xs) → x ≡ y
same_heads x y xs ys a b (inl e) h = sym e
same_heads x y xs ys a b (inr g) (inl e) = e
same_heads x y xs ys a b (inr g) (inr h) = absurd (both_before x y (after_in x y xs a h) (after_in y x ys b g))

other_than : (x y n : List ℕ) (xs ys : List (List ℕ)) → x ≡ y → AllAfter x xs → In n xs → In n (y ∷ ys) → In n ys
other_than x y n xs ys same a h (inl e) =
    let b : is_before x n ≡ true = after_in x n xs a h in
    absurd (let f : is_before x x ≡ true = subst (λ (m : List ℕ). is_before x m ≡ true) (sym e ∙ sym same) b in let g = not_before_self x in cc)
other_than x y n xs ys same a h (inr g) = g

pub one_list : (xs ys : List (List ℕ)) → Ascends xs → Ascends ys → ((n : List ℕ) → In n xs → In n ys) → ((n : List ℕ) → In n ys → In n xs) → xs ≡ ys
one_list [] [] a b f g = refl
one_list [] (y ∷ ys) a b f g = absurd (g y (inl refl))
one_list (x ∷ xs) [] a b f g = absurd (f x (inl refl))
one_list (x ∷ xs) (y ∷ ys) a b f g =
    let same : x ≡ y = same_heads x y xs ys a.0 b.0 (f x (inl refl)) (g y (inl refl)) in
    let rest : xs ≡ ys = one_list xs ys a.1 b.1 (λ n h. other_than x y n xs ys same a.0 h (f n (inr h))) (λ n h. other_than y x n ys xs (sym same) b.0 h (g n (inr h))) in
    cc

pub same_order : (xs ys : List (List ℕ)) → ((n : List ℕ) → In n xs → In n ys) → ((n : List ℕ) → In n ys → In n xs) → in_order xs ≡ in_order ys
same_order xs ys f g =
    one_list (in_order xs) (in_order ys) (ascends xs) (ascends ys) (λ n h. in_order_in n ys (f n (in_order_from n xs h))) (λ n h. in_order_in n xs (g n (in_order_from n ys h)))

-- ---- the least number

lesser_flip : (a b : Option ℕ) → lesser a b ≡ lesser b a
lesser_flip None None = refl
lesser_flip None (Some b) = refl
lesser_flip (Some a) None = refl
lesser_flip (Some a) (Some b) = ap Some (least_flip a b)
  where
    least_flip : (a b : ℕ) → min a b ≡ min b a
    least_flip a b = omega arith

least_assoc : (a b c : ℕ) → min (min a b) c ≡ min a (min b c)
least_assoc a b c = omega arith

pub lesser_assoc : (a b c : Option ℕ) → lesser (lesser a b) c ≡ lesser a (lesser b c)
lesser_assoc None b c = refl
lesser_assoc (Some a) None c = refl
lesser_assoc (Some a) (Some b) None = refl
lesser_assoc (Some a) (Some b) (Some c) = ap Some (least_assoc a b c)

lesser_self : (a : Option ℕ) → lesser a a ≡ a
lesser_self None = refl
lesser_self (Some a) = ap Some (least_self a)
  where
    least_self : (a : ℕ) → min a a ≡ a
    least_self a = omega arith

lesser_twice : (a b : Option ℕ) → lesser a (lesser a b) ≡ lesser a b
lesser_twice a b = sym (lesser_assoc a a b) ∙ ap (λ (o : Option ℕ). lesser o b) (lesser_self a)

lesser_past : (a b c : Option ℕ) → lesser a c ≡ c → lesser a (lesser b c) ≡ lesser b c
lesser_past a b c h =
    sym (lesser_assoc a b c)
    ∙ (ap (λ (o : Option ℕ). lesser o c) (lesser_flip a b)
    ∙ (lesser_assoc b a c ∙ ap (lesser b) h))

least_first : (b : Bool) (gid least : Option ℕ) → b ≡ true → lesser gid (cond b (lesser gid least) least) ≡ cond b (lesser gid least) least
least_first true gid least h = lesser_twice gid least
least_first false gid least h = cc

least_rest : (b : Bool) (own gid least : Option ℕ) → lesser own least ≡ least → lesser own (cond b (lesser gid least) least) ≡ cond b (lesser gid least) least
least_rest true own gid least h = lesser_past own gid least h
least_rest false own gid least h = h

-- the number of one of the groups is not below the least
at_least : (name : List ℕ) (r : GroupRef) (rs : List GroupRef) → In r rs → same_name r.name name ≡ true → lesser r.gid (least_gid name rs) ≡ least_gid name rs
at_least name r [] h s = absurd h
at_least name r (x ∷ xs) (inl e) s =
    subst (λ (g : GroupRef). lesser g.gid (least_gid name (x ∷ xs)) ≡ least_gid name (x ∷ xs)) e
    (least_first (same_name x.name name) x.gid (least_gid name xs) (ap (λ (g : GroupRef). same_name g.name name) e ∙ s))
at_least name r (x ∷ xs) (inr h) s = least_rest (same_name x.name name) r.gid x.gid (least_gid name xs) (at_least name r xs h s)

below_by : (b : Bool) (gid least other : Option ℕ) → (b ≡ true → lesser gid other ≡ other) → lesser least other ≡ other → lesser (cond b (lesser gid least) least) other ≡ other
below_by true gid least other f h = lesser_assoc gid least other ∙ (ap (lesser gid) h ∙ f refl)
below_by false gid least other f h = h

-- the least of all is not above the least of some
all_below : (name : List ℕ) (rs ss : List GroupRef) → ((r : GroupRef) → In r rs → In r ss) → lesser (least_gid name rs) (least_gid name ss) ≡ least_gid name ss
all_below name [] ss f = refl
all_below name (r ∷ rs) ss f =
    below_by (same_name r.name name) r.gid (least_gid name rs) (least_gid name ss) (λ s. at_least name r ss (f r (inl refl)) s) (all_below name rs ss (λ x h. f x (inr h)))

pub same_least : (name : List ℕ) (rs ss : List GroupRef) → ((r : GroupRef) → In r rs → In r ss) → ((r : GroupRef) → In r ss → In r rs) → least_gid name rs ≡ least_gid name ss
same_least name rs ss f g = sym (all_below name ss rs g) ∙ (lesser_flip (least_gid name ss) (least_gid name rs) ∙ all_below name rs ss f)

name_in : (r : GroupRef) (rs : List GroupRef) → In r rs → In r.name (names_of rs)
name_in r [] h = absurd h
name_in r (x ∷ xs) (inl e) = inl (ap (λ (g : GroupRef). g.name) e)
name_in r (x ∷ xs) (inr h) = inr (name_in r xs h)

-- a group of a name
record IsCalled (name : List ℕ) (rs : List GroupRef) : Type 0 where
  own : GroupRef
  among : In own rs
  is : own.name ≡ name

in_name : (name : List ℕ) (rs : List GroupRef) → In name (names_of rs) → IsCalled name rs
in_name name [] h = absurd h
in_name name (x ∷ xs) (inl e) = record { own = x; among = inl refl; is = e }
in_name name (x ∷ xs) (inr h) = let r = in_name name xs h in record { own = r.own; among = inr r.among; is = r.is }

names_in : (rs ss : List GroupRef) → ((r : GroupRef) → In r rs → In r ss) → (n : List ℕ) → In n (names_of rs) → In n (names_of ss)
names_in rs ss f n h = let r = in_name n rs h in subst (λ (m : List ℕ). In m (names_of ss)) r.is (name_in r.own ss (f r.own r.among))

same_refs : (rs ss : List GroupRef) → ((r : GroupRef) → In r rs → In r ss) → ((r : GroupRef) → In r ss → In r rs) → (names : List (List ℕ)) → map (ref_among rs) names ≡ map (ref_among ss) names
same_refs rs ss f g [] = refl
same_refs rs ss f g (n ∷ ns) =
    let e : least_gid n rs ≡ least_gid n ss = same_least n rs ss f g in
    let t : map (ref_among rs) ns ≡ map (ref_among ss) ns = same_refs rs ss f g ns in
    cc

pub same_refs_order : (rs ss : List GroupRef) → ((r : GroupRef) → In r rs → In r ss) → ((r : GroupRef) → In r ss → In r rs) → refs_in_order rs ≡ refs_in_order ss
same_refs_order rs ss f g =
    same_refs rs ss f g (in_order (names_of rs)) ∙ ap (map (ref_among ss)) (same_order (names_of rs) (names_of ss) (names_in rs ss f) (names_in ss rs g))

-- ---- the names that are kept of users

called_names : (o : Option (List ℕ)) → names_of (called o None) ≡ listed o
called_names None = refl
called_names (Some name) = refl

user_by : (b : Bool) (o : Option (List ℕ)) → names_of (cond b (called o None) []) ≡ cond b (listed o) []
user_by true o = called_names o
user_by false o = refl

pub kept_names : (es : List DirEntry) → names_of (flat_map user_ref es) ≡ user_names es
kept_names [] = refl
kept_names (e ∷ es) =
    map-append (λ (r : GroupRef). r.name) (user_ref e) (flat_map user_ref es)
    ∙ (ap (λ (xs : List (List ℕ)). xs ++ names_of (flat_map user_ref es)) (user_by (is_user e.attributes) (first_of (codes "uid") e.attributes))
    ∙ ap (λ (xs : List (List ℕ)). user_name e ++ xs) (kept_names es))
