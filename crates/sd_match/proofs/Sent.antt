-- What is sent of an entry, where an attribute is asked for, says of it what the entry says.
use Rattle.std.proofs.Common.{◌≡◌, ℕ, Bool, true, false, not, ◌&&◌, ◌||◌, List, [], ◌∷◌, ◌++◌, map, Option, None, refl, sym, ap, ◌∙◌, cond}
use Rattle.std.specs.Prelude.{filter, codes}
use Rattle.std.specs.List.{list_any, flat_map}
use Rattle.sd_dn.specs.Comparing.{same_text}
use Rattle.sd_dn.proofs.Same.{texts_same}
use Rattle.sd_ldap.specs.declared.entry.Attribute.{Attribute}
use Rattle.sd_ldap.specs.declared.entry.DirEntry.{DirEntry}
use Rattle.sd_ldap.specs.Values.{SearchValue}
use Rattle.sd_entry.specs.Values.{or_else, own_first, first_of, own_values, values_of, own_says, says, has_text}
use Rattle.sd_match.specs.Answering.{is_password, is_sent, sent_attribute, sent_attributes, sent}
use Rattle.sd_match.specs.Matching.{has_value}

-- ---- attributes of one name that is asked for

pub record IsKept (asked : List (List ℕ)) (name : List ℕ) : Type 0 where
  pub open_name : same_text name (codes "userPassword") ≡ false
  pub among : list_any (λ text. same_text text name) asked ≡ true

any_as : (texts : List (List ℕ)) (a b : List ℕ) → same_text a b ≡ true → list_any (λ text. same_text text a) texts ≡ list_any (λ text. same_text text b) texts
any_as [] a b h = refl
any_as (t ∷ ts) a b h =
    let e : same_text t a ≡ same_text t b = texts_same.flip t a ∙ (texts_same.left a b t h ∙ texts_same.flip b t) in
    ap (λ (x : Bool). x || list_any (λ text. same_text text a) ts) e ∙ ap (λ (x : Bool). same_text t b || x) (any_as ts a b h)

sent_so : (password all among : Bool) → password ≡ false → among ≡ true → (not password && (all || among)) ≡ true
sent_so false true among p q = refl
sent_so false false among p q = q
sent_so true all among p q = absurd cc

-- an attribute of this name is sent
named_sent : (asked : List (List ℕ)) (name : List ℕ) → IsKept asked name → (a : Attribute) → same_text a.name name ≡ true → is_sent asked a ≡ true
named_sent asked name k a h =
    sent_so (is_password a) _ (list_any (λ text. same_text text a.name) asked)
    (texts_same.left a.name name (codes "userPassword") h ∙ k.open_name)
    (any_as asked a.name name h ∙ k.among)

unsent_other : (same kept : Bool) → (same ≡ true → kept ≡ true) → kept ≡ false → same ≡ false
unsent_other true kept f h = let e = f refl in cc
unsent_other false kept f h = refl

-- what is not sent has another name
pub unnamed : (asked : List (List ℕ)) (name : List ℕ) → IsKept asked name → (a : Attribute) → is_sent asked a ≡ false → same_text a.name name ≡ false
unnamed asked name k a h = unsent_other (same_text a.name name) (is_sent asked a) (named_sent asked name k a) h

whole : (xs : List Attribute) → map (λ (a : Attribute). sent_attribute false a) xs ≡ xs
whole [] = refl
whole (x ∷ xs) = ap (λ (ys : List Attribute). x ∷ ys) (whole xs)

pub sent_are : (asked : List (List ℕ)) (xs : List Attribute) → sent_attributes false asked xs ≡ filter (λ (a : Attribute). is_sent asked a) xs
sent_are asked xs = whole (filter (λ (a : Attribute). is_sent asked a) xs)

-- ---- lists without what is not sent

any_step : {X : Type 0} (q : X → Bool) (x : X) (xs kept : List X) (b : Bool) → (b ≡ false → q x ≡ false) → list_any q kept ≡ list_any q xs → list_any q (cond b (x ∷ kept) kept) ≡ (q x || list_any q xs)
any_step q x xs kept true f e = ap (λ (y : Bool). q x || y) e
any_step q x xs kept false f e = rw (f refl) e

any_kept : {X : Type 0} (q p : X → Bool) → ((x : X) → p x ≡ false → q x ≡ false) → (xs : List X) → list_any q (filter p xs) ≡ list_any q xs
any_kept q p f [] = refl
any_kept q p f (x ∷ xs) = any_step q x xs (filter p xs) (p x) (f x) (any_kept q p f xs)

flat_step : {X Y : Type 0} (q : X → List Y) (x : X) (xs kept : List X) (b : Bool) → (b ≡ false → q x ≡ []) → flat_map q kept ≡ flat_map q xs → flat_map q (cond b (x ∷ kept) kept) ≡ q x ++ flat_map q xs
flat_step {X} {Y} q x xs kept true f e = ap (λ (y : List Y). q x ++ y) e
flat_step {X} {Y} q x xs kept false f e = rw (f refl) e

flat_kept : {X Y : Type 0} (q : X → List Y) (p : X → Bool) → ((x : X) → p x ≡ false → q x ≡ []) → (xs : List X) → flat_map q (filter p xs) ≡ flat_map q xs
flat_kept q p f [] = refl
flat_kept q p f (x ∷ xs) = flat_step q x xs (filter p xs) (p x) (f x) (flat_kept q p f xs)

first_step : (own : Attribute → Option (List ℕ)) (all : List Attribute → Option (List ℕ)) (x : Attribute) (rest kept : Option (List ℕ)) (b : Bool) (whole part : List Attribute)
    → (b ≡ false → own x ≡ None) → kept ≡ rest → ((ys : List Attribute) → all (x ∷ ys) ≡ or_else (own x) (all ys)) → all part ≡ kept → all whole ≡ rest
    → all (cond b (x ∷ part) part) ≡ all (x ∷ whole)
first_step own all x rest kept true whole part f e step p w = step part ∙ (ap (λ (y : Option (List ℕ)). or_else (own x) y) (p ∙ (e ∙ sym w)) ∙ sym (step whole))
first_step own all x rest kept false whole part f e step p w = p ∙ (e ∙ (sym w ∙ (ap (λ (y : Option (List ℕ)). or_else y (all whole)) (sym (f refl)) ∙ sym (step whole))))

first_kept : (own : Attribute → Option (List ℕ)) (all : List Attribute → Option (List ℕ)) (p : Attribute → Bool)
    → ((x : Attribute) → p x ≡ false → own x ≡ None) → ((x : Attribute) (ys : List Attribute) → all (x ∷ ys) ≡ or_else (own x) (all ys))
    → (xs : List Attribute) → all (filter p xs) ≡ all xs
first_kept own all p f step [] = refl
first_kept own all p f step (x ∷ xs) = first_step own all x (all xs) (all (filter p xs)) (p x) xs (filter p xs) (f x) (first_kept own all p f step xs) (step x) refl refl

-- ---- what reads attributes of one name reads the same: a test, all that they have, and the first

pub any_sent : (asked : List (List ℕ)) (name : List ℕ) → IsKept asked name → (test : Attribute → Bool) → ((a : Attribute) → same_text a.name name ≡ false → test a ≡ false)
    → (xs : List Attribute) → list_any test (sent_attributes false asked xs) ≡ list_any test xs
any_sent asked name k test none xs =
    ap (λ (ys : List Attribute). list_any test ys) (sent_are asked xs) ∙ any_kept test (λ (a : Attribute). is_sent asked a) (λ a h. none a (unnamed asked name k a h)) xs

flat_sent : {Y : Type 0} (asked : List (List ℕ)) (name : List ℕ) → IsKept asked name → (own : Attribute → List Y) → ((a : Attribute) → same_text a.name name ≡ false → own a ≡ [])
    → (xs : List Attribute) → flat_map own (sent_attributes false asked xs) ≡ flat_map own xs
flat_sent asked name k own none xs =
    ap (λ (ys : List Attribute). flat_map own ys) (sent_are asked xs) ∙ flat_kept own (λ (a : Attribute). is_sent asked a) (λ a h. none a (unnamed asked name k a h)) xs

pub chosen_sent : (asked : List (List ℕ)) (name : List ℕ) → IsKept asked name → (own : Attribute → Option (List ℕ)) (all : List Attribute → Option (List ℕ))
    → ((a : Attribute) → same_text a.name name ≡ false → own a ≡ None) → ((a : Attribute) (ys : List Attribute) → all (a ∷ ys) ≡ or_else (own a) (all ys))
    → (xs : List Attribute) → all (sent_attributes false asked xs) ≡ all xs
chosen_sent asked name k own all none step xs =
    ap all (sent_are asked xs) ∙ first_kept own all (λ (a : Attribute). is_sent asked a) (λ a h. none a (unnamed asked name k a h)) step xs

and_no : (a b : Bool) → a ≡ false → (a && b) ≡ false
and_no a b e = rw e refl

pub says_sent : (asked : List (List ℕ)) (name text : List ℕ) → IsKept asked name → (xs : List Attribute) → says name text (sent_attributes false asked xs) ≡ says name text xs
says_sent asked name text k xs = any_sent asked name k (λ (a : Attribute). own_says name text a) (λ a h. and_no (same_text a.name name) (has_text text a.values) h) xs

pub value_sent : (asked : List (List ℕ)) (name : List ℕ) (test : List ℕ → Bool) → IsKept asked name → (xs : List Attribute) → has_value name test (sent_attributes false asked xs) ≡ has_value name test xs
value_sent asked name test k xs = any_sent asked name k (λ (a : Attribute). same_text a.name name && list_any test a.values) (λ a h. and_no (same_text a.name name) (list_any test a.values) h) xs

own_values_no : (name : List ℕ) (a : Attribute) → same_text a.name name ≡ false → own_values name a ≡ []
own_values_no name a e = rw e refl

pub values_sent : (asked : List (List ℕ)) (name : List ℕ) → IsKept asked name → (xs : List Attribute) → values_of name (sent_attributes false asked xs) ≡ values_of name xs
values_sent asked name k xs = flat_sent asked name k (own_values name) (own_values_no name) xs

own_first_no : (name : List ℕ) (a : Attribute) → same_text a.name name ≡ false → own_first name a ≡ None
own_first_no name a e = rw e refl

pub first_sent : (asked : List (List ℕ)) (name : List ℕ) → IsKept asked name → (xs : List Attribute) → first_of name (sent_attributes false asked xs) ≡ first_of name xs
first_sent asked name k xs = chosen_sent asked name k (own_first name) (first_of name) (own_first_no name) (λ a ys. refl) xs

-- ---- entries as they are sent

pub all_sent : {Y : Type 0} (f : DirEntry → List Y) (s : SearchValue) → ((e : DirEntry) → f (sent s e) ≡ f e) → (es : List DirEntry) → flat_map f (map (sent s) es) ≡ flat_map f es
all_sent f s h [] = refl
all_sent {Y} f s h (e ∷ es) = ap (λ (ys : List Y). ys ++ flat_map f (map (sent s) es)) (h e) ∙ ap (λ (ys : List Y). f e ++ ys) (all_sent f s h es)
