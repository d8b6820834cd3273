-- Things in lists.
use Rattle.std.proofs.Common.{◌≡◌, Bool, true, false, ◌||◌, List, [], ◌∷◌, ◌++◌, refl, sym, ap, ◌∙◌, subst, cond, inl, inr, ◌⊎◌}
use Rattle.std.proofs.lemmas.Bool.{or_left, or_right}
use Rattle.std.specs.Prelude.{filter}
use Rattle.std.specs.List.{list_any, flat_map}

-- a thing is in a list
abbrev pub In : {X : Type 0} → X → List X → Type 0
In x [] = ⊥
In x (y ∷ ys) = (y ≡ x) ⊎ In x ys

pub in_left : {X : Type 0} (x : X) (xs ys : List X) → In x xs → In x (xs ++ ys)
in_left x [] ys h = absurd h
in_left x (z ∷ zs) ys (inl e) = inl e
in_left x (z ∷ zs) ys (inr h) = inr (in_left x zs ys h)

pub in_right : {X : Type 0} (x : X) (xs ys : List X) → In x ys → In x (xs ++ ys)
in_right x [] ys h = h
in_right x (z ∷ zs) ys h = inr (in_right x zs ys h)

further : {X : Type 0} (x z : X) (zs ys : List X) → In x zs ⊎ In x ys → ((z ≡ x) ⊎ In x zs) ⊎ In x ys
further x z zs ys (inl h) = inl (inr h)
further x z zs ys (inr h) = inr h

pub in_either : {X : Type 0} (x : X) (xs ys : List X) → In x (xs ++ ys) → In x xs ⊎ In x ys
in_either x [] ys h = inr h
in_either x (z ∷ zs) ys (inl e) = inl (inl e)
in_either x (z ∷ zs) ys (inr h) = further x z zs ys (in_either x zs ys h)

pub in_flat : {X Y : Type 0} (f : X → List Y) (x : X) (y : Y) (xs : List X) → In x xs → In y (f x) → In y (flat_map f xs)
in_flat f x y [] h g = absurd h
in_flat {X} f x y (z ∷ zs) (inl e) g = in_left y (f z) (flat_map f zs) (subst (λ (w : X). In y (f w)) (sym e) g)
in_flat f x y (z ∷ zs) (inr h) g = in_right y (f z) (flat_map f zs) (in_flat f x y zs h g)

-- where a thing of a flat list comes from
pub record IsFrom {X Y : Type 0} (f : X → List Y) (y : Y) (xs : List X) : Type 0 where
  pub source : X
  pub among : In source xs
  pub gives : In y (f source)

from_rest : {X Y : Type 0} (f : X → List Y) (y : Y) (z : X) (zs : List X) → IsFrom f y zs → IsFrom f y (z ∷ zs)
from_rest f y z zs h = record { source = h.source; among = inr h.among; gives = h.gives }

from_by : {X Y : Type 0} (f : X → List Y) (y : Y) (z : X) (zs : List X) → In y (f z) ⊎ In y (flat_map f zs) → (In y (flat_map f zs) → IsFrom f y zs) → IsFrom f y (z ∷ zs)
from_by f y z zs (inl h) k = record { source = z; among = inl refl; gives = h }
from_by f y z zs (inr h) k = from_rest f y z zs (k h)

pub in_from : {X Y : Type 0} (f : X → List Y) (y : Y) (xs : List X) → In y (flat_map f xs) → IsFrom f y xs
in_from f y [] h = absurd h
in_from f y (z ∷ zs) h = from_by f y z zs (in_either y (f z) (flat_map f zs) h) (in_from f y zs)

kept_first : {X : Type 0} (b : Bool) (x z : X) (zs : List X) → z ≡ x → b ≡ true → In x (cond b (z ∷ zs) zs)
kept_first true x z zs e h = inl e
kept_first false x z zs e h = cc

kept_rest : {X : Type 0} (b : Bool) (x z : X) (zs : List X) → In x zs → In x (cond b (z ∷ zs) zs)
kept_rest true x z zs h = inr h
kept_rest false x z zs h = h

pub in_filter : {X : Type 0} (p : X → Bool) (x : X) (xs : List X) → In x xs → p x ≡ true → In x (filter p xs)
in_filter p x [] h g = absurd h
in_filter p x (z ∷ zs) (inl e) g = kept_first (p z) x z (filter p zs) e (ap p e ∙ g)
in_filter p x (z ∷ zs) (inr h) g = kept_rest (p z) x z (filter p zs) (in_filter p x zs h g)

passed : {X : Type 0} (p : X → Bool) (b : Bool) (x z : X) (zs ks : List X) → p z ≡ b → In x (cond b (z ∷ ks) ks) → (In x ks → In x zs × (p x ≡ true)) → In x (z ∷ zs) × (p x ≡ true)
passed {X} p true x z zs ks e (inl h) k = (inl h, subst (λ (w : X). p w ≡ true) h e)
passed p true x z zs ks e (inr h) k = (inr (k h).0, (k h).1)
passed p false x z zs ks e h k = (inr (k h).0, (k h).1)

pub filter_in : {X : Type 0} (p : X → Bool) (x : X) (xs : List X) → In x (filter p xs) → In x xs × (p x ≡ true)
filter_in p x [] h = absurd h
filter_in p x (z ∷ zs) h = passed p (p z) x z zs (filter p zs) refl h (filter_in p x zs)

pub or_either : (a b : Bool) → (a || b) ≡ true → (a ≡ true) ⊎ (b ≡ true)
or_either true b h = inl refl
or_either false b h = inr h

pub in_any : {X : Type 0} (p : X → Bool) (x : X) (xs : List X) → In x xs → p x ≡ true → list_any p xs ≡ true
in_any p x [] h g = absurd h
in_any p x (z ∷ zs) (inl e) g = or_left (p z) (list_any p zs) (ap p e ∙ g)
in_any p x (z ∷ zs) (inr h) g = or_right (p z) (list_any p zs) (in_any p x zs h g)

-- what passes in a list
pub record IsPassing {X : Type 0} (p : X → Bool) (xs : List X) : Type 0 where
  pub it : X
  pub among : In it xs
  pub passes : p it ≡ true

any_by : {X : Type 0} (p : X → Bool) (z : X) (zs : List X) → (p z ≡ true) ⊎ (list_any p zs ≡ true) → (list_any p zs ≡ true → IsPassing p zs) → IsPassing p (z ∷ zs)
any_by p z zs (inl h) k = record { it = z; among = inl refl; passes = h }
any_by p z zs (inr h) k = let r = k h in record { it = r.it; among = inr r.among; passes = r.passes }

pub any_in : {X : Type 0} (p : X → Bool) (xs : List X) → list_any p xs ≡ true → IsPassing p xs
any_in p [] h = cc
any_in p (z ∷ zs) h = any_by p z zs (or_either (p z) (list_any p zs) h) (any_in p zs)

-- what passes one test passes another
pub any_more : {X : Type 0} (p q : X → Bool) → ((x : X) → p x ≡ true → q x ≡ true) → (xs : List X) → list_any p xs ≡ true → list_any q xs ≡ true
any_more p q f xs h = let r = any_in p xs h in in_any q r.it xs r.among (f r.it r.passes)
