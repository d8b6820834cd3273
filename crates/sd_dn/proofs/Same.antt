-- Texts and DNs that are equal without ASCII case: an equivalence.
use Rattle.std.specs.Prelude.{nat_le}
use Rattle.std.proofs.Common.{◌≡◌, ℕ, zero, suc, ◌-◌, length, drop, Bool, true, ◌&&◌, ◌==◌, List, [], ◌∷◌, Option, Some, None, refl, ap, ◌∙◌, arith}
use Rattle.std.proofs.lemmas.Bool.{eqb-true, eq-eqb, and_from, and_parts}
use Rattle.std.specs.Char.{eq_ignore_ascii_case, to_ascii_lowercase}
use Rattle.sd_dn.specs.declared.Pair.{Pair}
use Rattle.sd_dn.specs.Comparing.{same_list, same_text, same_pair, same_rdn, same_dn, ends_with}
use Rattle.sd_dn.specs.Texts.{both_meet, spelled, same_dn_text}

-- a test is symmetric, and what equals a thing meets what it meets
pub record IsSame {X : Type 0} (same : X → X → Bool) : Type 0 where
  pub flip : (x y : X) → same x y ≡ same y x
  pub left : (x y z : X) → same x y ≡ true → same x z ≡ same y z

flip_list : {X : Type 0} (same : X → X → Bool) → IsSame same → (xs ys : List X) → same_list same xs ys ≡ same_list same ys xs
flip_list same s [] [] = refl
flip_list same s [] (y ∷ ys) = refl
flip_list same s (x ∷ xs) [] = refl
flip_list same s (x ∷ xs) (y ∷ ys) = ap (λ (b : Bool). b && same_list same xs ys) (s.flip x y) ∙ ap (λ (b : Bool). same y x && b) (flip_list same s xs ys)

left_list : {X : Type 0} (same : X → X → Bool) → IsSame same → (xs ys zs : List X) → same_list same xs ys ≡ true → same_list same xs zs ≡ same_list same ys zs
left_list same s [] [] zs h = refl
left_list same s [] (y ∷ ys) zs h = cc
left_list same s (x ∷ xs) [] zs h = cc
left_list same s (x ∷ xs) (y ∷ ys) [] h = refl
left_list same s (x ∷ xs) (y ∷ ys) (z ∷ zs) h =
    let p : (same x y ≡ true) × (same_list same xs ys ≡ true) = and_parts (same x y) (same_list same xs ys) h in
    ap (λ (b : Bool). b && same_list same xs zs) (s.left x y z p.0) ∙ ap (λ (b : Bool). same y z && b) (left_list same s xs ys zs p.1)

lists : {X : Type 0} (same : X → X → Bool) → IsSame same → IsSame (same_list same)
lists same s = record { flip = flip_list same s; left = left_list same s }

flip_eq : (a b : ℕ) → (a == b) ≡ (b == a)
flip_eq a b = grind arith

bytes : IsSame eq_ignore_ascii_case
bytes = record {
  flip = λ x y. flip_eq (to_ascii_lowercase x) (to_ascii_lowercase y);
  left = λ x y z h. ap (λ (n : ℕ). n == to_ascii_lowercase z) (eqb-true (to_ascii_lowercase x) (to_ascii_lowercase y) h);
}

pub texts_same : IsSame same_text
texts_same = lists eq_ignore_ascii_case bytes

flip_pair : (p q : Pair) → same_pair p q ≡ same_pair q p
flip_pair p q = ap (λ (b : Bool). b && same_text p.value q.value) (texts_same.flip p.name q.name) ∙ ap (λ (b : Bool). same_text q.name p.name && b) (texts_same.flip p.value q.value)

left_pair : (p q r : Pair) → same_pair p q ≡ true → same_pair p r ≡ same_pair q r
left_pair p q r h =
    let e : (same_text p.name q.name ≡ true) × (same_text p.value q.value ≡ true) = and_parts (same_text p.name q.name) (same_text p.value q.value) h in
    ap (λ (b : Bool). b && same_text p.value r.value) (texts_same.left p.name q.name r.name e.0) ∙ ap (λ (b : Bool). same_text q.name r.name && b) (texts_same.left p.value q.value r.value e.1)

pub dns_same : IsSame same_dn
dns_same = lists same_rdn (lists same_pair (record { flip = flip_pair; left = left_pair }))

flip_read : (a b : Option (List (List Pair))) → both_meet same_dn a b ≡ both_meet same_dn b a
flip_read None None = refl
flip_read None (Some b) = refl
flip_read (Some a) None = refl
flip_read (Some a) (Some b) = dns_same.flip a b

left_read : (a b c : Option (List (List Pair))) → both_meet same_dn a b ≡ true → both_meet same_dn a c ≡ both_meet same_dn b c
left_read None b c h = cc
left_read (Some a) None c h = cc
left_read (Some a) (Some b) None h = refl
left_read (Some a) (Some b) (Some c) h = dns_same.left a b c h

pub dn_texts_same : IsSame same_dn_text
dn_texts_same = record { flip = λ x y. flip_read (spelled x) (spelled y); left = λ x y z h. left_read (spelled x) (spelled y) (spelled z) h }

-- what equals a DN meets the same from the right
pub right_of : (x y z : List ℕ) → same_dn_text x y ≡ true → same_dn_text z x ≡ same_dn_text z y
right_of x y z h = dn_texts_same.flip z x ∙ (dn_texts_same.left x y z h ∙ dn_texts_same.flip y z)

-- ---- a text or a DN, and itself

self_list : {X : Type 0} (same : X → X → Bool) → ((x : X) → same x x ≡ true) → (xs : List X) → same_list same xs xs ≡ true
self_list same h [] = refl
self_list same h (x ∷ xs) = and_from (same x x) (same_list same xs xs) (h x) (self_list same h xs)

self_byte : (b : ℕ) → eq_ignore_ascii_case b b ≡ true
self_byte b = eq-eqb (to_ascii_lowercase b) (to_ascii_lowercase b) refl

pub self_text : (text : List ℕ) → same_text text text ≡ true
self_text text = self_list eq_ignore_ascii_case self_byte text

self_pair : (p : Pair) → same_pair p p ≡ true
self_pair p = and_from (same_text p.name p.name) (same_text p.value p.value) (self_text p.name) (self_text p.value)

pub self_dn : (dn : List (List Pair)) → same_dn dn dn ≡ true
self_dn dn = self_list same_rdn (λ rdn. self_list same_pair self_pair rdn) dn

-- ---- a DN under a base, by an equal DN

same_length : {X : Type 0} (same : X → X → Bool) (xs ys : List X) → same_list same xs ys ≡ true → length xs ≡ length ys
same_length same [] [] h = refl
same_length same [] (y ∷ ys) h = cc
same_length same (x ∷ xs) [] h = cc
same_length same (x ∷ xs) (y ∷ ys) h = ap suc (same_length same xs ys (and_parts (same x y) (same_list same xs ys) h).1)

same_drop : {X : Type 0} (same : X → X → Bool) (n : ℕ) (xs ys : List X) → same_list same xs ys ≡ true → same_list same (drop n xs) (drop n ys) ≡ true
same_drop same zero xs ys h = h
same_drop same (suc n) [] [] h = refl
same_drop same (suc n) [] (y ∷ ys) h = cc
same_drop same (suc n) (x ∷ xs) [] h = cc
same_drop same (suc n) (x ∷ xs) (y ∷ ys) h = same_drop same n xs ys (and_parts (same x y) (same_list same xs ys) h).1

-- equal DNs end alike
pub ends_alike : (a b base : List (List Pair)) → same_dn a b ≡ true → ends_with a base ≡ ends_with b base
ends_alike a b base h =
    let long : length a ≡ length b = same_length same_rdn a b h in
    let cut : same_dn (drop (length b - length base) a) (drop (length b - length base) b) ≡ true = same_drop same_rdn (length b - length base) a b h in
    ap (λ (n : ℕ). nat_le (length base) n && same_dn (drop (n - length base) a) base) long
    ∙ ap (λ (x : Bool). nat_le (length base) (length b) && x) (dns_same.left (drop (length b - length base) a) (drop (length b - length base) b) base cut)
