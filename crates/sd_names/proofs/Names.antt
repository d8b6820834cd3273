-- Names are equal where DNs are.
use Rattle.std.proofs.Common.{◌≡◌, ℕ, Bool, true, false, eqb, List, [], ◌∷◌, map, refl, sym, ap, ◌∙◌, subst, Option, Some, None}
use Rattle.std.specs.Prelude.{◌&&◌}
use Rattle.std.specs.Cmp.Lexicographic.{pointwise, pointwise_decides, bytes_decides}
use Rattle.std.specs.Char.{to_ascii_lowercase, eq_ignore_ascii_case}
use Rattle.sd_dn.specs.declared.Pair.{Pair}
use Rattle.sd_dn.specs.Comparing.{same_list, same_text, same_pair, same_rdn, same_dn}
use Rattle.sd_dn.specs.Texts.{both_meet}
use Rattle.sd_names.specs.declared.naming.Part.{Part}
use Rattle.sd_names.specs.declared.naming.Level.{Level}
use Rattle.sd_names.specs.declared.naming.Name.{Name}
use Rattle.sd_names.specs.Naming.{lower, lower_pair, lower_dn, parts_of, parts, lowered, names_equal}

-- two texts, two pairs and two lists of pairs

abbrev pub texts_equal : List ℕ → List ℕ → Bool
texts_equal = pointwise eqb

abbrev pub parts_equal : Part → Part → Bool
parts_equal p q = texts_equal p.name q.name && texts_equal p.value q.value

abbrev pub levels_equal : List (List Part) → List (List Part) → Bool
levels_equal = pointwise (pointwise parts_equal)

-- names that are known are equal where their parts are
known_equal : (a b : List Level) → pointwise (λ (x y : Level). pointwise parts_equal x.parts.items y.parts.items) a b ≡ levels_equal (parts_of a) (parts_of b)
known_equal [] [] = refl
known_equal [] (y ∷ ys) = refl
known_equal (x ∷ xs) [] = refl
known_equal (x ∷ xs) (y ∷ ys) = ap (λ (t : Bool). pointwise parts_equal x.parts.items y.parts.items && t) (known_equal xs ys)

-- lists that were mapped are equal where the lists are the same
mapped : {X Y : Type 0} (f : X → Y) (equal : Y → Y → Bool) (same : X → X → Bool) → ((x y : X) → equal (f x) (f y) ≡ same x y) → (xs ys : List X) → pointwise equal (map f xs) (map f ys) ≡ same_list same xs ys
mapped f equal same h [] [] = refl
mapped f equal same h [] (y ∷ ys) = refl
mapped f equal same h (x ∷ xs) [] = refl
mapped f equal same h (x ∷ xs) (y ∷ ys) = ap (λ (t : Bool). t && pointwise equal (map f xs) (map f ys)) (h x y) ∙ ap (λ (t : Bool). same x y && t) (mapped f equal same h xs ys)

pub texts_same : (a b : List ℕ) → texts_equal (lower a) (lower b) ≡ same_text a b
texts_same a b = mapped to_ascii_lowercase eqb eq_ignore_ascii_case (λ x y. refl) a b

pairs_same : (p q : Pair) → parts_equal (lower_pair p) (lower_pair q) ≡ same_pair p q
pairs_same p q = ap (λ (t : Bool). t && texts_equal (lower p.value) (lower q.value)) (texts_same p.name q.name) ∙ ap (λ (t : Bool). same_text p.name q.name && t) (texts_same p.value q.value)

rdns_same : (a b : List Pair) → pointwise parts_equal (map lower_pair a) (map lower_pair b) ≡ same_rdn a b
rdns_same a b = mapped lower_pair parts_equal same_pair pairs_same a b

pub dns_same : (a b : List (List Pair)) → levels_equal (lower_dn a) (lower_dn b) ≡ same_dn a b
dns_same a b = mapped (λ (rdn : List Pair). map lower_pair rdn) (pointwise parts_equal) same_rdn rdns_same a b

-- what is equal here is one thing

both_so : (s t : Bool) → (s && t) ≡ true → (s ≡ true) × (t ≡ true)
both_so true t h = (refl, h)
both_so false t h = cc

parts_decide : (p q : Part) → (parts_equal p q ≡ true → p ≡ q) × (p ≡ q → parts_equal p q ≡ true)
parts_decide p q = (
  λ h.
      let both : (texts_equal p.name q.name ≡ true) × (texts_equal p.value q.value ≡ true) = both_so (texts_equal p.name q.name) (texts_equal p.value q.value) h in
      let one : p.name ≡ q.name = (bytes_decides p.name q.name).0 both.0 in
      let two : p.value ≡ q.value = (bytes_decides p.value q.value).0 both.1 in
      ap (λ (n : List ℕ). record { name = n; value = p.value }) one ∙ ap (λ (v : List ℕ). record { name = q.name; value = v }) two,
  λ e. subst (λ (x : Part). parts_equal p x ≡ true) e (own p),
)
  where
    own : (p : Part) → parts_equal p p ≡ true
    own p =
        let one : texts_equal p.name p.name ≡ true = (bytes_decides p.name p.name).1 refl in
        let two : texts_equal p.value p.value ≡ true = (bytes_decides p.value p.value).1 refl in
        rw one two

pub levels_decide : (a b : List (List Part)) → levels_equal a b ≡ true → a ≡ b
levels_decide a b h = (pointwise_decides (pointwise_decides parts_decide) a b).0 h

-- ---- names and the DNs that texts spell

-- names are equal where their parts are
pub equal_parts : (a b : Name) → names_equal a b ≡ levels_equal (parts a) (parts b)
equal_parts a b = known_equal a.levels.items b.levels.items

pub equal_of : (a b : Name) → parts a ≡ parts b → names_equal a b ≡ true
equal_of a b e = equal_parts a b ∙ (pointwise_decides (pointwise_decides parts_decide) (parts a) (parts b)).1 e

pub parts_same : (a b : Name) → names_equal a b ≡ true → parts a ≡ parts b
parts_same a b e = levels_decide (parts a) (parts b) (sym (equal_parts a b) ∙ e)

-- DNs that meet are the same in lower case
pub met_lowered : (a b : Option (List (List Pair))) → both_meet same_dn a b ≡ true → lowered a ≡ lowered b
met_lowered (Some a) (Some b) h = ap (λ (x : List (List Part)). Some x) (levels_decide (lower_dn a) (lower_dn b) (dns_same a b ∙ h))
met_lowered (Some a) None h = cc
met_lowered None b h = cc

some_same : (a b : List (List Part)) → Some a ≡ Some b → a ≡ b
some_same a b e = cc

pub lowered_met : (a b : Option (List (List Pair))) (ps : List (List Part)) → lowered a ≡ Some ps → lowered b ≡ Some ps → both_meet same_dn a b ≡ true
lowered_met (Some a) (Some b) ps h g =
    let e : lower_dn a ≡ lower_dn b = some_same (lower_dn a) (lower_dn b) (h ∙ sym g) in
    sym (dns_same a b) ∙ (pointwise_decides (pointwise_decides parts_decide) (lower_dn a) (lower_dn b)).1 e
lowered_met (Some a) None ps h g = cc
lowered_met None b ps h g = cc

pub never_met : (a b : Option (List (List Pair))) → lowered b ≡ None → both_meet same_dn a b ≡ false
never_met (Some a) (Some b) h = cc
never_met (Some a) None h = refl
never_met None b h = refl

-- ---- a DN by its name

pub named_same : (name own : Name) (dn met : List (List Pair)) → parts name ≡ lower_dn dn → parts own ≡ lower_dn met → names_equal name own ≡ same_dn dn met
named_same name own dn met e f =
    equal_parts name own
    ∙ (ap (λ (x : List (List Part)). levels_equal x (parts own)) e
    ∙ (ap (λ (x : List (List Part)). levels_equal (lower_dn dn) x) f ∙ dns_same dn met))
