-- What a spelling spells is read.
use Rattle.std.proofs.Common.{◌≡◌, ℕ, zero, suc, Bool, true, false, cond, ltb, List, [], ◌∷◌, ◌++◌, length, take, map, Ok, refl, sym, ap, subst, ◌∙◌, append_assoc, arith, inl, inr}
use Rattle.std.specs.Prelude.{◌==◌, ◌&&◌, ◌||◌}
use Rattle.std.specs.List.{flat_map, list_all}
use Rattle.std.specs.Char.{is_ascii_hexdigit}
use Rattle.std.proofs.lemmas.Bool.{true≢false, cases_Bool, not-true, ne_eqb, and_parts, or_parts, le-ltb, eqb-true}
use Rattle.std.proofs.lemmas.List.{append-nil, map_push, length_push, length-map}
use Rattle.sd_dn.specs.declared.Pair.{Pair}
use Rattle.sd_dn.specs.Bytes.{is_type_byte, is_reserved, is_special}
use Rattle.sd_dn.specs.Grammar.{WrittenByte, Plain, Escaped, Hex, written_byte, meant, is_written_byte, is_plain_space, begins_well, with_last, trimmed, WrittenPair, spaces, written_pair, is_type, is_written_pair, pair_of, WrittenRdn, written_pairs, written_rdn, is_written_rdn, rdn_of, WrittenDn, written_rdns, written_dn, is_written_dn, dn_of, begins_with_space, Spells}
use Rattle.sd_dn.specs.Reading.{Progress, Start, BeforeType, InType, BeforeEquals, InValue, grown, run}

-- ---- bytes

-- a byte that passes a test is none that fails it
pub differs : (f : ℕ → Bool) (b n : ℕ) → f b ≡ true → f n ≡ false → (b == n) ≡ false
differs f b n at_b at_n = ne_eqb b n (λ e. true≢false (sym at_b ∙ (ap f e ∙ at_n)))

pub differs_from : (f : ℕ → Bool) (b n : ℕ) → f b ≡ false → f n ≡ true → (b == n) ≡ false
differs_from f b n at_n at_b = ne_eqb b n (λ e. true≢false (sym at_b ∙ (ap f (sym e) ∙ at_n)))

pub hex_not_special : (b : ℕ) → is_ascii_hexdigit b ≡ true → is_special b ≡ false
hex_not_special b h =
    let d : (n : ℕ) → is_ascii_hexdigit n ≡ false → (b == n) ≡ false = λ n fails. differs is_ascii_hexdigit b n h fails in
    rw (d 44 refl, d 43 refl, d 34 refl, d 92 refl, d 60 refl, d 62 refl, d 59 refl, d 61 refl, d 35 refl, d 32 refl) refl

-- ---- values

pub trimmed_space : (ks : List WrittenByte) (x : WrittenByte) → is_plain_space x ≡ true → trimmed (ks ++ x ∷ []) ≡ trimmed ks
trimmed_space [] x h = rw h refl
trimmed_space (k ∷ ks) x h = ap (with_last k) (trimmed_space ks x h)

with_last_push : (k : WrittenByte) (ks : List WrittenByte) (x : WrittenByte) → with_last k (ks ++ x ∷ []) ≡ k ∷ (ks ++ x ∷ [])
with_last_push k [] x = refl
with_last_push k (y ∷ ys) x = refl

pub trimmed_solid : (ks : List WrittenByte) (x : WrittenByte) → is_plain_space x ≡ false → trimmed (ks ++ x ∷ []) ≡ ks ++ x ∷ []
trimmed_solid [] x h = rw h refl
trimmed_solid (k ∷ ks) x h = ap (with_last k) (trimmed_solid ks x h) ∙ with_last_push k ks x

take_with_last : (x : WrittenByte) (xs t : List WrittenByte) → take (length t) (map meant xs) ≡ map meant t → take (length (with_last x t)) (map meant (x ∷ xs)) ≡ map meant (with_last x t)
take_with_last x xs [] h = elim (is_plain_space x) as (λ v. take (length (cond v [] (x ∷ []))) (map meant (x ∷ xs)) ≡ map meant (cond v [] (x ∷ []))) [ true ↦ refl | false ↦ refl ]
take_with_last x xs (y ∷ ys) h = ap (λ (w : List ℕ). meant x ∷ w) h

pub take_trimmed : (xs : List WrittenByte) → take (length (trimmed xs)) (map meant xs) ≡ map meant (trimmed xs)
take_trimmed [] = refl
take_trimmed (x ∷ xs) = take_with_last x xs (trimmed xs) (take_trimmed xs)

-- reading stands in a value whose bytes were written so
abbrev pub in_value : List (List Pair) → List Pair → List ℕ → List WrittenByte → Progress
in_value dn rdn name ks = InValue dn rdn name (map meant ks) (length (trimmed ks))

pub grown_is : (dn : List (List Pair)) (rdn : List Pair) (name : List ℕ) (ks : List WrittenByte) (x : WrittenByte) → is_plain_space x ≡ false → grown dn rdn name (map meant ks) (meant x) ≡ in_value dn rdn name (ks ++ x ∷ [])
grown_is dn rdn name ks x h =
    rw (trimmed_solid ks x h, map_push meant ks x, length_push ks x, length-map ks meant) refl

-- ---- pieces of a pair

spaces_before_type : (n : ℕ) (dn : List (List Pair)) (rdn : List Pair) (rest : List ℕ) → run (BeforeType dn rdn) (spaces n ++ rest) ≡ run (BeforeType dn rdn) rest
spaces_before_type zero dn rdn rest = refl
spaces_before_type (suc n) dn rdn rest = spaces_before_type n dn rdn rest

rest_of_type : (ns name : List ℕ) (dn : List (List Pair)) (rdn : List Pair) (rest : List ℕ) → list_all is_type_byte ns ≡ true → run (InType dn rdn name) (ns ++ rest) ≡ run (InType dn rdn (name ++ ns)) rest
rest_of_type [] name dn rdn rest h = ap (λ (w : List ℕ). run (InType dn rdn w) rest) (sym (append-nil name))
rest_of_type (b ∷ bs) name dn rdn rest h =
    let p = and_parts (is_type_byte b) (list_all is_type_byte bs) h in
    rw p.0 (rest_of_type bs (name ++ b ∷ []) dn rdn rest p.1 ∙ ap (λ (w : List ℕ). run (InType dn rdn w) rest) (append_assoc name (b ∷ []) bs))

whole_type : (name : List ℕ) (dn : List (List Pair)) (rdn : List Pair) (rest : List ℕ) → is_type name ≡ true → run (BeforeType dn rdn) (name ++ rest) ≡ run (InType dn rdn name) rest
whole_type [] dn rdn rest h = absurd cc
whole_type (b ∷ bs) dn rdn rest h =
    let p = and_parts (is_type_byte b) (list_all is_type_byte bs) h in
    rw (differs is_type_byte b 32 p.0 refl, p.0) (rest_of_type bs (b ∷ []) dn rdn rest p.1)

spaces_before_equals : (n : ℕ) (dn : List (List Pair)) (rdn : List Pair) (name rest : List ℕ) → run (BeforeEquals dn rdn name) (spaces n ++ (61 ∷ rest)) ≡ run (in_value dn rdn name []) rest
spaces_before_equals zero dn rdn name rest = refl
spaces_before_equals (suc n) dn rdn name rest = spaces_before_equals n dn rdn name rest

equals : (n : ℕ) (dn : List (List Pair)) (rdn : List Pair) (name rest : List ℕ) → run (InType dn rdn name) (spaces n ++ (61 ∷ rest)) ≡ run (in_value dn rdn name []) rest
equals zero dn rdn name rest = refl
equals (suc n) dn rdn name rest = spaces_before_equals n dn rdn name rest

spaces_behind_equals : (n : ℕ) (dn : List (List Pair)) (rdn : List Pair) (name rest : List ℕ) → run (in_value dn rdn name []) (spaces n ++ rest) ≡ run (in_value dn rdn name []) rest
spaces_behind_equals zero dn rdn name rest = refl
spaces_behind_equals (suc n) dn rdn name rest = spaces_behind_equals n dn rdn name rest

-- ---- bytes of a value

begins_front : (ks : List WrittenByte) (x : WrittenByte) (xs : List WrittenByte) → begins_well (ks ++ x ∷ xs) ≡ begins_well (ks ++ x ∷ [])
begins_front [] x xs = refl
begins_front (k ∷ ks) x xs = refl

plain_space : (dn : List (List Pair)) (rdn : List Pair) (name : List ℕ) (ks : List WrittenByte) (rest : List ℕ) → begins_well (ks ++ Plain 32 ∷ []) ≡ true → run (in_value dn rdn name ks) (32 ∷ rest) ≡ run (in_value dn rdn name (ks ++ Plain 32 ∷ [])) rest
plain_space dn rdn name [] rest h = absurd cc
plain_space dn rdn name (k ∷ ks) rest h =
    rw (trimmed_space (k ∷ ks) (Plain 32) refl, map_push meant ks (Plain 32)) refl

no_hash : (ks : List WrittenByte) (b : ℕ) → begins_well (ks ++ Plain b ∷ []) ≡ true → (ltb (length (map meant ks)) 1 && b == 35) ≡ false
no_hash [] b h = (or_parts (b == 32) (b == 35) (not-true (b == 32 || b == 35) h)).1
no_hash (k ∷ ks) b h = rw (le-ltb (suc (length (map meant ks))) 1 (omega arith)) refl

plain_other : (dn : List (List Pair)) (rdn : List Pair) (name : List ℕ) (ks : List WrittenByte) (b : ℕ) (rest : List ℕ) → is_reserved b ≡ false → (b == 32) ≡ false → begins_well (ks ++ Plain b ∷ []) ≡ true → run (in_value dn rdn name ks) (b ∷ rest) ≡ run (in_value dn rdn name (ks ++ Plain b ∷ [])) rest
plain_other dn rdn name ks b rest ok other begins =
    let d : (n : ℕ) → is_reserved n ≡ true → (b == n) ≡ false = λ n is. differs_from is_reserved b n ok is in
    rw (d 44 refl, d 43 refl, d 92 refl, other, d 34 refl, d 60 refl, d 62 refl, d 59 refl, no_hash ks b begins) (ap (λ (s : Progress). run s rest) (grown_is dn rdn name ks (Plain b) other))

plain : (dn : List (List Pair)) (rdn : List Pair) (name : List ℕ) (ks : List WrittenByte) (b : ℕ) (rest : List ℕ) → is_reserved b ≡ false → begins_well (ks ++ Plain b ∷ []) ≡ true → run (in_value dn rdn name ks) (b ∷ rest) ≡ run (in_value dn rdn name (ks ++ Plain b ∷ [])) rest
plain dn rdn name ks b rest ok begins =
    elim (cases_Bool (b == 32)) [
      | inl e ↦ let is : b ≡ 32 = omega (arith, eqb-true b 32 e) in
          let begins32 : begins_well (ks ++ Plain 32 ∷ []) ≡ true = subst (λ (n : ℕ). begins_well (ks ++ Plain n ∷ []) ≡ true) is begins in
          subst (λ (n : ℕ). run (in_value dn rdn name ks) (n ∷ rest) ≡ run (in_value dn rdn name (ks ++ Plain n ∷ [])) rest) (sym is) (plain_space dn rdn name ks rest begins32)
      | inr e ↦ plain_other dn rdn name ks b rest ok e begins
    ]

escaped : (dn : List (List Pair)) (rdn : List Pair) (name : List ℕ) (ks : List WrittenByte) (b : ℕ) (rest : List ℕ) → is_special b ≡ true → run (in_value dn rdn name ks) (92 ∷ (b ∷ rest)) ≡ run (in_value dn rdn name (ks ++ Escaped b ∷ [])) rest
escaped dn rdn name ks b rest ok = rw ok (ap (λ (s : Progress). run s rest) (grown_is dn rdn name ks (Escaped b) refl))

hex : (dn : List (List Pair)) (rdn : List Pair) (name : List ℕ) (ks : List WrittenByte) (h l : ℕ) (rest : List ℕ) → (is_ascii_hexdigit h && is_ascii_hexdigit l) ≡ true → run (in_value dn rdn name ks) (92 ∷ (h ∷ (l ∷ rest))) ≡ run (in_value dn rdn name (ks ++ Hex h l ∷ [])) rest
hex dn rdn name ks h l rest ok =
    let p = and_parts (is_ascii_hexdigit h) (is_ascii_hexdigit l) ok in
    rw (hex_not_special h p.0, p.0, p.1, p.0) (ap (λ (s : Progress). run s rest) (grown_is dn rdn name ks (Hex h l) refl))

letter : (dn : List (List Pair)) (rdn : List Pair) (name : List ℕ) (ks : List WrittenByte) (x : WrittenByte) (rest : List ℕ) → is_written_byte x ≡ true → begins_well (ks ++ x ∷ []) ≡ true → run (in_value dn rdn name ks) (written_byte x ++ rest) ≡ run (in_value dn rdn name (ks ++ x ∷ [])) rest
letter dn rdn name ks (Plain b) rest ok begins = plain dn rdn name ks b rest (not-true (is_reserved b) ok) begins
letter dn rdn name ks (Escaped b) rest ok begins = escaped dn rdn name ks b rest ok
letter dn rdn name ks (Hex h l) rest ok begins = hex dn rdn name ks h l rest ok

letters : (xs : List WrittenByte) (dn : List (List Pair)) (rdn : List Pair) (name : List ℕ) (ks : List WrittenByte) (rest : List ℕ) → list_all is_written_byte xs ≡ true → begins_well (ks ++ xs) ≡ true → run (in_value dn rdn name ks) (flat_map written_byte xs ++ rest) ≡ run (in_value dn rdn name (ks ++ xs)) rest
letters [] dn rdn name ks rest ok begins = ap (λ (w : List WrittenByte). run (in_value dn rdn name w) rest) (sym (append-nil ks))
letters (x ∷ xs) dn rdn name ks rest ok begins =
    let p = and_parts (is_written_byte x) (list_all is_written_byte xs) ok in
    let joined : (ks ++ x ∷ []) ++ xs ≡ ks ++ x ∷ xs = append_assoc ks (x ∷ []) xs in
    let first = letter dn rdn name ks x (flat_map written_byte xs ++ rest) p.0 (sym (begins_front ks x xs) ∙ begins) in
    let more = letters xs dn rdn name (ks ++ x ∷ []) rest p.1 (ap begins_well joined ∙ begins) in
    ap (run (in_value dn rdn name ks)) (append_assoc (written_byte x) (flat_map written_byte xs) rest) ∙ (first ∙ (more ∙ ap (λ (w : List WrittenByte). run (in_value dn rdn name w) rest) joined))

-- ---- pairs, RDNs, DNs

regrouped : (p : WrittenPair) (rest : List ℕ) → written_pair p ++ rest ≡ spaces p.lead ++ (p.name ++ (spaces p.before ++ (61 ∷ (spaces p.after ++ (flat_map written_byte p.value ++ rest)))))
regrouped p rest = simp append_assoc

whole_pair : (dn : List (List Pair)) (rdn : List Pair) (p : WrittenPair) (rest : List ℕ) → is_written_pair p ≡ true → run (BeforeType dn rdn) (written_pair p ++ rest) ≡ run (in_value dn rdn p.name p.value) rest
whole_pair dn rdn p rest ok =
    let a = and_parts (is_type p.name) (list_all is_written_byte p.value && begins_well p.value) ok in
    let b = and_parts (list_all is_written_byte p.value) (begins_well p.value) a.1 in
    ap (run (BeforeType dn rdn)) (regrouped p rest)
    ∙ (spaces_before_type p.lead dn rdn _
    ∙ (whole_type p.name dn rdn _ a.0
    ∙ (equals p.before dn rdn p.name _
    ∙ (spaces_behind_equals p.after dn rdn p.name _
    ∙ letters p.value dn rdn p.name [] rest b.0 b.1))))

plus : (dn : List (List Pair)) (rdn : List Pair) (p : WrittenPair) (rest : List ℕ) → run (in_value dn rdn p.name p.value) (43 ∷ rest) ≡ run (BeforeType dn (rdn ++ pair_of p ∷ [])) rest
plus dn rdn p rest = ap (λ (w : List ℕ). run (BeforeType dn (rdn ++ record { name = p.name; value = w } ∷ [])) rest) (take_trimmed p.value)

comma : (dn : List (List Pair)) (rdn : List Pair) (p : WrittenPair) (rest : List ℕ) → run (in_value dn rdn p.name p.value) (44 ∷ rest) ≡ run (BeforeType (dn ++ (rdn ++ pair_of p ∷ []) ∷ []) []) rest
comma dn rdn p rest = ap (λ (w : List ℕ). run (BeforeType (dn ++ (rdn ++ record { name = p.name; value = w } ∷ []) ∷ []) []) rest) (take_trimmed p.value)

whole_pairs : (ps : List WrittenPair) (dn : List (List Pair)) (rdn : List Pair) (rest : List ℕ) → list_all is_written_pair ps ≡ true → run (BeforeType dn rdn) (written_pairs ps ++ rest) ≡ run (BeforeType dn (rdn ++ map pair_of ps)) rest
whole_pairs [] dn rdn rest ok = ap (λ (w : List Pair). run (BeforeType dn w) rest) (sym (append-nil rdn))
whole_pairs (p ∷ ps) dn rdn rest ok =
    let a = and_parts (is_written_pair p) (list_all is_written_pair ps) ok in
    let apart : written_pairs (p ∷ ps) ++ rest ≡ written_pair p ++ (43 ∷ (written_pairs ps ++ rest)) = append_assoc (written_pair p ++ 43 ∷ []) (written_pairs ps) rest ∙ append_assoc (written_pair p) (43 ∷ []) (written_pairs ps ++ rest) in
    ap (run (BeforeType dn rdn)) apart
    ∙ (whole_pair dn rdn p _ a.0
    ∙ (plus dn rdn p (written_pairs ps ++ rest)
    ∙ (whole_pairs ps dn (rdn ++ pair_of p ∷ []) rest a.1
    ∙ ap (λ (w : List Pair). run (BeforeType dn w) rest) (append_assoc rdn (pair_of p ∷ []) (map pair_of ps)))))

whole_rdn : (dn : List (List Pair)) (r : WrittenRdn) (rest : List ℕ) → is_written_rdn r ≡ true → run (BeforeType dn []) (written_rdn r ++ rest) ≡ run (in_value dn (map pair_of r.pairs) r.last.name r.last.value) rest
whole_rdn dn r rest ok =
    let a = and_parts (list_all is_written_pair r.pairs) (is_written_pair r.last) ok in
    ap (run (BeforeType dn [])) (append_assoc (written_pairs r.pairs) (written_pair r.last) rest)
    ∙ (whole_pairs r.pairs dn [] (written_pair r.last ++ rest) a.0
    ∙ whole_pair dn (map pair_of r.pairs) r.last rest a.1)

whole_rdns : (rs : List WrittenRdn) (dn : List (List Pair)) (rest : List ℕ) → list_all is_written_rdn rs ≡ true → run (BeforeType dn []) (written_rdns rs ++ rest) ≡ run (BeforeType (dn ++ map rdn_of rs) []) rest
whole_rdns [] dn rest ok = ap (λ (w : List (List Pair)). run (BeforeType w []) rest) (sym (append-nil dn))
whole_rdns (r ∷ rs) dn rest ok =
    let a = and_parts (is_written_rdn r) (list_all is_written_rdn rs) ok in
    let apart : written_rdns (r ∷ rs) ++ rest ≡ written_rdn r ++ (44 ∷ (written_rdns rs ++ rest)) = append_assoc (written_rdn r ++ 44 ∷ []) (written_rdns rs) rest ∙ append_assoc (written_rdn r) (44 ∷ []) (written_rdns rs ++ rest) in
    ap (run (BeforeType dn [])) apart
    ∙ (whole_rdn dn r _ a.0
    ∙ (comma dn (map pair_of r.pairs) r.last (written_rdns rs ++ rest)
    ∙ (whole_rdns rs (dn ++ rdn_of r ∷ []) rest a.1
    ∙ ap (λ (w : List (List Pair)). run (BeforeType w []) rest) (append_assoc dn (rdn_of r ∷ []) (map rdn_of rs)))))

whole_dn : (d : WrittenDn) → is_written_dn d ≡ true → run (BeforeType [] []) (written_dn d) ≡ Ok (dn_of d)
whole_dn d ok =
    let a = and_parts (list_all is_written_rdn d.rdns) (is_written_rdn d.last) ok in
    whole_rdns d.rdns [] (written_rdn d.last) a.0
    ∙ (ap (run (BeforeType (map rdn_of d.rdns) [])) (sym (append-nil (written_rdn d.last)))
    ∙ whole_rdn (map rdn_of d.rdns) d.last [] a.1)

from_start : (text : List ℕ) (dn : List (List Pair)) → begins_with_space text ≡ false → run (BeforeType [] []) text ≡ Ok dn → run (Start [] []) text ≡ Ok dn
from_start [] dn first h = absurd cc
from_start (b ∷ bs) dn first h = rw first at h

pub is_read : (text : List ℕ) (dn : List (List Pair)) → Spells text dn → run (Start [] []) text ≡ Ok dn
is_read text dn (inl e) = rw (e.0, e.1) refl
is_read text dn (inr e) = from_start text dn e.1.no_space_first (ap (run (BeforeType [] [])) e.1.text_is ∙ (whole_dn e.0 e.1.valid ∙ ap (λ (x : List (List Pair)). Ok x) (sym e.1.meaning)))
