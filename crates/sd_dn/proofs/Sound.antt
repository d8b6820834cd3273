-- What is read is spelled so.
use Rattle.std.proofs.Common.{◌≡◌, ℕ, zero, suc, ◌+◌, Bool, true, false, cond, ltb, List, [], ◌∷◌, ◌++◌, length, take, map, Option, Some, None, Result, Ok, Err, refl, sym, ap, subst, ◌∙◌, append_assoc, inl, inr, ◌⊎◌}
use Rattle.std.specs.Prelude.{◌==◌, ◌&&◌, ◌||◌}
use Rattle.std.specs.Option.{option_map_or}
use Rattle.std.specs.List.{flat_map, list_all}
use Rattle.std.specs.Char.{is_ascii_hexdigit}
use Rattle.std.proofs.lemmas.Bool.{and_parts, or_parts, or_from, and_from, eqb-true, not_from_false}
use Rattle.std.proofs.lemmas.List.{append-nil, map_push, length_push, length-map}
use Rattle.std.proofs.lemmas.List.Concat.{flat_map-append}
use Rattle.sd_dn.specs.declared.Pair.{Pair}
use Rattle.sd_dn.specs.Bytes.{is_type_byte, is_reserved, is_special}
use Rattle.sd_dn.specs.Grammar.{WrittenByte, Plain, Escaped, Hex, written_byte, meant, is_written_byte, is_plain_space, begins_well, trimmed, WrittenPair, spaces, written_pair, is_type, is_written_pair, pair_of, last_pair_of, WrittenRdn, written_pairs, written_rdn, is_written_rdn, rdn_of, WrittenDn, written_rdns, written_dn, is_written_dn, dn_of, begins_with_space, Spells}
use Rattle.sd_dn.specs.Reading.{Progress, Start, BeforeType, InType, BeforeEquals, InValue, InEscape, InHex, type_begun, type_ended, spaced, grown, pair_made, pair_ended, rdn_ended, value_taken, step, run}
use Rattle.sd_dn.proofs.Complete.{differs, trimmed_space, trimmed_solid, take_trimmed}

-- ---- what stands behind a place of the text

-- whole RDNs and whole pairs, each with its separator
pub record Front (dn : List (List Pair)) (rdn : List Pair) (front : List ℕ) : Type 0 where
  pub rdns : List WrittenRdn
  pub pairs : List WrittenPair
  pub rdns_ok : list_all is_written_rdn rdns ≡ true
  pub pairs_ok : list_all is_written_pair pairs ≡ true
  pub dn_is : dn ≡ map rdn_of rdns
  pub rdn_is : rdn ≡ map pair_of pairs
  pub text : front ≡ written_rdns rdns ++ written_pairs pairs

-- spaces before a type
pub record Leading (dn : List (List Pair)) (rdn : List Pair) (prefix : List ℕ) : Type 0 where
  pub front : List ℕ
  pub is_front : Front dn rdn front
  pub lead : ℕ
  pub text : prefix ≡ front ++ spaces lead

-- a type, and spaces behind it
pub record Typed (dn : List (List Pair)) (rdn : List Pair) (name : List ℕ) (before : ℕ) (prefix : List ℕ) : Type 0 where
  pub front : List ℕ
  pub is_front : Front dn rdn front
  pub lead : ℕ
  pub ok : is_type name ≡ true
  pub text : prefix ≡ (front ++ spaces lead) ++ (name ++ spaces before)

-- a pair so far
pub record Valued (dn : List (List Pair)) (rdn : List Pair) (name value : List ℕ) (solid : ℕ) (prefix : List ℕ) : Type 0 where
  pub front : List ℕ
  pub is_front : Front dn rdn front
  pub pair : WrittenPair
  pub ok : is_written_pair pair ≡ true
  pub name_is : name ≡ pair.name
  pub value_is : value ≡ map meant pair.value
  pub solid_is : solid ≡ length (trimmed pair.value)
  pub text : prefix ≡ front ++ written_pair pair

-- a pair so far, and a backslash with what follows it
pub record Opened (dn : List (List Pair)) (rdn : List Pair) (name value : List ℕ) (opened : List ℕ) (prefix : List ℕ) : Type 0 where
  pub solid : ℕ
  pub before : List ℕ
  pub valued : Valued dn rdn name value solid before
  pub text : prefix ≡ before ++ opened

abbrev pub After : Progress → List ℕ → Type 0
After (Start dn rdn) prefix = (dn ≡ []) × (rdn ≡ []) × (prefix ≡ [])
After (BeforeType dn rdn) prefix = Leading dn rdn prefix
After (InType dn rdn name) prefix = Typed dn rdn name 0 prefix
After (BeforeEquals dn rdn name) prefix = (before : ℕ) × Typed dn rdn name before prefix
After (InValue dn rdn name value solid) prefix = Valued dn rdn name value solid prefix
After (InEscape dn rdn name value) prefix = Opened dn rdn name value (92 ∷ []) prefix
After (InHex dn rdn name value high) prefix = Opened dn rdn name value (92 ∷ high ∷ []) prefix × (is_ascii_hexdigit high ≡ true)

-- ---- lists

all_push : {X : Type 0} (f : X → Bool) (xs : List X) (x : X) → list_all f xs ≡ true → f x ≡ true → list_all f (xs ++ x ∷ []) ≡ true
all_push f [] x h g = rw g refl
all_push f (y ∷ ys) x h g =
    let p = and_parts (f y) (list_all f ys) h in
    and_from (f y) (list_all f (ys ++ x ∷ [])) p.0 (all_push f ys x p.1 g)

flat_push : {X : Type 0} (f : X → List ℕ) (xs : List X) (x : X) → flat_map f (xs ++ x ∷ []) ≡ flat_map f xs ++ f x
flat_push f xs x = flat_map-append f xs (x ∷ []) ∙ ap (λ (w : List ℕ). flat_map f xs ++ w) (append-nil (f x))

spaces_more : (n : ℕ) → spaces n ++ 32 ∷ [] ≡ spaces (suc n)
spaces_more zero = refl
spaces_more (suc n) = ap (λ (w : List ℕ). 32 ∷ w) (spaces_more n)

-- one more byte behind a list that is known
more : (a b : List ℕ) (x : List ℕ) → a ≡ b → a ++ x ≡ b ++ x
more a b x e = ap (λ (w : List ℕ). w ++ x) e

-- ---- before and in a type

at_start : (dn : List (List Pair)) (rdn : List Pair) (prefix : List ℕ) → After (Start dn rdn) prefix → Leading dn rdn prefix
at_start dn rdn prefix a = record { front = []; is_front = record { rdns = []; pairs = []; rdns_ok = refl; pairs_ok = refl; dn_is = a.0; rdn_is = a.1; text = refl }; lead = 0; text = a.2 }

lead_more : (dn : List (List Pair)) (rdn : List Pair) (prefix : List ℕ) → Leading dn rdn prefix → Leading dn rdn (prefix ++ 32 ∷ [])
lead_more dn rdn prefix a = record {
  front = a.front;
  is_front = a.is_front;
  lead = suc a.lead;
  text = more _ _ (32 ∷ []) a.text ∙ (append_assoc a.front (spaces a.lead) (32 ∷ []) ∙ ap (λ (w : List ℕ). a.front ++ w) (spaces_more a.lead));
}

type_begins : (dn : List (List Pair)) (rdn : List Pair) (prefix : List ℕ) (b : ℕ) → Leading dn rdn prefix → is_type_byte b ≡ true → Typed dn rdn (b ∷ []) 0 (prefix ++ b ∷ [])
type_begins dn rdn prefix b a ok = record {
  front = a.front;
  is_front = a.is_front;
  lead = a.lead;
  ok = rw ok refl;
  text = more _ _ (b ∷ []) a.text;
}

type_push : (name : List ℕ) (b : ℕ) → is_type name ≡ true → is_type_byte b ≡ true → is_type (name ++ b ∷ []) ≡ true
type_push [] b h ok = absurd cc
type_push (c ∷ cs) b h ok =
    let p = and_parts (is_type_byte c) (list_all is_type_byte cs) h in
    and_from (is_type_byte c) (list_all is_type_byte (cs ++ b ∷ [])) p.0 (all_push is_type_byte cs b p.1 ok)

type_more : (dn : List (List Pair)) (rdn : List Pair) (name prefix : List ℕ) (b : ℕ) → Typed dn rdn name 0 prefix → is_type_byte b ≡ true → Typed dn rdn (name ++ b ∷ []) 0 (prefix ++ b ∷ [])
type_more dn rdn name prefix b a ok = record {
  front = a.front;
  is_front = a.is_front;
  lead = a.lead;
  ok = type_push name b a.ok ok;
  text = more _ _ (b ∷ []) a.text ∙ simp (append_assoc, append-nil);
}

space_more : (dn : List (List Pair)) (rdn : List Pair) (name prefix : List ℕ) (before : ℕ) → Typed dn rdn name before prefix → Typed dn rdn name (suc before) (prefix ++ 32 ∷ [])
space_more dn rdn name prefix before a = record {
  front = a.front;
  is_front = a.is_front;
  lead = a.lead;
  ok = a.ok;
  text = more _ _ (32 ∷ []) a.text ∙ (append_assoc (a.front ++ spaces a.lead) (name ++ spaces before) (32 ∷ []) ∙ ap (λ (w : List ℕ). (a.front ++ spaces a.lead) ++ w) (append_assoc name (spaces before) (32 ∷ []) ∙ ap (λ (w : List ℕ). name ++ w) (spaces_more before)));
}

equals_come : (dn : List (List Pair)) (rdn : List Pair) (name prefix : List ℕ) (before : ℕ) → Typed dn rdn name before prefix → Valued dn rdn name [] 0 (prefix ++ 61 ∷ [])
equals_come dn rdn name prefix before a = record {
  front = a.front;
  is_front = a.is_front;
  pair = record { lead = a.lead; name = name; before = before; after = 0; value = [] };
  ok = rw a.ok refl;
  name_is = refl;
  value_is = refl;
  solid_is = refl;
  text = more _ _ (61 ∷ []) a.text ∙ simp append_assoc;
}

-- ---- in a value

-- a pair with one more byte of its value
abbrev longer : WrittenPair → WrittenByte → WrittenPair
longer p x = record { lead = p.lead; name = p.name; before = p.before; after = p.after; value = p.value ++ x ∷ [] }

longer_text : (p : WrittenPair) (x : WrittenByte) → written_pair p ++ written_byte x ≡ written_pair (longer p x)
longer_text p x = rw (flat_push written_byte p.value x) (simp append_assoc)

longer_ok : (p : WrittenPair) (x : WrittenByte) → is_written_pair p ≡ true → is_written_byte x ≡ true → begins_well (p.value ++ x ∷ []) ≡ true → is_written_pair (longer p x) ≡ true
longer_ok p x h ok begins =
    let a = and_parts (is_type p.name) (list_all is_written_byte p.value && begins_well p.value) h in
    let b = and_parts (list_all is_written_byte p.value) (begins_well p.value) a.1 in
    and_from (is_type p.name) (list_all is_written_byte (p.value ++ x ∷ []) && begins_well (p.value ++ x ∷ [])) a.0
    (and_from (list_all is_written_byte (p.value ++ x ∷ [])) (begins_well (p.value ++ x ∷ [])) (all_push is_written_byte p.value x b.0 ok) begins)

grows : (dn : List (List Pair)) (rdn : List Pair) (name value : List ℕ) (solid : ℕ) (prefix : List ℕ) (x : WrittenByte) → (a : Valued dn rdn name value solid prefix) → is_written_byte x ≡ true → is_plain_space x ≡ false → begins_well (a.pair.value ++ x ∷ []) ≡ true
    → Valued dn rdn name (value ++ meant x ∷ []) (length value + 1) (prefix ++ written_byte x)
grows dn rdn name value solid prefix x a ok solid_byte begins = record {
  front = a.front;
  is_front = a.is_front;
  pair = longer a.pair x;
  ok = longer_ok a.pair x a.ok ok begins;
  name_is = a.name_is;
  value_is = more _ _ (meant x ∷ []) a.value_is ∙ sym (map_push meant a.pair.value x);
  solid_is = ap (λ (w : List ℕ). length w + 1) a.value_is ∙ rw (trimmed_solid a.pair.value x solid_byte, length_push a.pair.value x, length-map a.pair.value meant) refl;
  text = more _ _ (written_byte x) a.text ∙ (append_assoc a.front (written_pair a.pair) (written_byte x) ∙ ap (λ (w : List ℕ). a.front ++ w) (longer_text a.pair x));
}

-- what a value that holds a byte begins with stays
begins_stays : (k : WrittenByte) (ks : List WrittenByte) (x : WrittenByte) (p : WrittenPair) → p.value ≡ k ∷ ks → is_written_pair p ≡ true → begins_well (p.value ++ x ∷ []) ≡ true
begins_stays k ks x p e h =
    let a = and_parts (is_type p.name) (list_all is_written_byte p.value && begins_well p.value) h in
    let b = and_parts (list_all is_written_byte p.value) (begins_well p.value) a.1 in
    ap (λ (w : List WrittenByte). begins_well (w ++ x ∷ [])) e ∙ (sym (ap begins_well e) ∙ b.1)

-- a pair without a value, and one more space behind its `=`
abbrev wider : WrittenPair → WrittenPair
wider p = record { lead = p.lead; name = p.name; before = p.before; after = suc p.after; value = [] }

wider_text : (p : WrittenPair) → p.value ≡ [] → written_pair p ++ 32 ∷ [] ≡ written_pair (wider p)
wider_text p e =
    let F : List ℕ → List ℕ = λ w. spaces p.lead ++ (p.name ++ (spaces p.before ++ (61 ∷ w))) in
    let apart : written_pair p ++ 32 ∷ [] ≡ F (spaces p.after ++ 32 ∷ []) = rw e (simp (append_assoc, append-nil)) in
    apart ∙ ap F (spaces_more p.after ∙ sym (append-nil (spaces (suc p.after))))

wider_ok : (p : WrittenPair) → is_written_pair p ≡ true → is_written_pair (wider p) ≡ true
wider_ok p h =
    let a = and_parts (is_type p.name) (list_all is_written_byte p.value && begins_well p.value) h in
    and_from (is_type p.name) true a.0 refl

space_skipped : (dn : List (List Pair)) (rdn : List Pair) (name value : List ℕ) (solid : ℕ) (prefix : List ℕ) → (a : Valued dn rdn name value solid prefix) → a.pair.value ≡ [] → Valued dn rdn name (spaced value) solid (prefix ++ 32 ∷ [])
space_skipped dn rdn name value solid prefix a e = record {
  front = a.front;
  is_front = a.is_front;
  pair = wider a.pair;
  ok = wider_ok a.pair a.ok;
  name_is = a.name_is;
  value_is = ap spaced (a.value_is ∙ ap (λ (w : List WrittenByte). map meant w) e);
  solid_is = a.solid_is ∙ ap (λ (w : List WrittenByte). length (trimmed w)) e;
  text = more _ _ (32 ∷ []) a.text ∙ (append_assoc a.front (written_pair a.pair) (32 ∷ []) ∙ ap (λ (w : List ℕ). a.front ++ w) (wider_text a.pair e));
}

spaced_push : (k : WrittenByte) (ks : List WrittenByte) → spaced (map meant (k ∷ ks)) ≡ map meant ((k ∷ ks) ++ Plain 32 ∷ [])
spaced_push k ks = sym (map_push meant (k ∷ ks) (Plain 32))

space_kept : (dn : List (List Pair)) (rdn : List Pair) (name value : List ℕ) (solid : ℕ) (prefix : List ℕ) (k : WrittenByte) (ks : List WrittenByte) → (a : Valued dn rdn name value solid prefix) → a.pair.value ≡ k ∷ ks → Valued dn rdn name (spaced value) solid (prefix ++ 32 ∷ [])
space_kept dn rdn name value solid prefix k ks a e = record {
  front = a.front;
  is_front = a.is_front;
  pair = longer a.pair (Plain 32);
  ok = longer_ok a.pair (Plain 32) a.ok refl (begins_stays k ks (Plain 32) a.pair e a.ok);
  name_is = a.name_is;
  value_is = ap spaced (a.value_is ∙ ap (λ (w : List WrittenByte). map meant w) e) ∙ (spaced_push k ks ∙ ap (λ (w : List WrittenByte). map meant (w ++ Plain 32 ∷ [])) (sym e));
  solid_is = a.solid_is ∙ ap length (sym (trimmed_space a.pair.value (Plain 32) refl));
  text = more _ _ (32 ∷ []) a.text ∙ (append_assoc a.front (written_pair a.pair) (32 ∷ []) ∙ ap (λ (w : List ℕ). a.front ++ w) (longer_text a.pair (Plain 32)));
}

-- a list is empty, or has a first
nil_or_cons : {X : Type 0} (xs : List X) → (xs ≡ []) ⊎ ((x : X) × (rest : List X) × (xs ≡ x ∷ rest))
nil_or_cons [] = inl refl
nil_or_cons (x ∷ xs) = inr (x, xs, refl)

space_comes : (dn : List (List Pair)) (rdn : List Pair) (name value : List ℕ) (solid : ℕ) (prefix : List ℕ) → Valued dn rdn name value solid prefix → Valued dn rdn name (spaced value) solid (prefix ++ 32 ∷ [])
space_comes dn rdn name value solid prefix a =
    elim (nil_or_cons a.pair.value) [
      | inl e ↦ space_skipped dn rdn name value solid prefix a e
      | inr e ↦ space_kept dn rdn name value solid prefix e.0 e.1 a e.2
    ]

-- ---- a pair ends

made_is : (dn : List (List Pair)) (rdn : List Pair) (name value : List ℕ) (solid : ℕ) (prefix : List ℕ) → (a : Valued dn rdn name value solid prefix) → pair_made name (take solid value) ≡ pair_of a.pair
made_is dn rdn name value solid prefix a =
    let taken : take solid value ≡ map meant (trimmed a.pair.value) = rw (a.solid_is, a.value_is) (take_trimmed a.pair.value) in
    ap (λ (n : List ℕ). pair_made n (take solid value)) a.name_is ∙ ap (λ (v : List ℕ). pair_made a.pair.name v) taken

rdn_grown : (dn : List (List Pair)) (rdn : List Pair) (name value : List ℕ) (solid : ℕ) (prefix : List ℕ) → (a : Valued dn rdn name value solid prefix) → rdn ++ pair_made name (take solid value) ∷ [] ≡ map pair_of a.is_front.pairs ++ pair_of a.pair ∷ []
rdn_grown dn rdn name value solid prefix a =
    ap (λ (p : Pair). rdn ++ p ∷ []) (made_is dn rdn name value solid prefix a) ∙ ap (λ (r : List Pair). r ++ pair_of a.pair ∷ []) a.is_front.rdn_is

plus_comes : (dn : List (List Pair)) (rdn : List Pair) (name value : List ℕ) (solid : ℕ) (prefix : List ℕ) → Valued dn rdn name value solid prefix → Front dn (rdn ++ pair_made name (take solid value) ∷ []) (prefix ++ 43 ∷ [])
plus_comes dn rdn name value solid prefix a =
    let f = a.is_front in
    record {
      rdns = f.rdns;
      pairs = f.pairs ++ a.pair ∷ [];
      rdns_ok = f.rdns_ok;
      pairs_ok = all_push is_written_pair f.pairs a.pair f.pairs_ok a.ok;
      dn_is = f.dn_is;
      rdn_is = rdn_grown dn rdn name value solid prefix a ∙ sym (map_push pair_of f.pairs a.pair);
      text = more _ _ (43 ∷ []) (a.text ∙ more _ _ (written_pair a.pair) f.text) ∙ rw (flat_push (λ (p : WrittenPair). written_pair p ++ 43 ∷ []) f.pairs a.pair) (simp append_assoc);
    }

-- the RDN that the pair ends
abbrev rdn_made : List WrittenPair → WrittenPair → WrittenRdn
rdn_made pairs last = record { pairs = pairs; last = last }

comma_comes : (dn : List (List Pair)) (rdn : List Pair) (name value : List ℕ) (solid : ℕ) (prefix : List ℕ) → Valued dn rdn name value solid prefix → Front (dn ++ (rdn ++ pair_made name (take solid value) ∷ []) ∷ []) [] (prefix ++ 44 ∷ [])
comma_comes dn rdn name value solid prefix a =
    let f = a.is_front in
    let r = rdn_made f.pairs a.pair in
    record {
      rdns = f.rdns ++ r ∷ [];
      pairs = [];
      rdns_ok = all_push is_written_rdn f.rdns r f.rdns_ok (and_from (list_all is_written_pair f.pairs) (is_written_pair a.pair) f.pairs_ok a.ok);
      pairs_ok = refl;
      dn_is = ap (λ (w : List Pair). dn ++ w ∷ []) (rdn_grown dn rdn name value solid prefix a) ∙ (ap (λ (w : List (List Pair)). w ++ rdn_of r ∷ []) f.dn_is ∙ sym (map_push rdn_of f.rdns r));
      rdn_is = refl;
      text = more _ _ (44 ∷ []) (a.text ∙ more _ _ (written_pair a.pair) f.text) ∙ rw (flat_push (λ (q : WrittenRdn). written_rdn q ++ 44 ∷ []) f.rdns r) (simp (append_assoc, append-nil));
    }

-- at the end of the text
pub record Ended (text : List ℕ) (dn : List (List Pair)) (d : WrittenDn) : Type 0 where
  pub valid : is_written_dn d ≡ true
  pub text_is : text ≡ written_dn d
  pub meaning : dn ≡ dn_of d

last_made : (dn : List (List Pair)) (rdn : List Pair) (name value : List ℕ) (solid : ℕ) (prefix : List ℕ) → (a : Valued dn rdn name value solid prefix) → pair_made name value ≡ last_pair_of a.pair
last_made dn rdn name value solid prefix a = ap (λ (n : List ℕ). pair_made n value) a.name_is ∙ ap (λ (v : List ℕ). pair_made a.pair.name v) a.value_is

abbrev dn_made : List WrittenRdn → List WrittenPair → WrittenPair → WrittenDn
dn_made rdns pairs last = record { rdns = rdns; last = rdn_made pairs last }

ends : (dn : List (List Pair)) (rdn : List Pair) (name value : List ℕ) (solid : ℕ) (prefix : List ℕ) → (a : Valued dn rdn name value solid prefix) → Ended prefix (dn ++ (rdn ++ pair_made name value ∷ []) ∷ []) (dn_made a.is_front.rdns a.is_front.pairs a.pair)
ends dn rdn name value solid prefix a =
    let f = a.is_front in
    record {
      valid = and_from (list_all is_written_rdn f.rdns) (is_written_rdn (rdn_made f.pairs a.pair)) f.rdns_ok (and_from (list_all is_written_pair f.pairs) (is_written_pair a.pair) f.pairs_ok a.ok);
      text_is = a.text ∙ (more _ _ (written_pair a.pair) f.text ∙ append_assoc (written_rdns f.rdns) (written_pairs f.pairs) (written_pair a.pair));
      meaning = ap (λ (p : Pair). dn ++ (rdn ++ p ∷ []) ∷ []) (last_made dn rdn name value solid prefix a)
          ∙ (ap (λ (r : List Pair). dn ++ (r ++ last_pair_of a.pair ∷ []) ∷ []) f.rdn_is
          ∙ ap (λ (w : List (List Pair)). w ++ (map pair_of f.pairs ++ last_pair_of a.pair ∷ []) ∷ []) f.dn_is);
    }

-- ---- one step

some_is : (x y : Progress) → Some x ≡ Some y → x ≡ y
some_is x y e = cc

-- which way a test went
chosen : (c : Bool) (x y z : Option Progress) → cond c x y ≡ z → ((c ≡ true) × (x ≡ z)) ⊎ ((c ≡ false) × (y ≡ z))
chosen true x y z e = inl (refl, e)
chosen false x y z e = inr (refl, e)

guarded : (c : Bool) (x y : Progress) → cond c (Some x) None ≡ Some y → (c ≡ true) × (x ≡ y)
guarded true x y e = (refl, cc)
guarded false x y e = absurd cc

arrives : (s next : Progress) (text : List ℕ) → s ≡ next → After s text → After next text
arrives s next text e a = subst (λ (p : Progress). After p text) e a

type_step : (dn : List (List Pair)) (rdn : List Pair) (b : ℕ) (next : Progress) (prefix : List ℕ) → Leading dn rdn prefix → type_begun dn rdn b ≡ Some next → After next (prefix ++ b ∷ [])
type_step dn rdn b next prefix a e =
    let g = guarded (is_type_byte b) (InType dn rdn (b ∷ [])) next e in
    arrives _ next (prefix ++ b ∷ []) g.1 (type_begins dn rdn prefix b a g.0)

byte_is : (b n : ℕ) → (b == n) ≡ true → b ≡ n
byte_is b n e = eqb-true b n e

-- the text that has come is known where the byte is
with_byte : (s : Progress) (prefix : List ℕ) (b n : ℕ) → (b == n) ≡ true → After s (prefix ++ n ∷ []) → After s (prefix ++ b ∷ [])
with_byte s prefix b n e a = subst (λ (k : ℕ). After s (prefix ++ k ∷ [])) (sym (byte_is b n e)) a

end_step : (dn : List (List Pair)) (rdn : List Pair) (name : List ℕ) (before b : ℕ) (next : Progress) (prefix : List ℕ) → Typed dn rdn name before prefix → type_ended dn rdn name b ≡ Some next → After next (prefix ++ b ∷ [])
end_step dn rdn name before b next prefix a e =
    elim (chosen (b == 61) (Some (InValue dn rdn name [] 0)) (cond (b == 32) (Some (BeforeEquals dn rdn name)) None) (Some next) e) [
      | inl h ↦ arrives _ next (prefix ++ b ∷ []) (some_is _ _ h.1) (with_byte (InValue dn rdn name [] 0) prefix b 61 h.0 (equals_come dn rdn name prefix before a))
      | inr h ↦ let g = guarded (b == 32) (BeforeEquals dn rdn name) next h.1 in
          arrives _ next (prefix ++ b ∷ []) g.1 (with_byte (BeforeEquals dn rdn name) prefix b 32 g.0 (suc before, space_more dn rdn name prefix before a))
    ]

-- a value without a byte doesn't begin with `#` or a space
begins_plain : (ks : List WrittenByte) (b : ℕ) → begins_well ks ≡ true → (b == 32) ≡ false → (ltb (length (map meant ks)) 1 && b == 35) ≡ false → begins_well (ks ++ Plain b ∷ []) ≡ true
begins_plain [] b h space hash = not_from_false (b == 32 || b == 35) (or_from (b == 32) (b == 35) space hash)
begins_plain (k ∷ ks) b h space hash = h

plain_step : (dn : List (List Pair)) (rdn : List Pair) (name value : List ℕ) (solid b : ℕ) (prefix : List ℕ) → Valued dn rdn name value solid prefix → (b == 32) ≡ false → (is_reserved b || (ltb (length value) 1 && b == 35)) ≡ false → Valued dn rdn name (value ++ b ∷ []) (length value + 1) (prefix ++ b ∷ [])
plain_step dn rdn name value solid b prefix a space other =
    let o = or_parts (is_reserved b) (ltb (length value) 1 && b == 35) other in
    let p = and_parts (is_type a.pair.name) (list_all is_written_byte a.pair.value && begins_well a.pair.value) a.ok in
    let q = and_parts (list_all is_written_byte a.pair.value) (begins_well a.pair.value) p.1 in
    let hash : (ltb (length (map meant a.pair.value)) 1 && b == 35) ≡ false = subst (λ (v : List ℕ). (ltb (length v) 1 && b == 35) ≡ false) a.value_is o.1 in
    grows dn rdn name value solid prefix (Plain b) a (not_from_false (is_reserved b) o.0) space (begins_plain a.pair.value b q.1 space hash)

value_step : (dn : List (List Pair)) (rdn : List Pair) (name value : List ℕ) (solid b : ℕ) (next : Progress) (prefix : List ℕ) → Valued dn rdn name value solid prefix → value_taken dn rdn name value solid b ≡ Some next → After next (prefix ++ b ∷ [])
value_step dn rdn name value solid b next prefix a e =
    elim (chosen (b == 32) (Some (InValue dn rdn name (spaced value) solid)) (cond (is_reserved b || (ltb (length value) 1 && b == 35)) None (Some (grown dn rdn name value b))) (Some next) e) [
      | inl h ↦ arrives _ next (prefix ++ b ∷ []) (some_is _ _ h.1) (with_byte (InValue dn rdn name (spaced value) solid) prefix b 32 h.0 (space_comes dn rdn name value solid prefix a))
      | inr h ↦ elim (chosen (is_reserved b || (ltb (length value) 1 && b == 35)) None (Some (grown dn rdn name value b)) (Some next) h.1) [
        | inl g ↦ let none : None ≡ Some next = g.1 in absurd cc
        | inr g ↦ arrives _ next (prefix ++ b ∷ []) (some_is _ _ g.1) (plain_step dn rdn name value solid b prefix a h.0 g.0)
      ]
    ]

in_value_step : (dn : List (List Pair)) (rdn : List Pair) (name value : List ℕ) (solid b : ℕ) (next : Progress) (prefix : List ℕ) → Valued dn rdn name value solid prefix → step (InValue dn rdn name value solid) b ≡ Some next → After next (prefix ++ b ∷ [])
in_value_step dn rdn name value solid b next prefix a e =
    let on_plus = Some (pair_ended dn rdn name value solid) in
    let on_backslash = Some (InEscape dn rdn name value) in
    elim (chosen (b == 44) (Some (rdn_ended dn rdn name value solid)) (cond (b == 43) on_plus (cond (b == 92) on_backslash (value_taken dn rdn name value solid b))) (Some next) e) [
      | inl h ↦ arrives _ next (prefix ++ b ∷ []) (some_is _ _ h.1) (with_byte (rdn_ended dn rdn name value solid) prefix b 44 h.0
          (record { front = prefix ++ 44 ∷ []; is_front = comma_comes dn rdn name value solid prefix a; lead = 0; text = sym (append-nil (prefix ++ 44 ∷ [])) }))
      | inr h ↦ elim (chosen (b == 43) on_plus (cond (b == 92) on_backslash (value_taken dn rdn name value solid b)) (Some next) h.1) [
        | inl g ↦ arrives _ next (prefix ++ b ∷ []) (some_is _ _ g.1) (with_byte (pair_ended dn rdn name value solid) prefix b 43 g.0
            (record { front = prefix ++ 43 ∷ []; is_front = plus_comes dn rdn name value solid prefix a; lead = 0; text = sym (append-nil (prefix ++ 43 ∷ [])) }))
        | inr g ↦ elim (chosen (b == 92) on_backslash (value_taken dn rdn name value solid b) (Some next) g.1) [
          | inl k ↦ arrives _ next (prefix ++ b ∷ []) (some_is _ _ k.1) (with_byte (InEscape dn rdn name value) prefix b 92 k.0
              (record { solid = solid; before = prefix; valued = a; text = refl }))
          | inr k ↦ value_step dn rdn name value solid b next prefix a k.1
        ]
      ]
    ]

-- a byte behind a backslash belongs to the value
begins_behind : (ks : List WrittenByte) (x : WrittenByte) → begins_well ks ≡ true → begins_well (x ∷ []) ≡ true → begins_well (ks ++ x ∷ []) ≡ true
begins_behind [] x h g = g
begins_behind (k ∷ ks) x h g = h

opened_ends : (dn : List (List Pair)) (rdn : List Pair) (name value opened prefix : List ℕ) (b : ℕ) (x : WrittenByte) → Opened dn rdn name value opened prefix → opened ++ b ∷ [] ≡ written_byte x → is_written_byte x ≡ true → is_plain_space x ≡ false → begins_well (x ∷ []) ≡ true
    → Valued dn rdn name (value ++ meant x ∷ []) (length value + 1) (prefix ++ b ∷ [])
opened_ends dn rdn name value opened prefix b x a whole ok solid_byte begins =
    let v = a.valued in
    let p = and_parts (is_type v.pair.name) (list_all is_written_byte v.pair.value && begins_well v.pair.value) v.ok in
    let q = and_parts (list_all is_written_byte v.pair.value) (begins_well v.pair.value) p.1 in
    let grown_pair = grows dn rdn name value a.solid a.before x v ok solid_byte (begins_behind v.pair.value x q.1 begins) in
    let joined : a.before ++ written_byte x ≡ prefix ++ b ∷ [] = ap (λ (w : List ℕ). a.before ++ w) (sym whole) ∙ (sym (append_assoc a.before opened (b ∷ [])) ∙ more _ _ (b ∷ []) (sym a.text)) in
    subst (λ (w : List ℕ). Valued dn rdn name (value ++ meant x ∷ []) (length value + 1) w) joined grown_pair

escape_step : (dn : List (List Pair)) (rdn : List Pair) (name value : List ℕ) (b : ℕ) (next : Progress) (prefix : List ℕ) → Opened dn rdn name value (92 ∷ []) prefix → step (InEscape dn rdn name value) b ≡ Some next → After next (prefix ++ b ∷ [])
escape_step dn rdn name value b next prefix a e =
    elim (chosen (is_special b) (Some (grown dn rdn name value b)) (cond (is_ascii_hexdigit b) (Some (InHex dn rdn name value b)) None) (Some next) e) [
      | inl h ↦ arrives _ next (prefix ++ b ∷ []) (some_is _ _ h.1) (opened_ends dn rdn name value (92 ∷ []) prefix b (Escaped b) a refl h.0 refl refl)
      | inr h ↦ let g = guarded (is_ascii_hexdigit b) (InHex dn rdn name value b) next h.1 in
          arrives _ next (prefix ++ b ∷ []) g.1
          (record { solid = a.solid; before = a.before; valued = a.valued; text = more _ _ (b ∷ []) a.text ∙ append_assoc a.before (92 ∷ []) (b ∷ []) }, g.0)
    ]

hex_taken : (c : Bool) (x : ℕ) (f : ℕ → Progress) (next : Progress) → option_map_or (λ n. Some (f n)) (cond c (Some x) None) None ≡ Some next → (c ≡ true) × (f x ≡ next)
hex_taken true x f next e = (refl, cc)
hex_taken false x f next e = absurd cc

hex_step : (dn : List (List Pair)) (rdn : List Pair) (name value : List ℕ) (high b : ℕ) (next : Progress) (prefix : List ℕ) → Opened dn rdn name value (92 ∷ high ∷ []) prefix → step (InHex dn rdn name value high) b ≡ Some next → After next (prefix ++ b ∷ [])
hex_step dn rdn name value high b next prefix a e =
    let g = hex_taken (is_ascii_hexdigit high && is_ascii_hexdigit b) (meant (Hex high b)) (λ n. grown dn rdn name value n) next e in
    arrives _ next (prefix ++ b ∷ []) g.1 (opened_ends dn rdn name value (92 ∷ high ∷ []) prefix b (Hex high b) a refl g.0 refl refl)

pub step_after : (s next : Progress) (b : ℕ) (prefix : List ℕ) → After s prefix → step s b ≡ Some next → After next (prefix ++ b ∷ [])
step_after (Start dn rdn) next b prefix a e = type_step dn rdn b next prefix (at_start dn rdn prefix a) e
step_after (BeforeType dn rdn) next b prefix a e =
    elim (chosen (b == 32) (Some (BeforeType dn rdn)) (type_begun dn rdn b) (Some next) e) [
      | inl h ↦ arrives _ next (prefix ++ b ∷ []) (some_is _ _ h.1) (with_byte (BeforeType dn rdn) prefix b 32 h.0 (lead_more dn rdn prefix a))
      | inr h ↦ type_step dn rdn b next prefix a h.1
    ]
step_after (InType dn rdn name) next b prefix a e =
    elim (chosen (is_type_byte b) (Some (InType dn rdn (name ++ b ∷ []))) (type_ended dn rdn name b) (Some next) e) [
      | inl h ↦ arrives _ next (prefix ++ b ∷ []) (some_is _ _ h.1) (type_more dn rdn name prefix b a h.0)
      | inr h ↦ end_step dn rdn name 0 b next prefix a h.1
    ]
step_after (BeforeEquals dn rdn name) next b prefix a e = end_step dn rdn name a.0 b next prefix a.1 e
step_after (InValue dn rdn name value solid) next b prefix a e = in_value_step dn rdn name value solid b next prefix a e
step_after (InEscape dn rdn name value) next b prefix a e = escape_step dn rdn name value b next prefix a e
step_after (InHex dn rdn name value high) next b prefix a e = hex_step dn rdn name value high b next prefix a.0 e

-- ---- whole texts

-- as Spells, but that the first byte may be a space
abbrev EndsAs : List ℕ → List (List Pair) → Type 0
EndsAs text dn = ((text ≡ []) × (dn ≡ [])) ⊎ ((d : WrittenDn) × Ended text dn d)

abbrev done : List (List Pair) → Result (List (List Pair)) ℕ
done x = Ok x

ok_is : (x y : List (List Pair)) → done x ≡ done y → x ≡ y
ok_is x y e = cc

at_end : (s : Progress) (prefix : List ℕ) (dn : List (List Pair)) → After s prefix → run s [] ≡ Ok dn → EndsAs prefix dn
at_end (Start d r) prefix dn a e = inl (a.2, sym (ok_is d dn e) ∙ a.0)
at_end (BeforeType d r) prefix dn a e = absurd cc
at_end (InType d r name) prefix dn a e = absurd cc
at_end (BeforeEquals d r name) prefix dn a e = absurd cc
at_end (InValue d r name value solid) prefix dn a e =
    let whole = d ++ (r ++ pair_made name value ∷ []) ∷ [] in
    inr (dn_made a.is_front.rdns a.is_front.pairs a.pair, subst (λ (x : List (List Pair)). Ended prefix x (dn_made a.is_front.rdns a.is_front.pairs a.pair)) (ok_is whole dn e) (ends d r name value solid prefix a))
at_end (InEscape d r name value) prefix dn a e = absurd cc
at_end (InHex d r name value high) prefix dn a e = absurd cc

pub taken : (o : Option Progress) (bs : List ℕ) (dn : List (List Pair)) → option_map_or (λ next. run next bs) o (Err (suc (length bs))) ≡ Ok dn → (next : Progress) × (o ≡ Some next) × (run next bs ≡ Ok dn)
taken None bs dn e = absurd cc
taken (Some next) bs dn e = (next, refl, e)

goes_on : (bs : List ℕ) (s : Progress) (prefix : List ℕ) (dn : List (List Pair)) → After s prefix → run s bs ≡ Ok dn → EndsAs (prefix ++ bs) dn
goes_on [] s prefix dn a e = subst (λ (w : List ℕ). EndsAs w dn) (sym (append-nil prefix)) (at_end s prefix dn a e)
goes_on (b ∷ bs) s prefix dn a e =
    let t = taken (step s b) bs dn e in
    subst (λ (w : List ℕ). EndsAs w dn) (append_assoc prefix (b ∷ []) bs) (goes_on bs t.0 (prefix ++ b ∷ []) dn (step_after s t.0 b prefix a t.1) t.2)

first_is_type : (b : ℕ) (next : Progress) → step (Start [] []) b ≡ Some next → is_type_byte b ≡ true
first_is_type b next e = (guarded (is_type_byte b) (InType [] [] (b ∷ [])) next e).0

no_space_first : (text : List ℕ) (dn : List (List Pair)) → run (Start [] []) text ≡ Ok dn → begins_with_space text ≡ false
no_space_first [] dn e = refl
no_space_first (b ∷ bs) dn e =
    let t = taken (step (Start [] []) b) bs dn e in
    differs is_type_byte b 32 (first_is_type b t.0 t.1) refl

pub is_spelled : (text : List ℕ) (dn : List (List Pair)) → run (Start [] []) text ≡ Ok dn → Spells text dn
is_spelled text dn e =
    elim (goes_on text (Start [] []) [] dn (refl, refl, refl) e) [
      | inl h ↦ inl h
      | inr h ↦ inr (h.0, record { valid = h.1.valid; text_is = h.1.text_is; no_space_first = no_space_first text dn e; meaning = h.1.meaning })
    ]
