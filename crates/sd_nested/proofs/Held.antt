-- Holder rounds find the groups from which member paths lead to a DN.
use Rattle.std.proofs.Common.{◌≡◌, ℕ, zero, suc, Bool, true, false, ◌&&◌, ◌||◌, List, [], ◌∷◌, Option, Some, None, Result, Ok, Err, refl, sym, ap, ◌∙◌, subst, inl, inr, cond, arith}
use Rattle.std.proofs.lemmas.Bool.{and_from, and_parts}
use Rattle.std.specs.Prelude.{codes}
use Rattle.std.specs.List.{list_any}
use Rattle.std.specs.Result.{is_ok, result_ok}
use Rattle.sd_dn.specs.declared.Pair.{Pair}
use Rattle.sd_dn.specs.Comparing.{same_text, same_dn, ends_with}
use Rattle.sd_dn.specs.Reading.{Start, run, is_dn}
use Rattle.sd_dn.specs.Texts.{both_meet, spelled, same_dn_text}
use Rattle.sd_ldap.specs.declared.entry.Attribute.{Attribute}
use Rattle.sd_ldap.specs.declared.entry.DirEntry.{DirEntry}
use Rattle.sd_entry.specs.Values.{has_class}
use Rattle.sd_match.specs.Matching.{has_value, equals}
use Rattle.sd_match.specs.Answering.{is_found, found, is_at_or_under}
use Rattle.sd_rules.specs.declared.records.GroupRef.{GroupRef}
use Rattle.sd_nested.specs.Searches.{holder_search}
use Rattle.sd_nested.specs.Named.{is_group, group_ref, group_refs}
use Rattle.sd_nested.specs.Paths.{at_or_under, holds, holders_in, holding}
use Rattle.sd_nested.specs.Rounds.{rounds, beginning, holder_way}
use Rattle.sd_dn.proofs.Same.{dn_texts_same, right_of, self_dn}
use Rattle.sd_nested.proofs.Spelled.{spells_alike, met_dn}
use Rattle.sd_nested.proofs.In.{In, in_flat, in_from, in_filter, filter_in}
use Rattle.sd_nested.proofs.Marks.{admitted, met_by, IsSpelledAmong}
use Rattle.sd_nested.proofs.PathEnds.{ends, found_for, admitted_of, IsAlike, IsSound, IsMarked, AreAsked, all_sound, all_found}

-- ---- a member value equals a DN as DNs, or not at all

by_text : (value dn : List ℕ) (v : Bool) → is_dn dn ≡ true → is_dn value ≡ v → (same_dn_text value dn ≡ true → is_dn value ≡ true) → (same_text value dn ≡ true → is_dn value ≡ is_dn dn)
    → cond (v && true) (same_dn_text value dn) (same_text value dn) ≡ same_dn_text value dn
by_text value dn true d e f g = refl
by_text value dn false d e f g = neither (same_text value dn) (same_dn_text value dn) (is_dn value) (is_dn dn) d e f g
  where
    neither : (a b v d : Bool) → d ≡ true → v ≡ false → (b ≡ true → v ≡ true) → (a ≡ true → v ≡ d) → a ≡ b
    neither true b v d h e f g = let k = g refl in cc
    neither false true v d h e f g = let k = f refl in cc
    neither false false v d h e f g = refl

pub equal_as_dns : (value dn : List ℕ) → is_dn dn ≡ true → equals (codes "member") dn value ≡ same_dn_text value dn
equal_as_dns value dn d =
    ap (λ (b : Bool). cond (is_dn value && b) (same_dn_text value dn) (same_text value dn)) d
    ∙ by_text value dn (is_dn value) d refl (λ h. met_dn value (spelled dn) same_dn h) (λ h. spells_alike value dn h)

any_same : {X : Type 0} (p q : X → Bool) → ((x : X) → p x ≡ q x) → (xs : List X) → list_any p xs ≡ list_any q xs
any_same p q f [] = refl
any_same p q f (x ∷ xs) = ap (λ (b : Bool). b || list_any p xs) (f x) ∙ ap (λ (b : Bool). q x || b) (any_same p q f xs)

value_same : (dn : List ℕ) → is_dn dn ≡ true → (attributes : List Attribute) → has_value (codes "member") (equals (codes "member") dn) attributes ≡ has_value (codes "member") (λ value. same_dn_text value dn) attributes
value_same dn d attributes =
    any_same (λ (a : Attribute). same_text a.name (codes "member") && list_any (equals (codes "member") dn) a.values) (λ (a : Attribute). same_text a.name (codes "member") && list_any (λ value. same_dn_text value dn) a.values)
    (λ a. ap (λ (b : Bool). same_text a.name (codes "member") && b) (any_same (equals (codes "member") dn) (λ value. same_dn_text value dn) (λ value. equal_as_dns value dn d) a.values)) attributes

-- ---- what is found for a DN

filtered : (group value : Bool) → ((group && (value && true)) ≡ (group && value))
filtered true true = refl
filtered true false = refl
filtered false value = refl

either_class : (a b : Bool) → (a || (b || false)) ≡ (a || b)
either_class true b = refl
either_class false true = refl
either_class false false = refl

finds : (base dn : List ℕ) (e : DirEntry) → is_found (holder_search base dn) e
    ≡ (is_at_or_under base e && ((has_class (codes "posixGroup") e.attributes || (has_class (codes "groupOfNames") e.attributes || false)) && (has_value (codes "member") (equals (codes "member") dn) e.attributes && true)))
finds base dn e = refl

finds_so : (base dn : List ℕ) (e : DirEntry) → is_dn dn ≡ true → is_found (holder_search base dn) e ≡ (is_at_or_under base e && holds e dn)
finds_so base dn e d =
    finds base dn e
    ∙ (ap (λ (b : Bool). is_at_or_under base e && (b && (has_value (codes "member") (equals (codes "member") dn) e.attributes && true))) (either_class (has_class (codes "posixGroup") e.attributes) (has_class (codes "groupOfNames") e.attributes))
    ∙ (ap (λ (b : Bool). is_at_or_under base e && b) (filtered (is_group e.attributes) (has_value (codes "member") (equals (codes "member") dn) e.attributes))
    ∙ ap (λ (b : Bool). is_at_or_under base e && (is_group e.attributes && b)) (value_same dn d e.attributes)))

-- an entry found for a DN
pub record IsHolder (told : List DirEntry) (base dn : List ℕ) (e : DirEntry) : Type 0 where
  pub among : In e told
  pub placed : is_at_or_under base e ≡ true
  pub held : holds e dn ≡ true

holder_found : (told : List DirEntry) (base dn : List ℕ) (e : DirEntry) → is_dn dn ≡ true → In e (found told (holder_search base dn)) → IsHolder told base dn e
holder_found told base dn e d h =
    let p = filter_in (λ (x : DirEntry). is_found (holder_search base dn) x) e told h in
    let q = and_parts (is_at_or_under base e) (holds e dn) (sym (finds_so base dn e d) ∙ p.1) in
    record { among = p.0; placed = q.0; held = q.1 }

found_holder : (told : List DirEntry) (base dn : List ℕ) (e : DirEntry) → is_dn dn ≡ true → IsHolder told base dn e → In e (found told (holder_search base dn))
found_holder told base dn e d h =
    in_filter (λ (x : DirEntry). is_found (holder_search base dn) x) e told h.among (finds_so base dn e d ∙ and_from (is_at_or_under base e) (holds e dn) h.placed h.held)

-- the DN of an entry found is a DN
holder_dn : (told : List DirEntry) (base dn : List ℕ) (e : DirEntry) → IsHolder told base dn e → is_dn e.dn ≡ true
holder_dn told base dn e h = met_dn e.dn (spelled base) ends_with h.placed

step_before : (told : List DirEntry) (base dn : List ℕ) (e : DirEntry) → IsHolder told base dn e → In e (holders_in (at_or_under base told) dn)
step_before told base dn e h = in_filter (λ (x : DirEntry). holds x dn) e (at_or_under base told) (in_filter (λ (x : DirEntry). is_at_or_under base x) e told h.among h.placed) h.held

before_step : (told : List DirEntry) (base dn : List ℕ) (e : DirEntry) → In e (holders_in (at_or_under base told) dn) → IsHolder told base dn e
before_step told base dn e h =
    let p = filter_in (λ (x : DirEntry). holds x dn) e (at_or_under base told) h in
    let q = filter_in (λ (x : DirEntry). is_at_or_under base x) e told p.0 in
    record { among = q.0; placed = q.1; held = p.1 }

-- ---- texts that are DNs

spells_some : (r : Result (List (List Pair)) ℕ) → is_ok r ≡ admitted (λ dn. true) (result_ok r)
spells_some (Ok dn) = refl
spells_some (Err left) = refl

dn_admitted : (text : List ℕ) → is_dn text ≡ admitted (λ dn. true) (spelled text)
dn_admitted text = spells_some (run (Start [] []) text)

own_dn : (o : Option (List (List Pair))) → admitted (λ dn. true) o ≡ true → both_meet same_dn o o ≡ true
own_dn None h = cc
own_dn (Some dn) h = self_dn dn

-- equal DNs are held by the same groups
held_so : (told : List DirEntry) (base a b : List ℕ) (e : DirEntry) → same_dn_text a b ≡ true → holds e a ≡ holds e b
held_so told base a b e s =
    ap (λ (x : Bool). is_group e.attributes && x)
    (any_same (λ (t : Attribute). same_text t.name (codes "member") && list_any (λ value. same_dn_text value a) t.values) (λ (t : Attribute). same_text t.name (codes "member") && list_any (λ value. same_dn_text value b) t.values)
    (λ t. ap (λ (x : Bool). same_text t.name (codes "member") && x) (any_same (λ value. same_dn_text value a) (λ value. same_dn_text value b) (λ value. right_of a b value s) t.values)) e.attributes)

holders_alike : (told : List DirEntry) (base : List ℕ) → IsAlike (holder_way told base)
holders_alike told base = record {
  alike = λ a b e s h.
      let p = holder_found told base a e (met_dn a (spelled b) same_dn s) h in
      found_holder told base b e (met_dn b (spelled a) same_dn (dn_texts_same.flip b a ∙ s)) (record { among = p.among; placed = p.placed; held = sym (held_so told base a b e s) ∙ p.held });
}

-- ---- paths of both kinds

one_text : (text dn : List ℕ) → In text (dn ∷ []) → dn ≡ text
one_text text dn (inl e) = e
one_text text dn (inr h) = absurd h

step_found : (told : List DirEntry) (base dn : List ℕ) (e : DirEntry) → is_dn dn ≡ true → In e (found_for (holder_way told base) (dn ∷ [])) → IsHolder told base dn e
step_found told base dn e d h =
    let f = in_from (holder_way told base).answers e (admitted_of (holder_way told base) (dn ∷ [])) h in
    let a = filter_in (λ text. admitted (holder_way told base).admits (spelled text)) f.source (dn ∷ []) f.among in
    holder_found told base dn e d (subst (λ (t : List ℕ). In e (found told (holder_search base t))) (sym (one_text f.source dn a.0)) f.gives)

found_step : (told : List DirEntry) (base dn : List ℕ) (e : DirEntry) → is_dn dn ≡ true → IsHolder told base dn e → In e (found_for (holder_way told base) (dn ∷ []))
found_step told base dn e d h =
    in_flat (holder_way told base).answers dn e (admitted_of (holder_way told base) (dn ∷ []))
    (in_filter (λ text. admitted (holder_way told base).admits (spelled text)) dn (dn ∷ []) (inl refl) (sym (dn_admitted dn) ∙ d))
    (found_holder told base dn e d h)

start_rest : (told : List DirEntry) (base : List ℕ) (n : ℕ) (x e : DirEntry) → In e (x ∷ ends (holder_way told base) n (x.dn ∷ [])) → (In e (ends (holder_way told base) n (x.dn ∷ [])) → In e (holding (at_or_under base told) n x.dn)) → In e (x ∷ holding (at_or_under base told) n x.dn)
start_rest told base n x e (inl same) k = inl same
start_rest told base n x e (inr h) k = inr (k h)

pub starts : (told : List DirEntry) (base : List ℕ) (n : ℕ) (dn : List ℕ) (e : DirEntry) → is_dn dn ≡ true → In e (ends (holder_way told base) n (dn ∷ [])) → In e (holding (at_or_under base told) n dn)
starts told base zero dn e d h = absurd h
starts told base (suc n) dn e d h =
    let f = in_from (λ (x : DirEntry). x ∷ ends (holder_way told base) n ((holder_way told base).leads x)) e (found_for (holder_way told base) (dn ∷ [])) h in
    let s = step_found told base dn f.source d f.among in
    in_flat (λ (x : DirEntry). x ∷ holding (at_or_under base told) n x.dn) f.source e (holders_in (at_or_under base told) dn) (step_before told base dn f.source s)
    (start_rest told base n f.source e f.gives (starts told base n f.source.dn e (holder_dn told base dn f.source s)))

end_rest : (told : List DirEntry) (base : List ℕ) (n : ℕ) (x e : DirEntry) → In e (x ∷ holding (at_or_under base told) n x.dn) → (In e (holding (at_or_under base told) n x.dn) → In e (ends (holder_way told base) n (x.dn ∷ []))) → In e (x ∷ ends (holder_way told base) n (x.dn ∷ []))
end_rest told base n x e (inl same) k = inl same
end_rest told base n x e (inr h) k = inr (k h)

pub started : (told : List DirEntry) (base : List ℕ) (n : ℕ) (dn : List ℕ) (e : DirEntry) → is_dn dn ≡ true → In e (holding (at_or_under base told) n dn) → In e (ends (holder_way told base) n (dn ∷ []))
started told base zero dn e d h = absurd h
started told base (suc n) dn e d h =
    let f = in_from (λ (x : DirEntry). x ∷ holding (at_or_under base told) n x.dn) e (holders_in (at_or_under base told) dn) h in
    let s = before_step told base dn f.source f.among in
    in_flat (λ (x : DirEntry). x ∷ ends (holder_way told base) n ((holder_way told base).leads x)) f.source e (found_for (holder_way told base) (dn ∷ [])) (found_step told base dn f.source d s)
    (end_rest told base n f.source e f.gives (started told base n f.source.dn e (holder_dn told base dn f.source s)))

-- ---- the rounds of a user

start_sound : (told : List DirEntry) (base dn : List ℕ) → is_dn dn ≡ true → IsSound (holder_way told base) (dn ∷ []) 0 (beginning [] (dn ∷ []))
start_sound told base dn d = record {
  found = λ e h. absurd h;
  due = λ text h. record { is_admitted = subst (λ (t : List ℕ). admitted (λ x. true) (spelled t) ≡ true) (one_text text dn h) (sym (dn_admitted dn) ∙ d); comes = inl h };
}

none_seen : (o : Option (List (List Pair))) (texts : List (List ℕ)) → met_by o [] ≡ true → IsSpelledAmong o texts
none_seen None texts h = cc
none_seen (Some dn) texts h = cc

start_marked : (told : List DirEntry) (base dn : List ℕ) → IsMarked (holder_way told base) (beginning [] (dn ∷ []))
start_marked told base dn = record {
  seen = λ o h. none_seen o (dn ∷ []) h;
  found = refl;
  leads = λ e text h l a. absurd h;
}

first_asked : (told : List DirEntry) (base dn : List ℕ) → AreAsked (holder_way told base) (rounds (holder_way told base) (beginning [] (dn ∷ [])) 1) (dn ∷ [])
first_asked told base dn text h a = record { text = text; among = h; same = own_dn (spelled text) a }

pub groups_found : (told : List DirEntry) (base : List ℕ) (n : ℕ) (dn : List ℕ) (e : DirEntry) → is_dn dn ≡ true → In e (rounds (holder_way told base) (beginning [] (dn ∷ [])) n).found → In e (holding (at_or_under base told) n dn)
groups_found told base n dn e d h = starts told base n dn e d ((all_sound (holder_way told base) (dn ∷ []) (beginning [] (dn ∷ [])) (start_sound told base dn d) n).found e h)

pub groups_held : (told : List DirEntry) (base : List ℕ) (n : ℕ) (dn : List ℕ) (e : DirEntry) → is_dn dn ≡ true → In e (holding (at_or_under base told) (suc n) dn) → In e (rounds (holder_way told base) (beginning [] (dn ∷ [])) (suc n)).found
groups_held told base n dn e d h =
    all_found (holder_way told base) (holders_alike told base) (beginning [] (dn ∷ [])) (start_marked told base dn) n 1 (suc n) (dn ∷ []) (omega arith) (first_asked told base dn) e
    (started told base (suc n) dn e d h)

pub refs_found : (told : List DirEntry) (base : List ℕ) (n : ℕ) (dn : List ℕ) (r : GroupRef) → is_dn dn ≡ true → In r (group_refs (rounds (holder_way told base) (beginning [] (dn ∷ [])) n).found) → In r (group_refs (holding (at_or_under base told) n dn))
refs_found told base n dn r d h =
    let f = in_from group_ref r (rounds (holder_way told base) (beginning [] (dn ∷ [])) n).found h in
    in_flat group_ref f.source r (holding (at_or_under base told) n dn) (groups_found told base n dn f.source d f.among) f.gives

pub refs_held : (told : List DirEntry) (base : List ℕ) (n : ℕ) (dn : List ℕ) (r : GroupRef) → is_dn dn ≡ true → In r (group_refs (holding (at_or_under base told) (suc n) dn)) → In r (group_refs (rounds (holder_way told base) (beginning [] (dn ∷ [])) (suc n)).found)
refs_held told base n dn r d h =
    let f = in_from group_ref r (holding (at_or_under base told) (suc n) dn) h in
    in_flat group_ref f.source r (rounds (holder_way told base) (beginning [] (dn ∷ [])) (suc n)).found (groups_held told base n dn f.source d f.among) f.gives
