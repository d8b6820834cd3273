-- What a directory sends of the netgroups of a name says what they say.
use Rattle.std.specs.Prelude.{filter, codes}
use Rattle.std.proofs.Common.{◌≡◌, ℕ, Bool, true, false, cond, ◌&&◌, List, [], ◌∷◌, map, refl, ap, ◌∙◌, subst}
use Rattle.std.specs.List.{list_any, flat_map}
use Rattle.std.specs.Cmp.Lexicographic.{bytes_decides}
use Rattle.std.proofs.lemmas.Bool.{and_parts, and_from}
use Rattle.sd_dn.specs.Comparing.{same_text}
use Rattle.sd_dn.specs.Texts.{spelled}
use Rattle.sd_dn.proofs.Same.{self_text}
use Rattle.sd_ldap.specs.declared.entry.Attribute.{Attribute}
use Rattle.sd_ldap.specs.declared.entry.DirEntry.{DirEntry}
use Rattle.sd_ldap.specs.Values.{SearchValue}
use Rattle.sd_entry.specs.Values.{has_class}
use Rattle.sd_match.specs.Matching.{has_value, matches}
use Rattle.sd_match.specs.Answering.{same_bytes, sent_attributes, sent, is_at_or_under, is_found, found}
use Rattle.sd_match.proofs.Sent.{IsKept, says_sent, value_sent, values_sent, all_sent}
use Rattle.sd_nested.proofs.In.{any_more}
use Rattle.sd_fetch.proofs.Found.{whole_scope}
use Rattle.sd_netgroup.specs.Named.{is_called, is_named, named_in, members_of, texts_of}
use Rattle.sd_netgroup.specs.Searches.{asked_attributes, net_filter, net_search}
use Rattle.sd_netgroup.specs.Rounds.{called_in, is_some}

-- ---- attributes that are asked for

classes_kept : IsKept asked_attributes (codes "objectClass")
classes_kept = record { open_name = refl; among = refl }

names_kept : IsKept asked_attributes (codes "cn")
names_kept = record { open_name = refl; among = refl }

triples_kept : IsKept asked_attributes (codes "nisNetgroupTriple")
triples_kept = record { open_name = refl; among = refl }

members_kept : IsKept asked_attributes (codes "memberNisNetgroup")
members_kept = record { open_name = refl; among = refl }

called_sent : (name : List ℕ) (xs : List Attribute) → is_called name (sent_attributes false asked_attributes xs) ≡ is_called name xs
called_sent name xs =
    ap (λ (b : Bool). b && has_value (codes "cn") (λ value. same_bytes value name) (sent_attributes false asked_attributes xs)) (says_sent asked_attributes (codes "objectClass") (codes "nisNetgroup") classes_kept xs)
    ∙ ap (λ (b : Bool). has_class (codes "nisNetgroup") xs && b) (value_sent asked_attributes (codes "cn") (λ value. same_bytes value name) names_kept xs)

-- ---- entries as they are sent

kept_map : (name base : List ℕ) (e : DirEntry) (rest : List DirEntry) (b c : Bool) → b ≡ c → called_in name (map (sent (net_search base name)) rest) ≡ map (sent (net_search base name)) (called_in name rest)
    → cond b (sent (net_search base name) e ∷ called_in name (map (sent (net_search base name)) rest)) (called_in name (map (sent (net_search base name)) rest))
    ≡ map (sent (net_search base name)) (cond c (e ∷ called_in name rest) (called_in name rest))
kept_map name base e rest true true h f = ap (λ (es : List DirEntry). sent (net_search base name) e ∷ es) f
kept_map name base e rest true false h f = absurd cc
kept_map name base e rest false true h f = absurd cc
kept_map name base e rest false false h f = f

called_map : (name base : List ℕ) (es : List DirEntry) → called_in name (map (sent (net_search base name)) es) ≡ map (sent (net_search base name)) (called_in name es)
called_map name base [] = refl
called_map name base (e ∷ es) =
    kept_map name base e es (is_called name (sent_attributes false asked_attributes e.attributes)) (is_called name e.attributes) (called_sent name e.attributes) (called_map name base es)

some_sent : (s : SearchValue) (es : List DirEntry) → is_some (map (sent s) es) ≡ is_some es
some_sent s [] = refl
some_sent s (e ∷ es) = refl

-- ---- the netgroups of a name are among those found

filter_step : {X : Type 0} (x : X) (p : X → Bool) (kept all : List X) (b c : Bool) → (b && p x) ≡ c → filter p kept ≡ all → filter p (cond b (x ∷ kept) kept) ≡ cond c (x ∷ all) all
filter_step {X} x p kept all true c h f = ap (λ (ys : List X). cond (p x) (x ∷ ys) ys) f ∙ ap (λ (t : Bool). cond t (x ∷ all) all) h
filter_step {X} x p kept all false c h f = f ∙ ap (λ (t : Bool). cond t (x ∷ all) all) h

filter_twice : {X : Type 0} (p q r : X → Bool) → ((x : X) → (q x && p x) ≡ r x) → (xs : List X) → filter p (filter q xs) ≡ filter r xs
filter_twice p q r f [] = refl
filter_twice p q r f (x ∷ xs) = filter_step x p (filter q xs) (filter r xs) (q x) (r x) (f x) (filter_twice p q r f xs)

own_more : (p q : List ℕ → Bool) → ((v : List ℕ) → p v ≡ true → q v ≡ true) → (name : List ℕ) (a : Attribute) → (same_text a.name name && list_any p a.values) ≡ true → (same_text a.name name && list_any q a.values) ≡ true
own_more p q f name a h =
    let k = and_parts (same_text a.name name) (list_any p a.values) h in
    and_from (same_text a.name name) (list_any q a.values) k.0 (any_more p q f a.values k.1)

has_more : (p q : List ℕ → Bool) → ((v : List ℕ) → p v ≡ true → q v ≡ true) → (name : List ℕ) (xs : List Attribute) → has_value name p xs ≡ true → has_value name q xs ≡ true
has_more p q f name xs h = any_more (λ (a : Attribute). same_text a.name name && list_any p a.values) (λ (a : Attribute). same_text a.name name && list_any q a.values) (own_more p q f name) xs h

same_as : (name value : List ℕ) → same_bytes value name ≡ true → same_text value name ≡ true
same_as name value h = subst (λ (v : List ℕ). same_text value v ≡ true) ((bytes_decides value name).0 h) (self_text value)

called_matches : (name : List ℕ) (xs : List Attribute) → is_called name xs ≡ true → matches (net_filter name) xs ≡ true
called_matches name xs h =
    let k = and_parts (has_class (codes "nisNetgroup") xs) (has_value (codes "cn") (λ value. same_bytes value name) xs) h in
    and_from (has_class (codes "nisNetgroup") xs) (has_value (codes "cn") (λ value. same_text value name) xs && true) k.0
    (and_from (has_value (codes "cn") (λ value. same_text value name) xs) true (has_more (λ value. same_bytes value name) (λ value. same_text value name) (same_as name) (codes "cn") xs k.1) refl)

both_so : (place match called : Bool) → (called ≡ true → match ≡ true) → ((place && match) && called) ≡ (place && called)
both_so true true called f = refl
both_so true false true f = let e = f refl in absurd cc
both_so true false false f = refl
both_so false match called f = refl

found_called : (base name : List ℕ) (e : DirEntry) → (is_found (net_search base name) e && is_called name e.attributes) ≡ is_named base name e
found_called base name e =
    ap (λ (b : Bool). (b && matches (net_filter name) e.attributes) && is_called name e.attributes) (whole_scope (spelled e.dn) (spelled base))
    ∙ both_so (is_at_or_under base e) (matches (net_filter name) e.attributes) (is_called name e.attributes) (called_matches name e.attributes)

found_named : (entries : List DirEntry) (base name : List ℕ) → called_in name (found entries (net_search base name)) ≡ named_in entries base name
found_named entries base name = filter_twice (λ (e : DirEntry). is_called name e.attributes) (λ (e : DirEntry). is_found (net_search base name) e) (λ (e : DirEntry). is_named base name e) (found_called base name) entries

-- what was found says of its members and triples what the netgroups of the name say
pub record Says (entries : List DirEntry) (base name : List ℕ) (called : List DirEntry) : Type 0 where
  pub members : flat_map members_of called ≡ flat_map members_of (named_in entries base name)
  pub texts : flat_map texts_of called ≡ flat_map texts_of (named_in entries base name)
  pub some : is_some called ≡ is_some (named_in entries base name)

pub says : (entries : List DirEntry) (base name : List ℕ) → Says entries base name (called_in name (map (sent (net_search base name)) (found entries (net_search base name))))
says entries base name =
    let s : SearchValue = net_search base name in
    let e : called_in name (map (sent (net_search base name)) (found entries (net_search base name))) ≡ map (sent (net_search base name)) (named_in entries base name) =
    called_map name base (found entries (net_search base name)) ∙ ap (map (sent (net_search base name))) (found_named entries base name) in
    record {
      members = ap (flat_map members_of) e ∙ all_sent members_of (net_search base name) (λ d. values_sent asked_attributes (codes "memberNisNetgroup") members_kept d.attributes) (named_in entries base name);
      texts = ap (flat_map texts_of) e ∙ all_sent texts_of (net_search base name) (λ d. values_sent asked_attributes (codes "nisNetgroupTriple") triples_kept d.attributes) (named_in entries base name);
      some = ap is_some e ∙ some_sent (net_search base name) (named_in entries base name);
    }
