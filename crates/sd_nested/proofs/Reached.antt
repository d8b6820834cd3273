-- Member rounds find the users that member paths reach.
use Rattle.std.proofs.Common.{◌≡◌, ℕ, zero, suc, Bool, true, false, ◌&&◌, List, [], ◌∷◌, Option, Some, None, refl, sym, ◌∙◌, subst, inl, inr, ◌⊎◌, cond, arith}
use Rattle.std.proofs.lemmas.Bool.{and_from, and_parts}
use Rattle.std.specs.Prelude.{codes}
use Rattle.std.specs.List.{list_any}
use Rattle.sd_dn.specs.declared.Pair.{Pair}
use Rattle.sd_dn.specs.Comparing.{same_text, same_dn, ends_with}
use Rattle.sd_dn.specs.Texts.{both_meet, spelled, same_dn_text}
use Rattle.sd_ldap.specs.declared.entry.Attribute.{Attribute}
use Rattle.sd_ldap.specs.declared.entry.DirEntry.{DirEntry}
use Rattle.sd_entry.specs.Values.{own_says, has_class, has_text}
use Rattle.sd_entry.specs.Users.{is_user, has_user_values}
use Rattle.sd_match.specs.Matching.{has_value}
use Rattle.sd_match.specs.Answering.{is_found, found}
use Rattle.sd_nested.specs.Searches.{read_search}
use Rattle.sd_nested.specs.Named.{is_group, own_members, member_values, group_values, user_name, user_names, listed}
use Rattle.sd_nested.specs.Paths.{is_placed, placed_in, holds, members_in, reached}
use Rattle.sd_nested.specs.Rounds.{rounds, member_way, member_start, first_values}
use Rattle.sd_dn.proofs.Same.{dn_texts_same, right_of, ends_alike}
use Rattle.sd_nested.proofs.In.{In, in_flat, in_from, in_filter, filter_in, in_any, any_in, any_more, or_either}
use Rattle.sd_nested.proofs.Marks.{admitted, all_met, taken, spelled_among}
use Rattle.sd_nested.proofs.PathEnds.{ends, found_for, admitted_of, IsAlike, IsSound, IsMarked, AreAsked, all_sound, all_found}

-- ---- entries of a class have a value of objectClass

pub has_some : List Attribute → Bool
has_some attributes = has_value (codes "objectClass") (λ value. true) attributes

some_value : (p : List ℕ → Bool) (values : List (List ℕ)) → list_any p values ≡ true → list_any (λ value. true) values ≡ true
some_value p values h = any_more p (λ value. true) (λ x e. refl) values h

class_attribute : (class : List ℕ) (a : Attribute) → own_says (codes "objectClass") class a ≡ true → (same_text a.name (codes "objectClass") && list_any (λ value. true) a.values) ≡ true
class_attribute class a h =
    let p = and_parts (same_text a.name (codes "objectClass")) (has_text class a.values) h in
    and_from (same_text a.name (codes "objectClass")) (list_any (λ value. true) a.values) p.0 (some_value (λ value. same_text value class) a.values p.1)

class_some : (class : List ℕ) (attributes : List Attribute) → has_class class attributes ≡ true → has_some attributes ≡ true
unfolding has_some
class_some class attributes h = any_more (λ (a : Attribute). own_says (codes "objectClass") class a) (λ (a : Attribute). same_text a.name (codes "objectClass") && list_any (λ value. true) a.values) (class_attribute class) attributes h

group_by : (attributes : List Attribute) → (has_class (codes "posixGroup") attributes ≡ true) ⊎ (has_class (codes "groupOfNames") attributes ≡ true) → has_some attributes ≡ true
group_by attributes (inl h) = class_some (codes "posixGroup") attributes h
group_by attributes (inr h) = class_some (codes "groupOfNames") attributes h

group_some : (attributes : List Attribute) → is_group attributes ≡ true → has_some attributes ≡ true
group_some attributes h = group_by attributes (or_either (has_class (codes "posixGroup") attributes) (has_class (codes "groupOfNames") attributes) h)

user_some : (attributes : List Attribute) → is_user attributes ≡ true → has_some attributes ≡ true
user_some attributes h = class_some (codes "posixAccount") attributes (and_parts (has_class (codes "posixAccount") attributes) (has_user_values attributes) h).0

-- ---- what is read for a text

-- of an entry: whether its DN is that of the text, and it has a class
read_finds : (text : List ℕ) (e : DirEntry) → is_found (read_search text) e ≡ (same_dn_text e.dn text && has_some e.attributes)
unfolding has_some
read_finds text e = refl

read_at : (told : List DirEntry) (text : List ℕ) (e : DirEntry) → In e (found told (read_search text)) → In e told × (same_dn_text e.dn text ≡ true) × (has_some e.attributes ≡ true)
read_at told text e h =
    let p = filter_in (λ (x : DirEntry). is_found (read_search text) x) e told h in
    let q = and_parts (same_dn_text e.dn text) (has_some e.attributes) (sym (read_finds text e) ∙ p.1) in
    (p.0, q.0, q.1)

at_read : (told : List DirEntry) (text : List ℕ) (e : DirEntry) → In e told → same_dn_text e.dn text ≡ true → has_some e.attributes ≡ true → In e (found told (read_search text))
at_read told text e h s c = in_filter (λ (x : DirEntry). is_found (read_search text) x) e told h (read_finds text e ∙ and_from (same_dn_text e.dn text) (has_some e.attributes) s c)

read_alike : (told : List DirEntry) (base : List (List Pair)) → IsAlike (member_way told base)
read_alike told base = record {
  alike = λ a b e s h. let p = read_at told a e h in at_read told b e p.0 (sym (right_of a b e.dn s) ∙ p.1) p.2;
}

-- ---- places by equal DNs

placed_so : (base : List (List Pair)) (a b : Option (List (List Pair))) → both_meet same_dn a b ≡ true → is_placed base a ≡ admitted (λ dn. ends_with dn base) b
placed_so base None b h = cc
placed_so base (Some a) None h = cc
placed_so base (Some a) (Some b) h = ends_alike a b base h

-- ---- the member values of a group

own_value : (a : Attribute) (value : List ℕ) → In value (own_members a) → (same_text a.name (codes "member") ≡ true) × In value a.values
own_value a value h = own_by (same_text a.name (codes "member")) a.values value h
  where
    own_by : (b : Bool) (values : List (List ℕ)) (value : List ℕ) → In value (cond b values []) → (b ≡ true) × In value values
    own_by true values value h = (refl, h)
    own_by false values value h = absurd h

value_own : (a : Attribute) (value : List ℕ) → same_text a.name (codes "member") ≡ true → In value a.values → In value (own_members a)
value_own a value e h = subst (λ (b : Bool). In value (cond b a.values [])) (sym e) h

-- a value that equals the DN
value_holds : (attributes : List Attribute) (value dn : List ℕ) → In value (member_values attributes) → same_dn_text value dn ≡ true → has_value (codes "member") (λ v. same_dn_text v dn) attributes ≡ true
value_holds attributes value dn h s =
    let f = in_from own_members value attributes h in
    let o = own_value f.source value f.gives in
    in_any (λ (a : Attribute). same_text a.name (codes "member") && list_any (λ v. same_dn_text v dn) a.values) f.source attributes f.among
    (and_from (same_text f.source.name (codes "member")) (list_any (λ v. same_dn_text v dn) f.source.values) o.0 (in_any (λ v. same_dn_text v dn) value f.source.values o.1 s))

holds_value : (attributes : List Attribute) (dn : List ℕ) → has_value (codes "member") (λ v. same_dn_text v dn) attributes ≡ true → (value : List ℕ) × In value (member_values attributes) × (same_dn_text value dn ≡ true)
holds_value attributes dn h =
    let f = any_in (λ (a : Attribute). same_text a.name (codes "member") && list_any (λ v. same_dn_text v dn) a.values) attributes h in
    let p = and_parts (same_text f.it.name (codes "member")) (list_any (λ v. same_dn_text v dn) f.it.values) f.passes in
    let v = any_in (λ v. same_dn_text v dn) f.it.values p.1 in
    (v.it, in_flat own_members f.it v.it attributes f.among (value_own f.it v.it p.0 v.among), v.passes)

group_value : (g : DirEntry) (value : List ℕ) → In value (group_values g) → (is_group g.attributes ≡ true) × In value (member_values g.attributes)
group_value g value h = by (is_group g.attributes) (member_values g.attributes) value h
  where
    by : (b : Bool) (values : List (List ℕ)) (value : List ℕ) → In value (cond b values []) → (b ≡ true) × In value values
    by true values value h = (refl, h)
    by false values value h = absurd h

value_group : (g : DirEntry) (value : List ℕ) → is_group g.attributes ≡ true → In value (member_values g.attributes) → In value (group_values g)
value_group g value e h = subst (λ (b : Bool). In value (cond b (member_values g.attributes) [])) (sym e) h

-- ---- one step along a path

-- an entry found for a member value that is admitted is a member
step_to : (told : List DirEntry) (base : List (List Pair)) (g e : DirEntry) → In e (found_for (member_way told base) (group_values g)) → In e (members_in (placed_in base told) g)
step_to told base g e h =
    let f = in_from (member_way told base).answers e (admitted_of (member_way told base) (group_values g)) h in
    let a = filter_in (λ text. admitted (member_way told base).admits (spelled text)) f.source (group_values g) f.among in
    let r = read_at told f.source e f.gives in
    let v = group_value g f.source a.0 in
    let placed : In e (placed_in base told) = in_filter (λ (x : DirEntry). is_placed base (spelled x.dn)) e told r.0 (placed_so base (spelled e.dn) (spelled f.source) r.1 ∙ a.1) in
    in_filter (λ (x : DirEntry). holds g x.dn) e (placed_in base told) placed
    (and_from (is_group g.attributes) (has_value (codes "member") (λ value. same_dn_text value e.dn) g.attributes) v.0
    (value_holds g.attributes f.source e.dn v.1 (dn_texts_same.flip f.source e.dn ∙ r.1)))

-- a member that has a class is found for a member value
to_step : (told : List DirEntry) (base : List (List Pair)) (g e : DirEntry) → In e (members_in (placed_in base told) g) → has_some e.attributes ≡ true → In e (found_for (member_way told base) (group_values g))
to_step told base g e h c =
    let m = filter_in (λ (x : DirEntry). holds g x.dn) e (placed_in base told) h in
    let t = filter_in (λ (x : DirEntry). is_placed base (spelled x.dn)) e told m.0 in
    let b = and_parts (is_group g.attributes) (has_value (codes "member") (λ value. same_dn_text value e.dn) g.attributes) m.1 in
    let v = holds_value g.attributes e.dn b.1 in
    let same : same_dn_text e.dn v.0 ≡ true = dn_texts_same.flip e.dn v.0 ∙ v.2 in
    in_flat (member_way told base).answers v.0 e (admitted_of (member_way told base) (group_values g))
    (in_filter (λ text. admitted (member_way told base).admits (spelled text)) v.0 (group_values g) (value_group g v.0 b.0 v.1) (sym (placed_so base (spelled e.dn) (spelled v.0) same) ∙ t.1))
    (at_read told v.0 e t.0 same c)

-- ---- paths of both kinds

reach_rest : (told : List DirEntry) (base : List (List Pair)) (n : ℕ) (x e : DirEntry) → In e (x ∷ ends (member_way told base) n (group_values x)) → (In e (ends (member_way told base) n (group_values x)) → In e (reached (placed_in base told) n x)) → In e (x ∷ reached (placed_in base told) n x)
reach_rest told base n x e (inl same) k = inl same
reach_rest told base n x e (inr h) k = inr (k h)

pub reach : (told : List DirEntry) (base : List (List Pair)) (n : ℕ) (g e : DirEntry) → In e (ends (member_way told base) n (group_values g)) → In e (reached (placed_in base told) n g)
reach told base zero g e h = absurd h
reach told base (suc n) g e h =
    let f = in_from (λ (x : DirEntry). x ∷ ends (member_way told base) n ((member_way told base).leads x)) e (found_for (member_way told base) (group_values g)) h in
    in_flat (λ (x : DirEntry). x ∷ reached (placed_in base told) n x) f.source e (members_in (placed_in base told) g) (step_to told base g f.source f.among)
    (reach_rest told base n f.source e f.gives (reach told base n f.source e))

-- what a path goes on from is a group
on_path : (entries : List DirEntry) (n : ℕ) (x e : DirEntry) → In e (reached entries n x) → is_group x.attributes ≡ true
on_path entries zero x e h = absurd h
on_path entries (suc n) x e h =
    let f = in_from (λ (y : DirEntry). y ∷ reached entries n y) e (members_in entries x) h in
    let m = filter_in (λ (y : DirEntry). holds x y.dn) f.source entries f.among in
    (and_parts (is_group x.attributes) (has_value (codes "member") (λ value. same_dn_text value f.source.dn) x.attributes) m.1).0

classed : (entries : List DirEntry) (n : ℕ) (x e : DirEntry) → In e (x ∷ reached entries n x) → has_some e.attributes ≡ true → has_some x.attributes ≡ true
classed entries n x e (inl same) c = subst (λ (y : DirEntry). has_some y.attributes ≡ true) (sym same) c
classed entries n x e (inr h) c = group_some x.attributes (on_path entries n x e h)

end_rest : (told : List DirEntry) (base : List (List Pair)) (n : ℕ) (x e : DirEntry) → In e (x ∷ reached (placed_in base told) n x) → (In e (reached (placed_in base told) n x) → In e (ends (member_way told base) n (group_values x))) → In e (x ∷ ends (member_way told base) n (group_values x))
end_rest told base n x e (inl same) k = inl same
end_rest told base n x e (inr h) k = inr (k h)

pub reached_end : (told : List DirEntry) (base : List (List Pair)) (n : ℕ) (g e : DirEntry) → has_some e.attributes ≡ true → In e (reached (placed_in base told) n g) → In e (ends (member_way told base) n (group_values g))
reached_end told base zero g e c h = absurd h
reached_end told base (suc n) g e c h =
    let f = in_from (λ (x : DirEntry). x ∷ reached (placed_in base told) n x) e (members_in (placed_in base told) g) h in
    in_flat (λ (x : DirEntry). x ∷ ends (member_way told base) n ((member_way told base).leads x)) f.source e (found_for (member_way told base) (group_values g))
    (to_step told base g f.source f.among (classed (placed_in base told) n f.source e f.gives c))
    (end_rest told base n f.source e f.gives (reached_end told base n f.source e c))

-- ---- the rounds of a group

start_sound : (told : List DirEntry) (base : List (List Pair)) (g : DirEntry) → IsSound (member_way told base) (group_values g) 0 (member_start base g)
start_sound told base g = record {
  found = λ e h. absurd h;
  due = λ text h. let t = taken (member_way told base).admits [] (group_values g) text h in record { is_admitted = t.is_admitted; comes = inl t.among };
}

start_marked : (told : List DirEntry) (base : List (List Pair)) (g : DirEntry) → IsMarked (member_way told base) (member_start base g)
start_marked told base g = record {
  seen = λ o h. spelled_among o (first_values base g) h;
  found = refl;
  leads = λ e text h l a. absurd h;
}

first_asked : (told : List DirEntry) (base : List (List Pair)) (g : DirEntry) → AreAsked (member_way told base) (rounds (member_way told base) (member_start base g) 1) (group_values g)
first_asked told base g text h a = spelled_among (spelled text) (first_values base g) (all_met (member_way told base).admits [] (group_values g) text h a)

-- the users found and the users reached
pub found_reached : (told : List DirEntry) (base : List (List Pair)) (n : ℕ) (g e : DirEntry) → In e (rounds (member_way told base) (member_start base g) n).found → In e (reached (placed_in base told) n g)
found_reached told base n g e h = reach told base n g e ((all_sound (member_way told base) (group_values g) (member_start base g) (start_sound told base g) n).found e h)

pub reached_found : (told : List DirEntry) (base : List (List Pair)) (n : ℕ) (g e : DirEntry) → has_some e.attributes ≡ true → In e (reached (placed_in base told) (suc n) g) → In e (rounds (member_way told base) (member_start base g) (suc n)).found
reached_found told base n g e c h =
    all_found (member_way told base) (read_alike told base) (member_start base g) (start_marked told base g) n 1 (suc n) (group_values g) (omega arith) (first_asked told base g) e
    (reached_end told base (suc n) g e c h)

-- ---- their names

named : (b : Bool) (o : Option (List ℕ)) (name : List ℕ) → In name (cond b (listed o) []) → b ≡ true
named true o name h = refl
named false o name h = absurd h

pub names_found : (told : List DirEntry) (base : List (List Pair)) (n : ℕ) (g : DirEntry) (name : List ℕ) → In name (user_names (rounds (member_way told base) (member_start base g) n).found) → In name (user_names (reached (placed_in base told) n g))
names_found told base n g name h =
    let f = in_from user_name name (rounds (member_way told base) (member_start base g) n).found h in
    in_flat user_name f.source name (reached (placed_in base told) n g) (found_reached told base n g f.source f.among) f.gives

pub names_reached : (told : List DirEntry) (base : List (List Pair)) (n : ℕ) (g : DirEntry) (name : List ℕ) → In name (user_names (reached (placed_in base told) (suc n) g)) → In name (user_names (rounds (member_way told base) (member_start base g) (suc n)).found)
names_reached told base n g name h =
    let f = in_from user_name name (reached (placed_in base told) (suc n) g) h in
    let c = user_some f.source.attributes (named (is_user f.source.attributes) _ name f.gives) in
    in_flat user_name f.source name (rounds (member_way told base) (member_start base g) (suc n)).found (reached_found told base n g f.source c f.among) f.gives
