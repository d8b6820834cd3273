-- What is sent of an entry says the same of its classes, names, numbers and members.
use Rattle.std.proofs.Common.{◌≡◌, ℕ, Bool, false, ◌&&◌, List, [], ◌∷◌, ◌++◌, map, Option, None, refl, sym, ap, ◌∙◌, cond, ◌<◌, ◌+◌, length, take, get_or, append_assoc}
use Rattle.std.proofs.lemmas.Grind.{flat_map-append}
use Rattle.std.proofs.lemmas.List.{take_more, append-nil}
use Rattle.std.specs.Prelude.{codes}
use Rattle.std.specs.List.{flat_map}
use Rattle.sd_ldap.specs.declared.entry.Attribute.{Attribute}
use Rattle.sd_ldap.specs.declared.entry.DirEntry.{DirEntry}
use Rattle.sd_entry.specs.Values.{first_of, has_class}
use Rattle.sd_entry.specs.Users.{is_filled, holds_number, is_user}
use Rattle.sd_match.specs.Answering.{found, sent, sent_attributes}
use Rattle.sd_match.proofs.Sent.{IsKept, says_sent, values_sent, first_sent, all_sent}
use Rattle.sd_rules.specs.declared.records.GroupRef.{GroupRef}
use Rattle.sd_nested.specs.declared.rounds.Direction.{Direction}
use Rattle.sd_nested.specs.declared.rounds.Direction.TheVariants as directions
use Rattle.sd_nested.specs.Searches.{asked_attributes}
use Rattle.sd_nested.specs.Named.{is_group, member_values, called, number_from}
use Rattle.sd_nested.specs.Directions.{kept_by, leads_by, search_by, way_by}

classes_kept : IsKept asked_attributes (codes "objectClass")
classes_kept = record { open_name = refl; among = refl }

uids_kept : IsKept asked_attributes (codes "uid")
uids_kept = record { open_name = refl; among = refl }

uid_numbers_kept : IsKept asked_attributes (codes "uidNumber")
uid_numbers_kept = record { open_name = refl; among = refl }

gid_numbers_kept : IsKept asked_attributes (codes "gidNumber")
gid_numbers_kept = record { open_name = refl; among = refl }

homes_kept : IsKept asked_attributes (codes "homeDirectory")
homes_kept = record { open_name = refl; among = refl }

cns_kept : IsKept asked_attributes (codes "cn")
cns_kept = record { open_name = refl; among = refl }

members_kept : IsKept asked_attributes (codes "member")
members_kept = record { open_name = refl; among = refl }

members_sent : (xs : List Attribute) → member_values (sent_attributes false asked_attributes xs) ≡ member_values xs
members_sent xs = values_sent asked_attributes (codes "member") members_kept xs

class_sent : (class : List ℕ) (xs : List Attribute) → has_class class (sent_attributes false asked_attributes xs) ≡ has_class class xs
class_sent class xs = says_sent asked_attributes (codes "objectClass") class classes_kept xs

group_values_sent : (xs : List Attribute) → cond (is_group (sent_attributes false asked_attributes xs)) (member_values (sent_attributes false asked_attributes xs)) [] ≡ cond (is_group xs) (member_values xs) []
group_values_sent xs = rw (class_sent (codes "posixGroup") xs, class_sent (codes "groupOfNames") xs, members_sent xs) refl

-- a user's attributes, one by one
user_by : Bool → Option (List ℕ) → Option (List ℕ) → Option (List ℕ) → Option (List ℕ) → Bool
user_by class uid number gid home = class && (is_filled uid && (holds_number number && (holds_number gid && is_filled home)))

user_sent : (xs : List Attribute) → is_user (sent_attributes false asked_attributes xs) ≡ is_user xs
unfolding user_by
user_sent xs =
    ap (λ (b : Bool). user_by b (first_of (codes "uid") (sent_attributes false asked_attributes xs)) (first_of (codes "uidNumber") (sent_attributes false asked_attributes xs)) (first_of (codes "gidNumber") (sent_attributes false asked_attributes xs)) (first_of (codes "homeDirectory") (sent_attributes false asked_attributes xs))) (class_sent (codes "posixAccount") xs)
    ∙ (ap (λ (v : Option (List ℕ)). user_by (has_class (codes "posixAccount") xs) v (first_of (codes "uidNumber") (sent_attributes false asked_attributes xs)) (first_of (codes "gidNumber") (sent_attributes false asked_attributes xs)) (first_of (codes "homeDirectory") (sent_attributes false asked_attributes xs))) (first_sent asked_attributes (codes "uid") uids_kept xs)
    ∙ (ap (λ (v : Option (List ℕ)). user_by (has_class (codes "posixAccount") xs) (first_of (codes "uid") xs) v (first_of (codes "gidNumber") (sent_attributes false asked_attributes xs)) (first_of (codes "homeDirectory") (sent_attributes false asked_attributes xs))) (first_sent asked_attributes (codes "uidNumber") uid_numbers_kept xs)
    ∙ (ap (λ (v : Option (List ℕ)). user_by (has_class (codes "posixAccount") xs) (first_of (codes "uid") xs) (first_of (codes "uidNumber") xs) v (first_of (codes "homeDirectory") (sent_attributes false asked_attributes xs))) (first_sent asked_attributes (codes "gidNumber") gid_numbers_kept xs)
    ∙ ap (λ (v : Option (List ℕ)). user_by (has_class (codes "posixAccount") xs) (first_of (codes "uid") xs) (first_of (codes "uidNumber") xs) (first_of (codes "gidNumber") xs) v) (first_sent asked_attributes (codes "homeDirectory") homes_kept xs))))

user_ref_sent : (xs : List Attribute) → cond (is_user (sent_attributes false asked_attributes xs)) (called (first_of (codes "uid") (sent_attributes false asked_attributes xs)) None) [] ≡ cond (is_user xs) (called (first_of (codes "uid") xs) None) []
user_ref_sent xs =
    ap (λ (b : Bool). cond b (called (first_of (codes "uid") (sent_attributes false asked_attributes xs)) None) []) (user_sent xs)
    ∙ ap (λ (v : Option (List ℕ)). cond (is_user xs) (called v None) []) (first_sent asked_attributes (codes "uid") uids_kept xs)

group_ref_by : Option (List ℕ) → Option (List ℕ) → List GroupRef
group_ref_by name gid = cond (is_filled name) (called name (number_from gid)) []

group_ref_sent : (xs : List Attribute) → group_ref_by (first_of (codes "cn") (sent_attributes false asked_attributes xs)) (first_of (codes "gidNumber") (sent_attributes false asked_attributes xs)) ≡ group_ref_by (first_of (codes "cn") xs) (first_of (codes "gidNumber") xs)
group_ref_sent xs =
    ap (λ (v : Option (List ℕ)). group_ref_by v (first_of (codes "gidNumber") (sent_attributes false asked_attributes xs))) (first_sent asked_attributes (codes "cn") cns_kept xs)
    ∙ ap (λ (v : Option (List ℕ)). group_ref_by (first_of (codes "cn") xs) v) (first_sent asked_attributes (codes "gidNumber") gid_numbers_kept xs)

-- ---- what is kept of an entry, and what it leads on to

pub kept_sent : (d : Direction) (base dn : List ℕ) (e : DirEntry) → kept_by d (sent (search_by d base dn) e) ≡ kept_by d e
unfolding group_ref_by
kept_sent (directions.Members own) base dn e = user_ref_sent e.attributes
kept_sent directions.Holders base dn e = group_ref_sent e.attributes

pub leads_sent : (d : Direction) (base dn : List ℕ) (e : DirEntry) → leads_by d (sent (search_by d base dn) e) ≡ leads_by d e
leads_sent (directions.Members own) base dn e = group_values_sent e.attributes
leads_sent directions.Holders base dn e = refl

answers_are : (told : List DirEntry) (base : List ℕ) (d : Direction) (dn : List ℕ) → found told (search_by d base dn) ≡ (way_by told base d).answers dn
answers_are told base (directions.Members own) dn = refl
answers_are told base directions.Holders dn = refl

one_answer : (told : List DirEntry) (base : List ℕ) (d : Direction) (due : List (List ℕ)) (i : ℕ) (dn : List ℕ) → i < length due → dn ≡ get_or due i dn
    → flat_map (way_by told base d).answers (take (i + 1) due) ≡ flat_map (way_by told base d).answers (take i due) ++ (way_by told base d).answers dn
one_answer told base d due i dn lt is =
    let w : List ℕ → List DirEntry = (way_by told base d).answers in
    ap (flat_map w) (take_more due i dn lt ∙ ap (λ (t : List ℕ). take i due ++ t ∷ []) (sym is))
    ∙ (flat_map-append w (take i due) (dn ∷ [])
    ∙ ap (λ (es : List DirEntry). flat_map w (take i due) ++ es) (append-nil (w dn)))

-- what a round gathers, after one answer more
gathered : {Y : Type 0} (f : DirEntry → List Y) (told : List DirEntry) (base : List ℕ) (d : Direction) (due : List (List ℕ)) (i : ℕ) (dn : List ℕ) (first so_far now : List Y) (given : List DirEntry)
    → ((e : DirEntry) → f (sent (search_by d base dn) e) ≡ f e) → i < length due → dn ≡ get_or due i dn → given ≡ map (sent (search_by d base dn)) (found told (search_by d base dn))
    → now ≡ so_far ++ flat_map f given → so_far ≡ first ++ flat_map f (flat_map (way_by told base d).answers (take i due))
    → now ≡ first ++ flat_map f (flat_map (way_by told base d).answers (take (i + 1) due))
gathered {Y} f told base d due i dn first so_far now given h lt is g n s =
    let w : List ℕ → List DirEntry = (way_by told base d).answers in
    let here : flat_map f given ≡ flat_map f (w dn) = ap (flat_map f) g ∙ (all_sent f (search_by d base dn) h (found told (search_by d base dn)) ∙ ap (flat_map f) (answers_are told base d dn)) in
    let joined : flat_map f (flat_map w (take (i + 1) due)) ≡ flat_map f (flat_map w (take i due)) ++ flat_map f (w dn) = ap (flat_map f) (one_answer told base d due i dn lt is) ∙ flat_map-append f (flat_map w (take i due)) (w dn) in
    n
    ∙ (ap (λ (ys : List Y). so_far ++ ys) here
    ∙ (ap (λ (ys : List Y). ys ++ flat_map f (w dn)) s
    ∙ (append_assoc first (flat_map f (flat_map w (take i due))) (flat_map f (w dn))
    ∙ ap (λ (ys : List Y). first ++ ys) (sym joined))))

pub kept_more : (told : List DirEntry) (base : List ℕ) (d : Direction) (due : List (List ℕ)) (i : ℕ) (dn : List ℕ) (first so_far now : List GroupRef) (given : List DirEntry)
    → i < length due → dn ≡ get_or due i dn → given ≡ map (sent (search_by d base dn)) (found told (search_by d base dn))
    → now ≡ so_far ++ flat_map (kept_by d) given → so_far ≡ first ++ flat_map (kept_by d) (flat_map (way_by told base d).answers (take i due))
    → now ≡ first ++ flat_map (kept_by d) (flat_map (way_by told base d).answers (take (i + 1) due))
kept_more told base d due i dn first so_far now given = gathered (kept_by d) told base d due i dn first so_far now given (kept_sent d base dn)

pub leads_more : (told : List DirEntry) (base : List ℕ) (d : Direction) (due : List (List ℕ)) (i : ℕ) (dn : List ℕ) (first so_far now : List (List ℕ)) (given : List DirEntry)
    → i < length due → dn ≡ get_or due i dn → given ≡ map (sent (search_by d base dn)) (found told (search_by d base dn))
    → now ≡ so_far ++ flat_map (leads_by d) given → so_far ≡ first ++ flat_map (leads_by d) (flat_map (way_by told base d).answers (take i due))
    → now ≡ first ++ flat_map (leads_by d) (flat_map (way_by told base d).answers (take (i + 1) due))
leads_more told base d due i dn first so_far now given = gathered (leads_by d) told base d due i dn first so_far now given (leads_sent d base dn)
