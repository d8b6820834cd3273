-- What a directory sends of its sudo rules has the rules of the directory.
use Rattle.std.specs.Prelude.{filter, codes, not}
use Rattle.std.proofs.Common.{◌≡◌, ℕ, Bool, true, false, cond, ◌&&◌, List, [], ◌∷◌, ◌++◌, map, Option, Some, None, refl, sym, ap, ◌∙◌}
use Rattle.sd_dn.specs.Texts.{spelled}
use Rattle.sd_ldap.specs.declared.entry.Attribute.{Attribute}
use Rattle.sd_ldap.specs.declared.entry.DirEntry.{DirEntry}
use Rattle.sd_entry.specs.Values.{first_of, has_class}
use Rattle.sd_match.specs.Matching.{matches}
use Rattle.sd_match.specs.Answering.{sent_attributes, sent, is_at_or_under, is_found, found}
use Rattle.sd_match.proofs.Sent.{IsKept, says_sent, values_sent, first_sent}
use Rattle.sd_fetch.proofs.Found.{whole_scope}
use Rattle.sd_roles.specs.declared.roles.Role.{Role}
use Rattle.sd_roles.specs.Roles.{handed_of, role_named, role_by, role_of}
use Rattle.sd_sudo.specs.Searches.{asked_attributes, role_search}
use Rattle.sd_sudo.specs.Listing.{listed, roles_of, roles_in}

-- ---- the attributes of a rule

class_kept : IsKept asked_attributes (codes "objectClass")
unfolding asked_attributes
class_kept = record { open_name = refl; among = refl }

name_kept : IsKept asked_attributes (codes "cn")
unfolding asked_attributes
name_kept = record { open_name = refl; among = refl }

users_kept : IsKept asked_attributes (codes "sudoUser")
unfolding asked_attributes
users_kept = record { open_name = refl; among = refl }

order_kept : IsKept asked_attributes (codes "sudoOrder")
unfolding asked_attributes
order_kept = record { open_name = refl; among = refl }

hosts_kept : IsKept asked_attributes (codes "sudoHost")
unfolding asked_attributes
hosts_kept = record { open_name = refl; among = refl }

commands_kept : IsKept asked_attributes (codes "sudoCommand")
unfolding asked_attributes
commands_kept = record { open_name = refl; among = refl }

run_users_kept : IsKept asked_attributes (codes "sudoRunAsUser")
unfolding asked_attributes
run_users_kept = record { open_name = refl; among = refl }

run_groups_kept : IsKept asked_attributes (codes "sudoRunAsGroup")
unfolding asked_attributes
run_groups_kept = record { open_name = refl; among = refl }

options_kept : IsKept asked_attributes (codes "sudoOption")
unfolding asked_attributes
options_kept = record { open_name = refl; among = refl }

handed_sent : (xs : List Attribute) → handed_of (sent_attributes false asked_attributes xs) ≡ handed_of xs
handed_sent xs =
    rw (
      values_sent asked_attributes (codes "sudoHost") hosts_kept xs,
      values_sent asked_attributes (codes "sudoCommand") commands_kept xs,
      values_sent asked_attributes (codes "sudoRunAsUser") run_users_kept xs,
      values_sent asked_attributes (codes "sudoRunAsGroup") run_groups_kept xs,
      values_sent asked_attributes (codes "sudoOption") options_kept xs,
    ) refl

module _ (base : List ℕ) (e : DirEntry) where
  named_so : (name : List ℕ) → role_named (sent (role_search base) e) name ≡ role_named e name
  named_so name =
      rw (first_sent asked_attributes (codes "sudoOrder") order_kept e.attributes, values_sent asked_attributes (codes "sudoUser") users_kept e.attributes, handed_sent e.attributes) refl

  by_sent : (name : Option (List ℕ)) → role_by (sent (role_search base) e) name ≡ role_by e name
  by_sent None = refl
  by_sent (Some []) = refl
  by_sent (Some (b ∷ bs)) = ap (λ (r : Role). Some r) (named_so (b ∷ bs))

  -- what is sent of an entry is the same rule
  role_sent : role_of (sent (role_search base) e) ≡ role_of e
  role_sent =
      ap (λ (b : Bool). cond b (role_by (sent (role_search base) e) (first_of (codes "cn") (sent_attributes false asked_attributes e.attributes))) None) (says_sent asked_attributes (codes "objectClass") (codes "sudoRole") class_kept e.attributes)
      ∙ (ap (λ (name : Option (List ℕ)). cond (has_class (codes "sudoRole") e.attributes) (role_by (sent (role_search base) e) name) None) (first_sent asked_attributes (codes "cn") name_kept e.attributes)
      ∙ ap (λ (r : Option Role). cond (has_class (codes "sudoRole") e.attributes) r None) (by_sent (first_of (codes "cn") e.attributes)))

  -- what is not found is none
  not_matched : matches (role_search base).filter e.attributes ≡ false → listed (role_of e) ≡ []
  not_matched h = ap (λ (b : Bool). listed (cond b (role_by e (first_of (codes "cn") e.attributes)) None)) h

  placed : is_found (role_search base) e ≡ (is_at_or_under base e && matches (role_search base).filter e.attributes)
  placed = ap (λ (b : Bool). b && matches (role_search base).filter e.attributes) (whole_scope (spelled e.dn) (spelled base))

-- ---- the rules of the entries found

found_step : (base : List ℕ) (e : DirEntry) (kept all : List DirEntry) (b c : Bool) → (c ≡ false → listed (role_of e) ≡ []) → roles_of (map (sent (role_search base)) kept) ≡ roles_of all
    → roles_of (map (sent (role_search base)) (cond (b && c) (e ∷ kept) kept)) ≡ roles_of (cond b (e ∷ all) all)
found_step base e kept all true true f h = ap (λ (rs : List Role). listed (role_of (sent (role_search base) e)) ++ rs) h ∙ ap (λ (r : Option Role). listed r ++ roles_of all) (role_sent base e)
found_step base e kept all true false f h = h ∙ ap (λ (rs : List Role). rs ++ roles_of all) (sym (f refl))
found_step base e kept all false c f h = h

pub roles_found : (base : List ℕ) (entries : List DirEntry) → roles_of (map (sent (role_search base)) (found entries (role_search base))) ≡ roles_in entries base
roles_found base [] = refl
roles_found base (e ∷ es) =
    ap (λ (b : Bool). roles_of (map (sent (role_search base)) (cond b (e ∷ found es (role_search base)) (found es (role_search base))))) (placed base e)
    ∙ found_step base e (found es (role_search base)) (filter (λ (d : DirEntry). is_at_or_under base d) es) (is_at_or_under base e) (matches (role_search base).filter e.attributes) (not_matched base e) (roles_found base es)
