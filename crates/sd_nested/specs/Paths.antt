-- Member paths: from a group to an entry whose DN equals one of its member values, and so on.
use Rattle.std.specs.Prelude.{ℕ, zero, suc, Bool, false, ◌&&◌, List, [], ◌∷◌, filter, Option, Some, None, codes}
use Rattle.std.specs.List.{flat_map}
use Rattle.sd_dn.specs.declared.Pair.{Pair}
use Rattle.sd_dn.specs.Comparing.{ends_with}
use Rattle.sd_dn.specs.Texts.{spelled, same_dn_text}
use Rattle.sd_ldap.specs.declared.entry.DirEntry.{DirEntry}
use Rattle.sd_match.specs.Matching.{has_value}
use Rattle.sd_match.specs.Answering.{is_at_or_under}
use Rattle.sd_rules.specs.declared.records.GroupRef.{GroupRef}
use Rattle.sd_nested.specs.Named.{is_group, user_names, group_refs}
use Rattle.sd_nested.specs.Order.{in_order, refs_in_order}

-- a DN at or under the base
abbrev pub is_placed : List (List Pair) → Option (List (List Pair)) → Bool
is_placed base None = false
is_placed base (Some dn) = ends_with dn base

-- the entries at or under a DN
abbrev pub placed_in : List (List Pair) → List DirEntry → List DirEntry
placed_in base entries = filter (λ (e : DirEntry). is_placed base (spelled e.dn)) entries

-- the entries at or under the DN that a text spells
abbrev pub at_or_under : List ℕ → List DirEntry → List DirEntry
at_or_under base entries = filter (λ (e : DirEntry). is_at_or_under base e) entries

-- it is a group, one of whose member values equals the DN
abbrev pub holds : DirEntry → List ℕ → Bool
holds group dn = is_group group.attributes && has_value (codes "member") (λ value. same_dn_text value dn) group.attributes

-- the entries one step away from a group
abbrev pub members_in : List DirEntry → DirEntry → List DirEntry
members_in entries group = filter (λ (e : DirEntry). holds group e.dn) entries

-- the ends of the paths of 1 to n steps from a group
abbrev pub reached : List DirEntry → ℕ → DirEntry → List DirEntry
reached entries zero group = []
reached entries (suc n) group = flat_map (λ (e : DirEntry). e ∷ reached entries n e) (members_in entries group)

-- the groups one step before a DN
abbrev pub holders_in : List DirEntry → List ℕ → List DirEntry
holders_in entries dn = filter (λ (e : DirEntry). holds e dn) entries

-- the starts of the paths of 1 to n steps to a DN
abbrev pub holding : List DirEntry → ℕ → List ℕ → List DirEntry
holding entries zero dn = []
holding entries (suc n) dn = flat_map (λ (e : DirEntry). e ∷ holding entries n e.dn) (holders_in entries dn)

-- the names of the users at the ends of the paths of 1 to level + 1 steps, among the entries at or under the base
abbrev pub members_of : List DirEntry → List (List Pair) → ℕ → DirEntry → List (List ℕ)
members_of entries base level group = in_order (user_names (reached (placed_in base entries) (suc level) group))

-- the groups at the starts of the paths of 1 to level + 1 steps to a user's DN
abbrev pub groups_of_user : List DirEntry → ℕ → List ℕ → List GroupRef
groups_of_user entries level dn = refs_in_order (group_refs (holding entries (suc level) dn))
