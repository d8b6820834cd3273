-- The lookup of a key in a directory: what the whole list of its entries says.
use Rattle.std.specs.Prelude.{ℕ, Bool, true, false, ◌-◌, ◌^◌, min, List, [], ◌∷◌, filter, length, Option, Some, None, Result, Ok, Err, codes}
use Rattle.std.specs.List.{flat_map}
use Rattle.sd_dn.specs.declared.Pair.{Pair}
use Rattle.sd_dn.specs.Comparing.{is_below}
use Rattle.sd_dn.specs.Texts.{spelled, both_meet}
use Rattle.sd_ldap.specs.declared.entry.DirEntry.{DirEntry}
use Rattle.sd_rules.specs.declared.keys.Key.{Key}
use Rattle.sd_rules.specs.declared.keys.Key.TheVariants as keys
use Rattle.sd_rules.specs.declared.records.Record.{Record}
use Rattle.sd_rules.specs.declared.records.Record.TheVariants as records
use Rattle.sd_rules.specs.declared.records.User.{User}
use Rattle.sd_rules.specs.declared.records.Group.{Group}
use Rattle.sd_rules.specs.declared.records.GroupRef.{GroupRef}
use Rattle.sd_rules.specs.declared.records.Host.{Host}
use Rattle.sd_rules.specs.declared.records.Rule.{Rule}
use Rattle.sd_rules.specs.declared.records.Service.{Service}
use Rattle.sd_rules.specs.declared.tasks.Fetched.{Fetched}
use Rattle.sd_rules.specs.declared.tasks.Fetched.TheVariants.{Found, Absent, Many}
use Rattle.sd_conf.specs.declared.config.Config.{Config}
use Rattle.sd_schema.specs.Accounts.{fitting_user, fitting_group}
use Rattle.sd_schema.specs.Access.{fitting_host, fitting_rule, fitting_service}
use Rattle.sd_nested.specs.Paths.{at_or_under, members_of, groups_of_user}
use Rattle.sd_fetch.specs.Searches.{rules_place, services_place}

abbrev pub is_fit : {A : Type 0} → Result A (List ℕ) → Bool
is_fit (Ok found) = true
is_fit (Err name) = false

-- what fits is listed
abbrev pub listed : {A : Type 0} → Result A (List ℕ) → List A
listed (Ok found) = found ∷ []
listed (Err name) = []

abbrev pub user_of : Config → Key → DirEntry → Result User (List ℕ)
user_of config key e = fitting_user e.dn e.attributes config.settings key

abbrev pub group_of : Config → Key → DirEntry → Result Group (List ℕ)
group_of config key e = fitting_group e.dn e.attributes config.settings key

abbrev pub host_of : Config → DirEntry → Result Host (List ℕ)
host_of config e = fitting_host e.attributes config.base config.settings.hostname

abbrev pub rule_of : Config → DirEntry → Result Rule (List ℕ)
rule_of config e = fitting_rule e.attributes config.base

abbrev pub service_of : Config → DirEntry → Result Service (List ℕ)
service_of config e = fitting_service e.attributes config.base

-- the entry is the record that the key asks for; rules are asked for all together
abbrev pub fits : Config → Key → DirEntry → Bool
fits config (keys.User name) e = is_fit (user_of config (keys.User name) e)
fits config (keys.Uid uid) e = is_fit (user_of config (keys.Uid uid) e)
fits config (keys.Group name) e = is_fit (group_of config (keys.Group name) e)
fits config (keys.Gid gid) e = is_fit (group_of config (keys.Gid gid) e)
fits config (keys.GroupsOf name) e = is_fit (user_of config (keys.GroupsOf name) e)
fits config keys.Host e = is_fit (host_of config e)
fits config keys.Rules e = false

-- ---- what one entry that fits is found as

abbrev pub found_from : {A : Type 0} → (A → Record) → Result A (List ℕ) → Fetched
found_from made (Ok found) = Found (made found)
found_from made (Err name) = Absent

abbrev pub with_members : List (List ℕ) → Group → Record
with_members members group = records.Group (record group { members = members })

abbrev pub with_groups : List GroupRef → User → Record
with_groups groups user = records.Groups (record { user = user.name; groups = groups })

-- the members of a group at the ends of its member paths, among the entries at or under the base
abbrev pub members_under : Option (List (List Pair)) → List DirEntry → ℕ → DirEntry → List (List ℕ)
members_under None entries level group = []
members_under (Some base) entries level group = members_of entries base level group

abbrev pub members_in : Config → List DirEntry → DirEntry → List (List ℕ)
members_in config entries group = members_under (spelled config.base) entries config.level group

-- the groups at the starts of the member paths to a user
abbrev pub groups_in : Config → List DirEntry → DirEntry → List GroupRef
groups_in config entries user = groups_of_user (at_or_under config.base entries) config.level user.dn

-- a group as its entry says, with its members in a directory
abbrev pub group_with_members : Config → Key → List DirEntry → DirEntry → Fetched
group_with_members config key entries e = found_from (with_members (members_in config entries e)) (group_of config key e)

-- a user as its entry says, with its groups in a directory
abbrev pub user_with_groups : Config → Key → List DirEntry → DirEntry → Fetched
user_with_groups config key entries e = found_from (with_groups (groups_in config entries e)) (user_of config key e)

abbrev pub found_as : Config → Key → List DirEntry → DirEntry → Fetched
found_as config (keys.User name) entries e = found_from records.User (user_of config (keys.User name) e)
found_as config (keys.Uid uid) entries e = found_from records.User (user_of config (keys.Uid uid) e)
found_as config (keys.Group name) entries e = found_from (with_members (members_in config entries e)) (group_of config (keys.Group name) e)
found_as config (keys.Gid gid) entries e = found_from (with_members (members_in config entries e)) (group_of config (keys.Gid gid) e)
found_as config (keys.GroupsOf name) entries e = found_from (with_groups (groups_in config entries e)) (user_of config (keys.GroupsOf name) e)
found_as config keys.Host entries e = found_from records.Host (host_of config e)
found_as config keys.Rules entries e = Absent

-- none that fits is absence, one is found, and more are many
abbrev pub one_of : (DirEntry → Fetched) → List DirEntry → Fetched
one_of found [] = Absent
one_of found (e ∷ []) = found e
one_of found (e ∷ other ∷ others) = Many (min (length (e ∷ other ∷ others)) (2 ^ 32 - 1))

-- ---- access rules

-- under a place, which is not the place itself
abbrev pub is_strictly_under : List ℕ → DirEntry → Bool
is_strictly_under place e = both_meet is_below (spelled e.dn) (spelled place)

abbrev pub under_place : List ℕ → List DirEntry → List DirEntry
under_place place entries = filter (λ (e : DirEntry). is_strictly_under place e) entries

abbrev pub rules_among : Config → List DirEntry → List Rule
rules_among config entries = flat_map (λ (e : DirEntry). listed (rule_of config e)) (under_place (rules_place config.base) entries)

abbrev pub services_among : Config → List DirEntry → List Service
services_among config entries = flat_map (λ (e : DirEntry). listed (service_of config e)) (under_place (services_place config.base) entries)

-- all rules and services that fit, in the list's order
abbrev pub rules_found : Config → List DirEntry → Fetched
rules_found config entries = Found (records.Rules (record { rules = rules_among config entries; services = services_among config entries }))

-- ---- the lookup

abbrev pub fitting : Config → Key → List DirEntry → List DirEntry
fitting config key entries = filter (λ (e : DirEntry). fits config key e) (at_or_under config.base entries)

unfoldable pub looked_up : Config → List DirEntry → Key → Fetched
looked_up config entries keys.Rules = rules_found config entries
looked_up config entries key = one_of (λ e. found_as config key entries e) (fitting config key entries)
