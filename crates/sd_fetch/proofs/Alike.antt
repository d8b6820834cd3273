-- What is sent of an entry fits a key as the entry does, and is found as the same.
use Rattle.std.proofs.Common.{◌≡◌, ℕ, Bool, true, false, ◌||◌, Option, Some, None, List, [], ◌∷◌, Result, refl, sym, ap, ◌∙◌}
use Rattle.std.specs.Prelude.{codes}
use Rattle.sd_ldap.specs.declared.entry.Attribute.{Attribute}
use Rattle.sd_ldap.specs.declared.entry.DirEntry.{DirEntry}
use Rattle.sd_rules.specs.declared.keys.Key.{Key}
use Rattle.sd_rules.specs.declared.keys.Key.TheVariants as keys
use Rattle.sd_rules.specs.declared.settings.Settings.{Settings}
use Rattle.sd_match.specs.Answering.{sent, sent_attributes}
use Rattle.sd_conf.specs.declared.config.Config.{Config}
use Rattle.sd_dn.specs.declared.Pair.{Pair}
use Rattle.sd_schema.specs.declared.places.Place.{Place}
use Rattle.sd_schema.specs.declared.places.Place.TheVariants.{Users, Groups, Hosts, HostGroups, Services, ServiceGroups}
use Rattle.sd_rules.specs.Keys.{is_user_key, is_group_key, is_groups_key}
use Rattle.sd_schema.specs.Accounts.{fitting_user, fitting_group}
use Rattle.sd_schema.specs.Access.{fitting_host, fitting_rule, fitting_service}
use Rattle.sd_schema.specs.Places.{place_in, naming_of, names_in, names_at}
use Rattle.sd_fetch.specs.Searches.{user_attributes, group_attributes, host_attributes, rule_attributes, service_attributes, first_search, rules_search, services_search}
use Rattle.sd_fetch.specs.Lookup.{fits, user_of, group_of, host_of, rule_of, service_of}
use Rattle.sd_match.proofs.Sent.{IsKept, says_sent, first_sent}
use Rattle.sd_fetch.proofs.Sent.{holds_sent, like_sent, under_sent}

-- keys by which users are searched
abbrev pub is_user_search : Key → Bool
is_user_search key = is_user_key key || is_groups_key key

-- ---- users

user_keeps_class : IsKept user_attributes (codes "objectClass")
unfolding user_attributes
user_keeps_class = record { open_name = refl; among = refl }

user_keeps_uid : IsKept user_attributes (codes "uid")
unfolding user_attributes
user_keeps_uid = record { open_name = refl; among = refl }

user_keeps_number : IsKept user_attributes (codes "uidNumber")
unfolding user_attributes
user_keeps_number = record { open_name = refl; among = refl }

user_keeps_group : IsKept user_attributes (codes "gidNumber")
unfolding user_attributes
user_keeps_group = record { open_name = refl; among = refl }

user_keeps_home : IsKept user_attributes (codes "homeDirectory")
unfolding user_attributes
user_keeps_home = record { open_name = refl; among = refl }

user_keeps_gecos : IsKept user_attributes (codes "gecos")
unfolding user_attributes
user_keeps_gecos = record { open_name = refl; among = refl }

user_keeps_shell : IsKept user_attributes (codes "loginShell")
unfolding user_attributes
user_keeps_shell = record { open_name = refl; among = refl }

user_named : (name dn : List ℕ) (xs : List Attribute) (settings : Settings) → fitting_user dn (sent_attributes false user_attributes xs) settings (keys.User name) ≡ fitting_user dn xs settings (keys.User name)
user_named name dn xs settings = rw (says_sent user_attributes (codes "objectClass") (codes "posixAccount") user_keeps_class xs, holds_sent user_attributes (codes "uid") name user_keeps_uid xs, first_sent user_attributes (codes "uidNumber") user_keeps_number xs, first_sent user_attributes (codes "gidNumber") user_keeps_group xs, first_sent user_attributes (codes "homeDirectory") user_keeps_home xs, first_sent user_attributes (codes "gecos") user_keeps_gecos xs, first_sent user_attributes (codes "loginShell") user_keeps_shell xs) refl

groups_named : (name dn : List ℕ) (xs : List Attribute) (settings : Settings) → fitting_user dn (sent_attributes false user_attributes xs) settings (keys.GroupsOf name) ≡ fitting_user dn xs settings (keys.GroupsOf name)
groups_named name dn xs settings = rw (says_sent user_attributes (codes "objectClass") (codes "posixAccount") user_keeps_class xs, holds_sent user_attributes (codes "uid") name user_keeps_uid xs, first_sent user_attributes (codes "uidNumber") user_keeps_number xs, first_sent user_attributes (codes "gidNumber") user_keeps_group xs, first_sent user_attributes (codes "homeDirectory") user_keeps_home xs, first_sent user_attributes (codes "gecos") user_keeps_gecos xs, first_sent user_attributes (codes "loginShell") user_keeps_shell xs) refl

user_numbered : (uid : ℕ) (dn : List ℕ) (xs : List Attribute) (settings : Settings) → fitting_user dn (sent_attributes false user_attributes xs) settings (keys.Uid uid) ≡ fitting_user dn xs settings (keys.Uid uid)
user_numbered uid dn xs settings = rw (says_sent user_attributes (codes "objectClass") (codes "posixAccount") user_keeps_class xs, first_sent user_attributes (codes "uid") user_keeps_uid xs, first_sent user_attributes (codes "uidNumber") user_keeps_number xs, first_sent user_attributes (codes "gidNumber") user_keeps_group xs, first_sent user_attributes (codes "homeDirectory") user_keeps_home xs, first_sent user_attributes (codes "gecos") user_keeps_gecos xs, first_sent user_attributes (codes "loginShell") user_keeps_shell xs) refl

-- ---- groups

pub group_keeps_class : IsKept group_attributes (codes "objectClass")
unfolding group_attributes
group_keeps_class = record { open_name = refl; among = refl }

group_keeps_cn : IsKept group_attributes (codes "cn")
unfolding group_attributes
group_keeps_cn = record { open_name = refl; among = refl }

group_keeps_number : IsKept group_attributes (codes "gidNumber")
unfolding group_attributes
group_keeps_number = record { open_name = refl; among = refl }

pub group_keeps_member : IsKept group_attributes (codes "member")
unfolding group_attributes
group_keeps_member = record { open_name = refl; among = refl }

group_named : (name dn : List ℕ) (xs : List Attribute) (settings : Settings) → fitting_group dn (sent_attributes false group_attributes xs) settings (keys.Group name) ≡ fitting_group dn xs settings (keys.Group name)
group_named name dn xs settings = rw (says_sent group_attributes (codes "objectClass") (codes "posixGroup") group_keeps_class xs, holds_sent group_attributes (codes "cn") name group_keeps_cn xs, first_sent group_attributes (codes "gidNumber") group_keeps_number xs) refl

group_numbered : (gid : ℕ) (dn : List ℕ) (xs : List Attribute) (settings : Settings) → fitting_group dn (sent_attributes false group_attributes xs) settings (keys.Gid gid) ≡ fitting_group dn xs settings (keys.Gid gid)
group_numbered gid dn xs settings = rw (says_sent group_attributes (codes "objectClass") (codes "posixGroup") group_keeps_class xs, first_sent group_attributes (codes "cn") group_keeps_cn xs, first_sent group_attributes (codes "gidNumber") group_keeps_number xs) refl

-- ---- names at places

names_sent : (asked : List (List ℕ)) (base : List ℕ) (place : Place) (name : List ℕ) → IsKept asked name → (xs : List Attribute) → names_at base place name (sent_attributes false asked xs) ≡ names_at base place name xs
names_sent asked base place name k xs = within (place_in base place)
  where
    within : (container : Option (List (List Pair))) → names_in container (naming_of place) name (sent_attributes false asked xs) ≡ names_in container (naming_of place) name xs
    within None = refl
    within (Some container) = under_sent asked container (naming_of place) name k xs

-- ---- hosts, rules, services

host_keeps_class : IsKept host_attributes (codes "objectClass")
unfolding host_attributes
host_keeps_class = record { open_name = refl; among = refl }

host_keeps_fqdn : IsKept host_attributes (codes "fqdn")
unfolding host_attributes
host_keeps_fqdn = record { open_name = refl; among = refl }

host_keeps_groups : IsKept host_attributes (codes "memberOf")
unfolding host_attributes
host_keeps_groups = record { open_name = refl; among = refl }

host_sent : (xs : List Attribute) (base hostname : List ℕ) → fitting_host (sent_attributes false host_attributes xs) base hostname ≡ fitting_host xs base hostname
host_sent xs base hostname = rw (says_sent host_attributes (codes "objectClass") (codes "ipaHost") host_keeps_class xs, like_sent host_attributes (codes "fqdn") hostname host_keeps_fqdn xs, names_sent host_attributes base HostGroups (codes "memberOf") host_keeps_groups xs) refl

rule_keeps_class : IsKept rule_attributes (codes "objectClass")
unfolding rule_attributes
rule_keeps_class = record { open_name = refl; among = refl }

rule_keeps_cn : IsKept rule_attributes (codes "cn")
unfolding rule_attributes
rule_keeps_cn = record { open_name = refl; among = refl }

rule_keeps_flag : IsKept rule_attributes (codes "ipaEnabledFlag")
unfolding rule_attributes
rule_keeps_flag = record { open_name = refl; among = refl }

rule_keeps_type : IsKept rule_attributes (codes "accessRuleType")
unfolding rule_attributes
rule_keeps_type = record { open_name = refl; among = refl }

rule_keeps_users : IsKept rule_attributes (codes "memberUser")
unfolding rule_attributes
rule_keeps_users = record { open_name = refl; among = refl }

rule_keeps_user_category : IsKept rule_attributes (codes "userCategory")
unfolding rule_attributes
rule_keeps_user_category = record { open_name = refl; among = refl }

rule_keeps_hosts : IsKept rule_attributes (codes "memberHost")
unfolding rule_attributes
rule_keeps_hosts = record { open_name = refl; among = refl }

rule_keeps_host_category : IsKept rule_attributes (codes "hostCategory")
unfolding rule_attributes
rule_keeps_host_category = record { open_name = refl; among = refl }

rule_keeps_services : IsKept rule_attributes (codes "memberService")
unfolding rule_attributes
rule_keeps_services = record { open_name = refl; among = refl }

rule_keeps_service_category : IsKept rule_attributes (codes "serviceCategory")
unfolding rule_attributes
rule_keeps_service_category = record { open_name = refl; among = refl }

pub rule_sent : (xs : List Attribute) (base : List ℕ) → fitting_rule (sent_attributes false rule_attributes xs) base ≡ fitting_rule xs base
rule_sent xs base = rw (
  says_sent rule_attributes (codes "objectClass") (codes "ipaHBACRule") rule_keeps_class xs,
  first_sent rule_attributes (codes "cn") rule_keeps_cn xs,
  first_sent rule_attributes (codes "ipaEnabledFlag") rule_keeps_flag xs,
  first_sent rule_attributes (codes "accessRuleType") rule_keeps_type xs,
  says_sent rule_attributes (codes "userCategory") (codes "all") rule_keeps_user_category xs,
  names_sent rule_attributes base Users (codes "memberUser") rule_keeps_users xs,
  names_sent rule_attributes base Groups (codes "memberUser") rule_keeps_users xs,
  says_sent rule_attributes (codes "hostCategory") (codes "all") rule_keeps_host_category xs,
  names_sent rule_attributes base Hosts (codes "memberHost") rule_keeps_hosts xs,
  names_sent rule_attributes base HostGroups (codes "memberHost") rule_keeps_hosts xs,
  says_sent rule_attributes (codes "serviceCategory") (codes "all") rule_keeps_service_category xs,
  names_sent rule_attributes base Services (codes "memberService") rule_keeps_services xs,
  names_sent rule_attributes base ServiceGroups (codes "memberService") rule_keeps_services xs,
) refl

service_keeps_class : IsKept service_attributes (codes "objectClass")
unfolding service_attributes
service_keeps_class = record { open_name = refl; among = refl }

service_keeps_cn : IsKept service_attributes (codes "cn")
unfolding service_attributes
service_keeps_cn = record { open_name = refl; among = refl }

service_keeps_groups : IsKept service_attributes (codes "memberOf")
unfolding service_attributes
service_keeps_groups = record { open_name = refl; among = refl }

pub service_sent : (xs : List Attribute) (base : List ℕ) → fitting_service (sent_attributes false service_attributes xs) base ≡ fitting_service xs base
service_sent xs base = rw (says_sent service_attributes (codes "objectClass") (codes "ipaHBACService") service_keeps_class xs, first_sent service_attributes (codes "cn") service_keeps_cn xs, names_sent service_attributes base ServiceGroups (codes "memberOf") service_keeps_groups xs) refl

-- ---- keys

pub fits_sent : (config : Config) (key : Key) (e : DirEntry) → fits config key (sent (first_search config key) e) ≡ fits config key e
fits_sent config (keys.User name) e = rw (user_named name e.dn e.attributes config.settings) refl
fits_sent config (keys.Uid uid) e = rw (user_numbered uid e.dn e.attributes config.settings) refl
fits_sent config (keys.Group name) e = rw (group_named name e.dn e.attributes config.settings) refl
fits_sent config (keys.Gid gid) e = rw (group_numbered gid e.dn e.attributes config.settings) refl
fits_sent config (keys.GroupsOf name) e = rw (groups_named name e.dn e.attributes config.settings) refl
fits_sent config keys.Host e = rw (host_sent e.attributes config.base config.settings.hostname) refl
fits_sent config keys.Rules e = refl

pub user_of_sent : (config : Config) (key : Key) (e : DirEntry) → is_user_search key ≡ true → user_of config key (sent (first_search config key) e) ≡ user_of config key e
user_of_sent config (keys.User name) e h = user_named name e.dn e.attributes config.settings
user_of_sent config (keys.Uid uid) e h = user_numbered uid e.dn e.attributes config.settings
user_of_sent config (keys.GroupsOf name) e h = groups_named name e.dn e.attributes config.settings
user_of_sent config (keys.Group name) e h = absurd cc
user_of_sent config (keys.Gid gid) e h = absurd cc
user_of_sent config keys.Host e h = absurd cc
user_of_sent config keys.Rules e h = absurd cc

pub group_of_sent : (config : Config) (key : Key) (e : DirEntry) → is_group_key key ≡ true → group_of config key (sent (first_search config key) e) ≡ group_of config key e
group_of_sent config (keys.Group name) e h = group_named name e.dn e.attributes config.settings
group_of_sent config (keys.Gid gid) e h = group_numbered gid e.dn e.attributes config.settings
group_of_sent config (keys.User name) e h = absurd cc
group_of_sent config (keys.Uid uid) e h = absurd cc
group_of_sent config (keys.GroupsOf name) e h = absurd cc
group_of_sent config keys.Host e h = absurd cc
group_of_sent config keys.Rules e h = absurd cc

pub host_of_sent : (config : Config) (e : DirEntry) → host_of config (sent (first_search config keys.Host) e) ≡ host_of config e
host_of_sent config e = host_sent e.attributes config.base config.settings.hostname

pub rule_of_sent : (config : Config) (e : DirEntry) → rule_of config (sent (rules_search config.base) e) ≡ rule_of config e
rule_of_sent config e = rule_sent e.attributes config.base

pub service_of_sent : (config : Config) (e : DirEntry) → service_of config (sent (services_search config.base) e) ≡ service_of config e
service_of_sent config e = service_sent e.attributes config.base
