-- The searches that a lookup sends: what they ask of which part of the tree (RFC 4511 section 4.5.1).
use Rattle.std.specs.Prelude.{ℕ, Bool, true, false, List, [], ◌∷◌, codes}
use Rattle.std.specs.Fmt.{decimal}
use Rattle.sd_ldap.specs.Filters.{FilterValue, both, equal, no_filters, with_filter}
use Rattle.sd_ldap.specs.Values.{SearchValue}
use Rattle.sd_schema.specs.Places.{at_base}
use Rattle.sd_rules.specs.declared.keys.Key.{Key}
use Rattle.sd_rules.specs.declared.keys.Key.TheVariants as keys
use Rattle.sd_conf.specs.declared.config.Config.{Config}

-- of the base and all below it, without limits
abbrev pub search_below : List ℕ → FilterValue → List (List ℕ) → SearchValue
search_below base filter attributes = record {
  base = base;
  scope = 2;
  deref = 0;
  size = 0;
  time = 0;
  types_only = false;
  filter = filter;
  attributes = attributes;
}

-- (objectClass=CLASS)
abbrev pub of_class : List ℕ → FilterValue
of_class class = equal (codes "objectClass") class

-- (&(objectClass=CLASS)(NAME=VALUE))
abbrev pub class_with : List ℕ → List ℕ → List ℕ → FilterValue
class_with class name value = both (with_filter (of_class class) (with_filter (equal name value) no_filters))

-- ---- attributes asked: the class, and then those that a record is made of, in the order of its table

unfoldable pub user_attributes : List (List ℕ)
user_attributes =
    codes "objectClass" ∷ codes "uid" ∷ codes "uidNumber" ∷ codes "gidNumber" ∷ codes "homeDirectory" ∷ codes "gecos" ∷ codes "loginShell" ∷ []

unfoldable pub group_attributes : List (List ℕ)
group_attributes = codes "objectClass" ∷ codes "cn" ∷ codes "gidNumber" ∷ codes "member" ∷ []

unfoldable pub host_attributes : List (List ℕ)
host_attributes = codes "objectClass" ∷ codes "fqdn" ∷ codes "memberOf" ∷ []

unfoldable pub rule_attributes : List (List ℕ)
rule_attributes =
    codes "objectClass" ∷ codes "cn" ∷ codes "ipaEnabledFlag" ∷ codes "accessRuleType" ∷ codes "memberUser" ∷ codes "userCategory"
    ∷ codes "memberHost" ∷ codes "hostCategory" ∷ codes "memberService" ∷ codes "serviceCategory" ∷ []

unfoldable pub service_attributes : List (List ℕ)
service_attributes = codes "objectClass" ∷ codes "cn" ∷ codes "memberOf" ∷ []

-- ---- searches

abbrev pub user_search : List ℕ → List ℕ → List ℕ → SearchValue
user_search base name value = search_below base (class_with (codes "posixAccount") name value) user_attributes

abbrev pub group_search : List ℕ → List ℕ → List ℕ → SearchValue
group_search base name value = search_below base (class_with (codes "posixGroup") name value) group_attributes

abbrev pub host_search : List ℕ → List ℕ → SearchValue
host_search base hostname = search_below base (class_with (codes "ipaHost") (codes "fqdn") hostname) host_attributes

-- where access rules are, and where their services
abbrev pub rules_place : List ℕ → List ℕ
rules_place base = at_base (codes "cn=hbac") base

abbrev pub services_place : List ℕ → List ℕ
services_place base = at_base (codes "cn=hbacservices,cn=hbac") base

abbrev pub rules_search : List ℕ → SearchValue
rules_search base = search_below (rules_place base) (of_class (codes "ipaHBACRule")) rule_attributes

abbrev pub services_search : List ℕ → SearchValue
services_search base = search_below (services_place base) (of_class (codes "ipaHBACService")) service_attributes

-- the first search for a key
abbrev pub first_search : Config → Key → SearchValue
first_search config (keys.User name) = user_search config.base (codes "uid") name
first_search config (keys.Uid uid) = user_search config.base (codes "uidNumber") (decimal uid)
first_search config (keys.Group name) = group_search config.base (codes "cn") name
first_search config (keys.Gid gid) = group_search config.base (codes "gidNumber") (decimal gid)
first_search config (keys.GroupsOf name) = user_search config.base (codes "uid") name
first_search config keys.Host = host_search config.base config.settings.hostname
first_search config keys.Rules = rules_search config.base

-- a key that asks for one thing, and not for all access rules
abbrev pub is_of_one : Key → Bool
is_of_one keys.Rules = false
is_of_one key = true
