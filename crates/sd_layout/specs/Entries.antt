-- The entries that the lines of a scenario put (RFC 2307's accounts, and FreeIPA's hosts, services and access rules).
use Rattle.std.specs.Prelude.{ℕ, Bool, true, false, ◌++◌, codes, List, [], ◌∷◌, Option, Some, None, if◌then◌else◌}
use Rattle.std.specs.Fmt.{decimal}
use Rattle.sd_ldap.specs.declared.entry.Attribute.{Attribute}
use Rattle.sd_ldap.specs.declared.entry.DirEntry.{DirEntry}
use Rattle.sd_lines.specs.declared.lines.GroupLine.{GroupLine}
use Rattle.sd_lines.specs.declared.lines.HostLine.{HostLine}
use Rattle.sd_lines.specs.declared.lines.Item.{Item}
use Rattle.sd_lines.specs.declared.lines.Kind.{Kind}
use Rattle.sd_lines.specs.declared.lines.Kind.TheVariants as kinds
use Rattle.sd_lines.specs.declared.lines.Member.{Member}
use Rattle.sd_lines.specs.declared.lines.Member.TheVariants as members
use Rattle.sd_lines.specs.declared.lines.RuleLine.{RuleLine}
use Rattle.sd_lines.specs.declared.lines.ServiceLine.{ServiceLine}
use Rattle.sd_lines.specs.declared.lines.Side.{Side}
use Rattle.sd_lines.specs.declared.lines.Side.TheVariants as sides
use Rattle.sd_lines.specs.declared.lines.UserLine.{UserLine}
use Rattle.sd_lines.specs.declared.lines.Whom.{Whom}
use Rattle.sd_lines.specs.declared.lines.Whom.TheVariants as whoms
use Rattle.sd_layout.specs.Names.{user_dn, group_dn, host_dn, host_group_dn, service_dn, service_group_dn, rule_dn}

abbrev pub attribute : List ℕ → List (List ℕ) → Attribute
attribute name values = record { name = name; values = values }

-- an attribute of one value
abbrev pub single : List ℕ → List ℕ → Attribute
single name value = attribute name (value ∷ [])

-- an attribute, or none where it has no value
abbrev pub filled : List ℕ → List (List ℕ) → List Attribute
filled name [] = []
filled name (value ∷ values) = attribute name (value ∷ values) ∷ []

abbrev pub password_of : Option (List ℕ) → List Attribute
password_of None = []
password_of (Some password) = single (codes "userPassword") password ∷ []

-- the entry of a user below a base
abbrev pub user_entry : List ℕ → UserLine → DirEntry
user_entry base line = record {
  dn = user_dn base line.name;
  attributes = single (codes "objectClass") (codes "posixAccount")
      ∷ single (codes "uid") line.name
      ∷ single (codes "cn") line.name
      ∷ single (codes "uidNumber") (decimal line.uid)
      ∷ single (codes "gidNumber") (decimal line.gid)
      ∷ single (codes "homeDirectory") (codes "/home/" ++ line.name)
      ∷ single (codes "loginShell") (codes "/bin/sh")
      ∷ password_of line.password;
}

-- the DNs of a group's members
abbrev pub member_dn : List ℕ → Member → List ℕ
member_dn base (members.User name) = user_dn base name
member_dn base (members.Group name) = group_dn base name

abbrev pub member_dns : List ℕ → List Member → List (List ℕ)
member_dns base [] = []
member_dns base (m ∷ ms) = member_dn base m ∷ member_dns base ms

abbrev pub group_entry : List ℕ → GroupLine → DirEntry
group_entry base line = record {
  dn = group_dn base line.name;
  attributes = attribute (codes "objectClass") (codes "posixGroup" ∷ codes "groupOfNames" ∷ [])
      ∷ single (codes "cn") line.name
      ∷ single (codes "gidNumber") (decimal line.gid)
      ∷ filled (codes "member") (member_dns base line.members);
}

abbrev pub host_group_dns : List ℕ → List (List ℕ) → List (List ℕ)
host_group_dns base [] = []
host_group_dns base (name ∷ names) = host_group_dn base name ∷ host_group_dns base names

abbrev pub host_entry : List ℕ → HostLine → DirEntry
host_entry base line = record {
  dn = host_dn base line.name;
  attributes = single (codes "objectClass") (codes "ipaHost")
      ∷ single (codes "fqdn") line.name
      ∷ filled (codes "memberOf") (host_group_dns base line.groups);
}

abbrev pub service_group_dns : List ℕ → List (List ℕ) → List (List ℕ)
service_group_dns base [] = []
service_group_dns base (name ∷ names) = service_group_dn base name ∷ service_group_dns base names

abbrev pub service_entry : List ℕ → ServiceLine → DirEntry
service_entry base line = record {
  dn = service_dn base line.name;
  attributes = single (codes "objectClass") (codes "ipaHBACService")
      ∷ single (codes "cn") line.name
      ∷ filled (codes "memberOf") (service_group_dns base line.groups);
}

-- ---- access rules

abbrev pub category_name : Side → List ℕ
category_name sides.User = codes "userCategory"
category_name sides.Host = codes "hostCategory"
category_name sides.Service = codes "serviceCategory"

abbrev pub member_name : Side → List ℕ
member_name sides.User = codes "memberUser"
member_name sides.Host = codes "memberHost"
member_name sides.Service = codes "memberService"

abbrev pub thing_dn : List ℕ → Side → List ℕ → List ℕ
thing_dn base sides.User name = user_dn base name
thing_dn base sides.Host name = host_dn base name
thing_dn base sides.Service name = service_dn base name

abbrev pub things_dn : List ℕ → Side → List ℕ → List ℕ
things_dn base sides.User name = group_dn base name
things_dn base sides.Host name = host_group_dn base name
things_dn base sides.Service name = service_group_dn base name

abbrev pub is_side : Side → Side → Bool
is_side sides.User sides.User = true
is_side sides.Host sides.Host = true
is_side sides.Service sides.Service = true
is_side _ _ = false

-- what one condition puts in front of the values of its category, and of its members
abbrev pub with_category : Whom → List (List ℕ) → List (List ℕ)
with_category whoms.All rest = codes "all" ∷ rest
with_category (whoms.Name name) rest = rest
with_category (whoms.Group name) rest = rest

abbrev pub with_member : List ℕ → Side → Whom → List (List ℕ) → List (List ℕ)
with_member base side whoms.All rest = rest
with_member base side (whoms.Name name) rest = thing_dn base side name ∷ rest
with_member base side (whoms.Group name) rest = things_dn base side name ∷ rest

-- the values of the conditions of one side, in their order
abbrev pub categories : Side → List Item → List (List ℕ)
categories side [] = []
categories side (i ∷ items) = if is_side side i.side then with_category i.whom (categories side items) else categories side items

abbrev pub named : List ℕ → Side → List Item → List (List ℕ)
named base side [] = []
named base side (i ∷ items) = if is_side side i.side then with_member base side i.whom (named base side items) else named base side items

abbrev pub side_attributes : List ℕ → Side → List Item → List Attribute
side_attributes base side items = filled (category_name side) (categories side items) ++ filled (member_name side) (named base side items)

abbrev pub flag_of : Bool → List ℕ
flag_of true = codes "TRUE"
flag_of false = codes "FALSE"

abbrev pub rule_entry : List ℕ → RuleLine → DirEntry
rule_entry base line = record {
  dn = rule_dn base line.name;
  attributes = single (codes "objectClass") (codes "ipaHBACRule")
      ∷ single (codes "cn") line.name
      ∷ single (codes "ipaEnabledFlag") (flag_of line.is_enabled)
      ∷ single (codes "accessRuleType") (codes "allow")
      ∷ side_attributes base sides.User line.items ++ (side_attributes base sides.Host line.items ++ side_attributes base sides.Service line.items);
}

-- the DN of a thing of a kind
abbrev pub dn_of : List ℕ → Kind → List ℕ → List ℕ
dn_of base kinds.User name = user_dn base name
dn_of base kinds.Group name = group_dn base name
dn_of base kinds.Host name = host_dn base name
dn_of base kinds.Service name = service_dn base name
dn_of base kinds.Rule name = rule_dn base name
