-- Which entries are this host, access rules and services (FreeIPA's ipaHost, ipaHBACRule, ipaHBACService).
use Rattle.std.specs.Prelude.{ℕ, Bool, ◌&&◌, List, Result, Ok, codes}
use Rattle.sd_rules.specs.declared.records.Host.{Host}
use Rattle.sd_rules.specs.declared.records.Element.{Element}
use Rattle.sd_rules.specs.declared.records.Rule.{Rule}
use Rattle.sd_rules.specs.declared.records.Service.{Service}
use Rattle.sd_ldap.specs.declared.entry.Attribute.{Attribute}
use Rattle.sd_entry.specs.Values.{first_of, says}
use Rattle.sd_schema.specs.declared.places.Place.{Place}
use Rattle.sd_schema.specs.declared.places.Place.TheVariants.{Users, Groups, Hosts, HostGroups, Services, ServiceGroups}
use Rattle.sd_schema.specs.Values.{◌>>=◌, wanted, of_class, first_like, is_like}
use Rattle.sd_schema.specs.Places.{names_at}

-- the host of a name, without ASCII case, with its own spelling, and the host groups that memberOf names
abbrev pub host_made : List Attribute → List ℕ → List ℕ → Host
host_made attributes base name = record { name = name; groups = names_at base HostGroups (codes "memberOf") attributes }

abbrev pub fitting_host : List Attribute → List ℕ → List ℕ → Result Host (List ℕ)
fitting_host attributes base hostname =
    of_class (codes "ipaHost") attributes >>= λ _.
    wanted (codes "fqdn") (first_like (codes "fqdn") hostname attributes) >>= λ name.
    Ok (host_made attributes base name)

-- a side of a rule: everything where a value of the category is `all`, and the things and groups that a member attribute names
abbrev pub element_made : List Attribute → List ℕ → List ℕ → List ℕ → Place → Place → Element
element_made attributes base category member things groups = record {
  all = says category (codes "all") attributes;
  names = names_at base things member attributes;
  groups = names_at base groups member attributes;
}

-- the first flag is TRUE and the first type is `allow`
abbrev pub is_enabled : List Attribute → Bool
is_enabled attributes = is_like (codes "TRUE") (first_of (codes "ipaEnabledFlag") attributes) && is_like (codes "allow") (first_of (codes "accessRuleType") attributes)

abbrev pub rule_made : List Attribute → List ℕ → List ℕ → Rule
rule_made attributes base name = record {
  name = name;
  enabled = is_enabled attributes;
  users = element_made attributes base (codes "userCategory") (codes "memberUser") Users Groups;
  hosts = element_made attributes base (codes "hostCategory") (codes "memberHost") Hosts HostGroups;
  services = element_made attributes base (codes "serviceCategory") (codes "memberService") Services ServiceGroups;
}

abbrev pub fitting_rule : List Attribute → List ℕ → Result Rule (List ℕ)
fitting_rule attributes base =
    of_class (codes "ipaHBACRule") attributes >>= λ _.
    wanted (codes "cn") (first_of (codes "cn") attributes) >>= λ name.
    Ok (rule_made attributes base name)

abbrev pub service_made : List Attribute → List ℕ → List ℕ → Service
service_made attributes base name = record { name = name; groups = names_at base ServiceGroups (codes "memberOf") attributes }

abbrev pub fitting_service : List Attribute → List ℕ → Result Service (List ℕ)
fitting_service attributes base =
    of_class (codes "ipaHBACService") attributes >>= λ _.
    wanted (codes "cn") (first_of (codes "cn") attributes) >>= λ name.
    Ok (service_made attributes base name)
