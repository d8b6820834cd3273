-- The distinguished names of users, groups, hosts, services and rules (the places of FreeIPA), below a search base.
use Rattle.std.specs.Prelude.{ℕ, ◌++◌, codes, List, [], ◌∷◌}

-- a place below the base, which may be the empty DN
abbrev pub below : List ℕ → List ℕ → List ℕ
below place [] = place
below place (byte ∷ base) = place ++ (codes "," ++ byte ∷ base)

-- the name of a thing at a place
abbrev pub leaf : List ℕ → List ℕ → List ℕ → List ℕ → List ℕ
leaf attribute name place base = attribute ++ (codes "=" ++ (name ++ (codes "," ++ below place base)))

abbrev pub user_dn : List ℕ → List ℕ → List ℕ
user_dn base name = leaf (codes "uid") name (codes "cn=users,cn=accounts") base

abbrev pub group_dn : List ℕ → List ℕ → List ℕ
group_dn base name = leaf (codes "cn") name (codes "cn=groups,cn=accounts") base

abbrev pub host_dn : List ℕ → List ℕ → List ℕ
host_dn base name = leaf (codes "fqdn") name (codes "cn=computers,cn=accounts") base

abbrev pub host_group_dn : List ℕ → List ℕ → List ℕ
host_group_dn base name = leaf (codes "cn") name (codes "cn=hostgroups,cn=accounts") base

abbrev pub service_dn : List ℕ → List ℕ → List ℕ
service_dn base name = leaf (codes "cn") name (codes "cn=hbacservices,cn=hbac") base

abbrev pub service_group_dn : List ℕ → List ℕ → List ℕ
service_group_dn base name = leaf (codes "cn") name (codes "cn=hbacservicegroups,cn=hbac") base

abbrev pub rule_dn : List ℕ → List ℕ → List ℕ
rule_dn base name = leaf (codes "cn") name (codes "cn=hbac") base
