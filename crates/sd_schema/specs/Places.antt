-- Places of the directory (FreeIPA's tree), and the things that DNs name there.
use Rattle.std.specs.Prelude.{ℕ, if◌then◌else◌, List, [], ◌∷◌, ◌++◌, Option, Some, None, codes}
use Rattle.std.specs.Result.{result_ok}
use Rattle.sd_dn.specs.declared.Pair.{Pair}
use Rattle.sd_dn.specs.Comparing.{same_text, leaf_of}
use Rattle.sd_dn.specs.Reading.{Start, run}
use Rattle.sd_ldap.specs.declared.entry.Attribute.{Attribute}
use Rattle.sd_schema.specs.declared.places.Place.{Place}
use Rattle.sd_schema.specs.declared.places.Place.TheVariants.{Users, Groups, Hosts, HostGroups, Services, ServiceGroups}

-- the place, without the search base behind it
abbrev pub front_of : Place → List ℕ
front_of Users = codes "cn=users,cn=accounts"
front_of Groups = codes "cn=groups,cn=accounts"
front_of Hosts = codes "cn=computers,cn=accounts"
front_of HostGroups = codes "cn=hostgroups,cn=accounts"
front_of Services = codes "cn=hbacservices,cn=hbac"
front_of ServiceGroups = codes "cn=hbacservicegroups,cn=hbac"

-- the attribute that names things there
abbrev pub naming_of : Place → List ℕ
naming_of Users = codes "uid"
naming_of Groups = codes "cn"
naming_of Hosts = codes "fqdn"
naming_of HostGroups = codes "cn"
naming_of Services = codes "cn"
naming_of ServiceGroups = codes "cn"

-- where the base is empty, the comma falls away
abbrev pub at_base : List ℕ → List ℕ → List ℕ
at_base front [] = front
at_base front (b ∷ bs) = front ++ (44 ∷ b ∷ bs)

-- the DN that a text is, where it is one: the texts that spell a DN are read as it
abbrev pub dn_in : List ℕ → Option (List (List Pair))
dn_in text = result_ok (run (Start [] []) text)

abbrev pub place_in : List ℕ → Place → Option (List (List Pair))
place_in base place = dn_in (at_base (front_of place) base)

abbrev pub named_leaf : List ℕ → Option Pair → Option (List ℕ)
named_leaf naming None = None
named_leaf naming (Some leaf) = if same_text leaf.name naming then Some leaf.value else None

abbrev pub leaf_in : List (List Pair) → Option (List (List Pair)) → Option Pair
leaf_in container None = None
leaf_in container (Some dn) = leaf_of dn container

-- the name of the thing that a DN names: the naming attribute's value, directly under the place
abbrev pub named : List (List Pair) → List ℕ → List ℕ → Option (List ℕ)
named container naming text = named_leaf naming (leaf_in container (dn_in text))

abbrev pub with_name : Option (List ℕ) → List (List ℕ) → List (List ℕ)
with_name None names = names
with_name (Some name) names = name ∷ names

-- the names by values, in their order; values that name nothing there are passed over
abbrev pub names_of : List (List Pair) → List ℕ → List (List ℕ) → List (List ℕ)
names_of container naming [] = []
names_of container naming (value ∷ values) = with_name (named container naming value) (names_of container naming values)

abbrev pub own_names : List (List Pair) → List ℕ → List ℕ → Attribute → List (List ℕ)
own_names container naming name a = if same_text a.name name then names_of container naming a.values else []

-- the names by the values of an attribute
abbrev pub names_under : List (List Pair) → List ℕ → List ℕ → List Attribute → List (List ℕ)
names_under container naming name [] = []
names_under container naming name (a ∷ rest) = own_names container naming name a ++ names_under container naming name rest

abbrev pub names_in : Option (List (List Pair)) → List ℕ → List ℕ → List Attribute → List (List ℕ)
names_in None naming name attributes = []
names_in (Some container) naming name attributes = names_under container naming name attributes

-- the names of the things at a place that the values of an attribute name
abbrev pub names_at : List ℕ → Place → List ℕ → List Attribute → List (List ℕ)
names_at base place name attributes = names_in (place_in base place) (naming_of place) name attributes
