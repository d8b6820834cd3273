-- The searches for netgroups.
use Rattle.std.specs.Prelude.{ℕ, List, [], ◌∷◌, codes}
use Rattle.sd_ldap.specs.Filters.{FilterValue}
use Rattle.sd_ldap.specs.Values.{SearchValue}
use Rattle.sd_fetch.specs.Searches.{class_with, search_below}

-- the attributes asked for, the class in front
abbrev pub asked_attributes : List (List ℕ)
asked_attributes = codes "objectClass" ∷ codes "cn" ∷ codes "nisNetgroupTriple" ∷ codes "memberNisNetgroup" ∷ []

-- (&(objectClass=nisNetgroup)(cn=NAME))
abbrev pub net_filter : List ℕ → FilterValue
net_filter name = class_with (codes "nisNetgroup") (codes "cn") name

-- the netgroups of a name, at or under the base
abbrev pub net_search : List ℕ → List ℕ → SearchValue
net_search base name = search_below base (net_filter name) asked_attributes
