-- The search for sudo rules.
use Rattle.std.specs.Prelude.{ℕ, List, [], ◌∷◌, codes}
use Rattle.sd_ldap.specs.Values.{SearchValue}
use Rattle.sd_fetch.specs.Searches.{search_below, of_class}

-- the attributes asked for, the class in front (sudoers.ldap(5))
unfoldable pub asked_attributes : List (List ℕ)
asked_attributes =
    codes "objectClass" ∷ codes "cn" ∷ codes "sudoUser" ∷ codes "sudoOrder" ∷ codes "sudoHost" ∷ codes "sudoCommand"
    ∷ codes "sudoRunAsUser" ∷ codes "sudoRunAsGroup" ∷ codes "sudoOption" ∷ []

-- the rules at or under the base: (objectClass=sudoRole)
abbrev pub role_search : List ℕ → SearchValue
role_search base = search_below base (of_class (codes "sudoRole")) asked_attributes
