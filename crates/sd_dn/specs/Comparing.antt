-- When two DNs are equal, and one is under another.
use Rattle.std.specs.Prelude.{ℕ, ◌-◌, Bool, true, false, ◌&&◌, if◌then◌else◌, List, [], ◌∷◌, length, drop, Option, Some, None, nat_lt, nat_le}
use Rattle.std.specs.Char.{eq_ignore_ascii_case}
use Rattle.sd_dn.specs.declared.Pair.{Pair}

-- two lists with the same things in order
abbrev pub same_list : {X : Type 0} → (X → X → Bool) → List X → List X → Bool
same_list same [] [] = true
same_list same [] (y ∷ ys) = false
same_list same (x ∷ xs) [] = false
same_list same (x ∷ xs) (y ∷ ys) = same x y && same_list same xs ys

-- without ASCII case
abbrev pub same_text : List ℕ → List ℕ → Bool
same_text = same_list eq_ignore_ascii_case

abbrev pub same_pair : Pair → Pair → Bool
same_pair p q = same_text p.name q.name && same_text p.value q.value

abbrev pub same_rdn : List Pair → List Pair → Bool
same_rdn = same_list same_pair

abbrev pub same_dn : List (List Pair) → List (List Pair) → Bool
same_dn = same_list same_rdn

-- the DN ends with the container's RDNs
abbrev pub ends_with : List (List Pair) → List (List Pair) → Bool
ends_with dn container = nat_le (length container) (length dn) && same_dn (drop (length dn - length container) dn) container

-- the DN is longer than the container, and ends with its RDNs
abbrev pub is_below : List (List Pair) → List (List Pair) → Bool
is_below dn container = nat_lt (length container) (length dn) && ends_with dn container

-- the one pair of the first RDN, where the rest is the container
abbrev pub leaf_of : List (List Pair) → List (List Pair) → Option Pair
leaf_of ((p ∷ []) ∷ rest) container = if same_dn rest container then Some p else None
leaf_of _ container = None
