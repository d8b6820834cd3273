-- The netgroups of which sudo rules speak.
use Rattle.std.specs.Prelude.{ℕ, ◌==◌, if◌then◌else◌, List, [], ◌∷◌, Option, Some, None}
use Rattle.std.specs.List.{flat_map}
use Rattle.sd_netgroup.specs.Rounds.{with_names}
use Rattle.sd_roles.specs.declared.roles.Role.{Role}
use Rattle.sd_sudo.specs.Listing.{listed}

-- behind a `+`
abbrev pub net_behind : List ℕ → Option (List ℕ)
net_behind [] = None
net_behind (b ∷ rest) = if b == 43 then Some rest else None

-- the netgroup of which a value speaks, behind a `!` too
abbrev pub net_in : List ℕ → Option (List ℕ)
net_in [] = None
net_in (b ∷ rest) = if b == 33 then net_behind rest else net_behind (b ∷ rest)

abbrev pub nets_in : List (List ℕ) → List (List ℕ)
nets_in values = flat_map (λ value. listed (net_in value)) values

abbrev pub nets_of : List Role → List (List ℕ)
nets_of roles = flat_map (λ (r : Role). nets_in r.users) roles

-- the netgroups that are asked for: each of which a rule speaks, once, in the order of the rules
abbrev pub nets_asked : List Role → List (List ℕ)
nets_asked roles = with_names [] (nets_of roles)
