-- Whom a sudo rule speaks of, and whether it applies.
use Rattle.std.specs.Prelude.{ℕ, Bool, true, false, ◌&&◌, ◌==◌, not, nat_le, if◌then◌else◌, List, [], ◌∷◌, length, codes}
use Rattle.std.specs.List.{list_any, list_all}
use Rattle.std.specs.Cmp.Lexicographic.{pointwise}
use Rattle.sd_entry.specs.Values.{is_digit, value_of}
use Rattle.sd_roles.specs.declared.roles.Role.{Role}
use Rattle.sd_roles.specs.declared.applying.Asker.{Asker}

-- byte for byte
abbrev pub same : List ℕ → List ℕ → Bool
same = pointwise ◌==◌

abbrev pub has : List (List ℕ) → List ℕ → Bool
has names name = list_any (same name) names

-- one to ten digits
abbrev pub is_id : List ℕ → Bool
is_id digits = nat_le 1 (length digits) && (nat_le (length digits) 10 && list_all is_digit digits)

-- behind a `%`: `#` and a group's number, `:` for a group that is not Unix's, or a group's name
abbrev pub names_group : Asker → List ℕ → Bool
names_group asker [] = has asker.groups []
names_group asker (b ∷ rest) =
    if b == 35 && is_id rest then list_any (λ gid. gid == value_of rest) asker.gids
    else if b == 58 then false
    else has asker.groups (b ∷ rest)

-- `#` and the user's number, `%` and a group, `+` and a netgroup, or the user's name
abbrev pub names_by_sign : Asker → List (List ℕ) → List ℕ → Bool
names_by_sign asker nets [] = same [] asker.user.name
names_by_sign asker nets (b ∷ rest) =
    if b == 35 && is_id rest then asker.user.uid == value_of rest
    else if b == 37 then names_group asker rest
    else if b == 43 then has nets rest
    else same (b ∷ rest) asker.user.name

-- a value names the asker
abbrev pub names : Asker → List (List ℕ) → List ℕ → Bool
names asker nets value = if same value (codes "ALL") then true else names_by_sign asker nets value

-- a value without a leading `!`
abbrev pub grants : Asker → List (List ℕ) → List ℕ → Bool
grants asker nets [] = names asker nets []
grants asker nets (b ∷ rest) = not (b == 33) && names asker nets (b ∷ rest)

-- `!` and a naming text
abbrev pub refuses : Asker → List (List ℕ) → List ℕ → Bool
refuses asker nets [] = false
refuses asker nets (b ∷ rest) = (b == 33) && names asker nets rest

-- one of its values names the asker, and none refuses
abbrev pub applies : Role → Asker → List (List ℕ) → Bool
applies role asker nets = list_any (grants asker nets) role.users && not (list_any (refuses asker nets) role.users)
