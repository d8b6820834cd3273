-- The sudo rules of a directory.
use Rattle.std.specs.Prelude.{ℕ, List, [], ◌∷◌, filter, Option, Some, None}
use Rattle.std.specs.List.{flat_map}
use Rattle.sd_ldap.specs.declared.entry.DirEntry.{DirEntry}
use Rattle.sd_match.specs.Answering.{is_at_or_under}
use Rattle.sd_roles.specs.declared.roles.Role.{Role}
use Rattle.sd_roles.specs.Roles.{role_of}

abbrev pub listed : {X : Type 0} → Option X → List X
listed None = []
listed (Some x) = x ∷ []

-- the rules that entries have, in their order
abbrev pub roles_of : List DirEntry → List Role
roles_of entries = flat_map (λ (e : DirEntry). listed (role_of e)) entries

-- those at or under the base
abbrev pub roles_in : List DirEntry → List ℕ → List Role
roles_in entries base = roles_of (filter (λ (e : DirEntry). is_at_or_under base e) entries)
