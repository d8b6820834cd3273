-- What the search for sudo rules comes to over a link to a directory in memory.
use Rattle.std.specs.Prelude.{◌≡◌, ℕ, List, [], None}
use Rattle.sd_ldap.specs.declared.entry.DirEntry.{DirEntry}
use Rattle.sd_dial.specs.declared.searched.Searched.{Searched}
use Rattle.sd_dial.specs.declared.searched.Searched.TheVariants as searches
use Rattle.sd_roles.specs.declared.roles.Role.{Role}
use Rattle.sd_sudo.specs.Listing.{roles_of, roles_in}
use Rattle.sd_sudo.specs.Lookups.{IsMet, role_limit}

-- no limit was met, and these are the rules
abbrev pub HasRoles : List DirEntry → List ℕ → List Role → Type 0
HasRoles entries base roles = (role_limit entries base ≡ None) × (roles ≡ roles_in entries base)

-- The entries that came have the rules of the directory; a code, that of no such object, says that there are none.
-- A failure is a limit.
abbrev pub RolesBy : List DirEntry → List ℕ → Searched → Type 0
RolesBy entries base (searches.Entries given) = (role_limit entries base ≡ None) × (roles_of given ≡ roles_in entries base)
RolesBy entries base (searches.Code code) = (role_limit entries base ≡ None) × (roles_in entries base ≡ [])
RolesBy entries base (searches.Failed why) = IsMet (role_limit entries base)
RolesBy entries base searches.Memory = Unit {0}
