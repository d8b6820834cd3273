-- The sudo rules of a directory that apply to an asker.
use Rattle.std.specs.Prelude.{◌≡◌, ◌⊎◌, ℕ, List, None}
use Rattle.sd_ldap.specs.declared.entry.DirEntry.{DirEntry}
use Rattle.sd_roles.specs.declared.roles.Role.{Role}
use Rattle.sd_roles.specs.declared.applying.Asker.{Asker}
use Rattle.sd_sudo.specs.Listing.{roles_in}
use Rattle.sd_sudo.specs.Speaking.{nets_asked}
use Rattle.sd_sudo.specs.Lookups.{IsMet, role_limit}
use Rattle.sd_sudo.specs.Standing.{AreStood, NetsPass, NetsMeet}
use Rattle.sd_sudo.specs.Applied.{AreApplied}

-- those of the netgroups of which rules speak in which the user stands, where no search for them meets a limit
pub record AreNets (entries : List DirEntry) (base user : List ℕ) (roles : List Role) (nets : List (List ℕ)) : Type 0 where
  pub within : NetsPass entries base (nets_asked roles)
  pub stood : AreStood entries base user (nets_asked roles) nets

-- those of some rules that apply to the asker
pub record AreChosen (entries : List DirEntry) (base : List ℕ) (asker : Asker) (roles applied : List Role) : Type 0 where
  pub nets : List (List ℕ)
  pub are_nets : AreNets entries base asker.user.name roles nets
  pub are : AreApplied roles asker nets applied

-- those of the rules at or under the base, where the search for them meets no limit
pub record AreRules (entries : List DirEntry) (base : List ℕ) (asker : Asker) (applied : List Role) : Type 0 where
  pub within : role_limit entries base ≡ None
  pub chosen : AreChosen entries base asker (roles_in entries base) applied

-- a search for rules or for their netgroups meets a limit
abbrev pub RulesMeet : List DirEntry → List ℕ → Type 0
RulesMeet entries base = IsMet (role_limit entries base) ⊎ NetsMeet entries base (nets_asked (roles_in entries base))
