-- Who asks for sudo rules, by the lookups of the user and of the user's groups.
use Rattle.std.specs.Prelude.{ℕ, List, [], ◌∷◌, ◌++◌, map, Option, Some, None}
use Rattle.std.specs.List.{flat_map}
use Rattle.sd_rules.specs.declared.keys.Key.TheVariants as keys
use Rattle.sd_rules.specs.declared.records.Record.{Record}
use Rattle.sd_rules.specs.declared.records.Record.TheVariants as records
use Rattle.sd_rules.specs.declared.records.User.{User}
use Rattle.sd_rules.specs.declared.records.Group.{Group}
use Rattle.sd_rules.specs.declared.records.GroupRef.{GroupRef}
use Rattle.sd_conf.specs.declared.config.Config.{Config}
use Rattle.sd_ldap.specs.declared.entry.DirEntry.{DirEntry}
use Rattle.sd_roles.specs.declared.applying.Asker.{Asker}
use Rattle.sd_sudo.specs.Listing.{listed}
use Rattle.sd_sudo.specs.Lookups.{found_for}

abbrev pub user_in : Option Record → Option User
user_in (Some (records.User user)) = Some user
user_in _ = None

abbrev pub groups_in : Option Record → List GroupRef
groups_in (Some (records.Groups groups)) = groups.groups
groups_in _ = []

abbrev pub group_in : Option Record → Option Group
group_in (Some (records.Group group)) = Some group
group_in _ = None

-- the one user of a name
abbrev pub user_named : Config → List DirEntry → List ℕ → Option User
user_named config entries name = user_in (found_for config entries (keys.User name))

-- the groups that the user is in by paths of members
abbrev pub groups_of : Config → List DirEntry → List ℕ → List GroupRef
groups_of config entries name = groups_in (found_for config entries (keys.GroupsOf name))

-- the one group of a number
abbrev pub group_of : Config → List DirEntry → ℕ → Option Group
group_of config entries gid = group_in (found_for config entries (keys.Gid gid))

-- the user's own number, and those of the groups that have one
abbrev pub gids_with : ℕ → List GroupRef → List ℕ
gids_with own groups = own ∷ flat_map (λ (g : GroupRef). listed g.gid) groups

abbrev pub name_of : Option Group → List (List ℕ)
name_of None = []
name_of (Some group) = group.name ∷ []

abbrev pub names_of : List GroupRef → List (List ℕ)
names_of groups = map (λ (g : GroupRef). g.name) groups

-- the names of the groups, and that of the user's own group
abbrev pub names_with : List GroupRef → Option Group → List (List ℕ)
names_with groups own = names_of groups ++ name_of own

abbrev pub asker_with : User → List GroupRef → Option Group → Asker
asker_with user groups own = record { user = user; gids = gids_with user.gid groups; groups = names_with groups own }

-- the user of a name as the one who asks
abbrev pub asker_of : Config → List DirEntry → List ℕ → User → Asker
asker_of config entries name user = asker_with user (groups_of config entries name) (group_of config entries user.gid)
