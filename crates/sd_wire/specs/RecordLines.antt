-- The lines of users, groups and the groups of a user, as getent(1) prints those of passwd(5) and group(5).
use Rattle.std.specs.Prelude.{ℕ, ◌++◌, codes, List, [], ◌∷◌, Option, Some, None}
use Rattle.std.specs.Fmt.{decimal}
use Rattle.sd_rules.specs.declared.records.User.{User}
use Rattle.sd_rules.specs.declared.records.Group.{Group}
use Rattle.sd_rules.specs.declared.records.GroupRef.{GroupRef}
use Rattle.sd_rules.specs.declared.records.Groups.{Groups}
use Rattle.sd_rules.specs.declared.records.Record.{Record}
use Rattle.sd_rules.specs.declared.records.Record.TheVariants as records
use Rattle.sd_wire.specs.Escapes.{field, member_name}

-- the name and the stand-in for a password, each with a colon behind it
abbrev pub head : List ℕ → List ℕ → List ℕ
head name pwfield = field name ++ (codes ":" ++ (field pwfield ++ codes ":"))

-- the line of a user: name:pwfield:uid:gid:gecos:home:shell
abbrev pub numbers_of_user : User → List ℕ
numbers_of_user user = decimal user.uid ++ (codes ":" ++ (decimal user.gid ++ codes ":"))

abbrev pub texts_of_user : User → List ℕ
texts_of_user user = field user.gecos ++ (codes ":" ++ (field user.home ++ (codes ":" ++ field user.shell)))

abbrev pub line_of_user : User → List ℕ → List ℕ
line_of_user user pwfield = head user.name pwfield ++ (numbers_of_user user ++ texts_of_user user)

-- names of members, each with a comma before it
abbrev pub more_members : List (List ℕ) → List ℕ
more_members [] = []
more_members (name ∷ names) = codes "," ++ (member_name name ++ more_members names)

-- names of members, parted by commas
abbrev pub members : List (List ℕ) → List ℕ
members [] = []
members (name ∷ names) = member_name name ++ more_members names

-- the line of a group: name:pwfield:gid:members
abbrev pub line_of_group : Group → List ℕ → List ℕ
line_of_group group pwfield = head group.name pwfield ++ (decimal group.gid ++ (codes ":" ++ members group.members))

-- the numbers that are there, in the order of the groups
abbrev pub with_number : Option ℕ → List ℕ → List ℕ
with_number (Some gid) gids = gid ∷ gids
with_number None gids = gids

abbrev pub numbers_of : List GroupRef → List ℕ
numbers_of [] = []
numbers_of (group ∷ groups) = with_number group.gid (numbers_of groups)

-- numbers, each with a comma before it
abbrev pub more_numbers : List ℕ → List ℕ
more_numbers [] = []
more_numbers (n ∷ ns) = codes "," ++ (decimal n ++ more_numbers ns)

-- numbers, parted by commas
abbrev pub numbers : List ℕ → List ℕ
numbers [] = []
numbers (n ∷ ns) = decimal n ++ more_numbers ns

-- the line of the groups of a user: name:gids
abbrev pub line_of_groups : Groups → List ℕ
line_of_groups groups = field groups.user ++ (codes ":" ++ numbers (numbers_of groups.groups))

-- the line of a record; hosts and rules are told to no client, and have none
abbrev pub line_of_record : Record → List ℕ → List ℕ
line_of_record (records.User user) pwfield = line_of_user user pwfield
line_of_record (records.Group group) pwfield = line_of_group group pwfield
line_of_record (records.Groups groups) pwfield = line_of_groups groups
line_of_record _ pwfield = []
