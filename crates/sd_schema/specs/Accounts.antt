-- Which entries are the user or the group that a key asks for (RFC 2307, posixAccount and posixGroup).
use Rattle.std.specs.Prelude.{ℕ, ◌==◌, if◌then◌else◌, List, [], Option, Some, None, Result, Ok, codes}
use Rattle.std.specs.List.{list_any}
use Rattle.sd_rules.specs.Keys.{same_name}
use Rattle.sd_rules.specs.declared.keys.Key.{Key}
use Rattle.sd_rules.specs.declared.keys.Key.TheVariants as keys
use Rattle.sd_rules.specs.declared.records.User.{User}
use Rattle.sd_rules.specs.declared.records.Group.{Group}
use Rattle.sd_rules.specs.declared.settings.Settings.{Settings}
use Rattle.sd_ldap.specs.declared.entry.Attribute.{Attribute}
use Rattle.sd_entry.specs.Values.{first_of}
use Rattle.sd_schema.specs.declared.accounts.Account.{Account}
use Rattle.sd_schema.specs.Values.{◌>>=◌, wanted, of_class, holds, filled, number_at, text_of}

-- a name that one of the attribute's values is
abbrev pub held_name : List ℕ → List ℕ → List Attribute → Option (List ℕ)
held_name attribute name attributes = if holds attribute name attributes then Some name else None

-- a name that is not kept out
abbrev pub unfiltered : List (List ℕ) → Option (List ℕ) → Option (List ℕ)
unfiltered filtered None = None
unfiltered filtered (Some name) = if list_any (λ value. same_name value name) filtered then None else Some name

-- a number that is the one asked for
abbrev pub equal_to : ℕ → Option ℕ → Option ℕ
equal_to asked None = None
equal_to asked (Some number) = if number == asked then Some number else None

-- ---- users

-- the user's name: the one asked for, or the first uid, which may not be empty or kept out; other keys ask for no user
abbrev pub user_name : List Attribute → List (List ℕ) → Key → Option (List ℕ)
user_name attributes filtered (keys.User name) = held_name (codes "uid") name attributes
user_name attributes filtered (keys.Uid uid) = unfiltered filtered (filled (first_of (codes "uid") attributes))
user_name attributes filtered (keys.GroupsOf name) = held_name (codes "uid") name attributes
user_name attributes filtered (keys.Group name) = None
user_name attributes filtered (keys.Gid gid) = None
user_name attributes filtered keys.Host = None
user_name attributes filtered keys.Rules = None

abbrev pub user_number : List Attribute → Key → Option ℕ
user_number attributes (keys.Uid uid) = equal_to uid (number_at (codes "uidNumber") attributes)
user_number attributes _ = number_at (codes "uidNumber") attributes

abbrev pub account : List ℕ → ℕ → ℕ → List ℕ → Account
account name uid gid home = record { name = name; uid = uid; gid = gid; home = home }

-- what a user has to have, in this order
abbrev pub account_of : List Attribute → Settings → Key → Result Account (List ℕ)
account_of attributes settings key =
    of_class (codes "posixAccount") attributes >>= λ _.
    wanted (codes "uid") (user_name attributes settings.filter_users key) >>= λ name.
    wanted (codes "uidNumber") (user_number attributes key) >>= λ uid.
    wanted (codes "gidNumber") (number_at (codes "gidNumber") attributes) >>= λ gid.
    wanted (codes "homeDirectory") (filled (first_of (codes "homeDirectory") attributes)) >>= λ home.
    Ok (account name uid gid home)

-- gecos and shell are empty where they are missing
abbrev pub user_made : List ℕ → List Attribute → Account → User
user_made dn attributes a = record {
  dn = dn;
  name = a.name;
  uid = a.uid;
  gid = a.gid;
  gecos = text_of (first_of (codes "gecos") attributes);
  home = a.home;
  shell = text_of (first_of (codes "loginShell") attributes);
}

abbrev pub fitting_user : List ℕ → List Attribute → Settings → Key → Result User (List ℕ)
fitting_user dn attributes settings key = account_of attributes settings key >>= λ a. Ok (user_made dn attributes a)

-- ---- groups

-- the group's name: the one asked for, or the first cn, which may not be kept out; other keys ask for no group
abbrev pub group_name : List Attribute → List (List ℕ) → Key → Option (List ℕ)
group_name attributes filtered (keys.Group name) = held_name (codes "cn") name attributes
group_name attributes filtered (keys.Gid gid) = unfiltered filtered (first_of (codes "cn") attributes)
group_name attributes filtered (keys.User name) = None
group_name attributes filtered (keys.Uid uid) = None
group_name attributes filtered (keys.GroupsOf name) = None
group_name attributes filtered keys.Host = None
group_name attributes filtered keys.Rules = None

abbrev pub group_number : List Attribute → Key → Option ℕ
group_number attributes (keys.Gid gid) = equal_to gid (number_at (codes "gidNumber") attributes)
group_number attributes _ = number_at (codes "gidNumber") attributes

-- its members are not told by the entry alone
abbrev pub group_made : List ℕ → List ℕ → ℕ → Group
group_made dn name gid = record { dn = dn; name = name; gid = gid; members = [] }

abbrev pub fitting_group : List ℕ → List Attribute → Settings → Key → Result Group (List ℕ)
fitting_group dn attributes settings key =
    of_class (codes "posixGroup") attributes >>= λ _.
    wanted (codes "cn") (group_name attributes settings.filter_groups key) >>= λ name.
    wanted (codes "gidNumber") (group_number attributes key) >>= λ gid.
    Ok (group_made dn name gid)
