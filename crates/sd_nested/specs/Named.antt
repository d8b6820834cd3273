-- What entries are called, and what groups say of their members (RFC 2307bis).
use Rattle.std.specs.Prelude.{ℕ, Bool, ◌||◌, if◌then◌else◌, List, [], ◌∷◌, Option, Some, None, codes}
use Rattle.std.specs.List.{flat_map}
use Rattle.sd_ldap.specs.declared.entry.Attribute.{Attribute}
use Rattle.sd_ldap.specs.declared.entry.DirEntry.{DirEntry}
use Rattle.sd_entry.specs.Values.{first_of, own_values, values_of, has_class, number_of}
use Rattle.sd_entry.specs.Users.{is_filled, is_user}
use Rattle.sd_rules.specs.declared.records.GroupRef.{GroupRef}

-- of class posixGroup or groupOfNames
abbrev pub is_group : List Attribute → Bool
is_group attributes = has_class (codes "posixGroup") attributes || has_class (codes "groupOfNames") attributes

abbrev pub own_members : Attribute → List (List ℕ)
own_members a = own_values (codes "member") a

-- the values of `member`
abbrev pub member_values : List Attribute → List (List ℕ)
member_values attributes = values_of (codes "member") attributes

-- the member values of a group
abbrev pub group_values : DirEntry → List (List ℕ)
group_values e = if is_group e.attributes then member_values e.attributes else []

abbrev pub listed : Option (List ℕ) → List (List ℕ)
listed None = []
listed (Some name) = name ∷ []

-- the first uid of a user entry, which is not empty
abbrev pub user_name : DirEntry → List (List ℕ)
user_name e = if is_user e.attributes then listed (first_of (codes "uid") e.attributes) else []

abbrev pub user_names : List DirEntry → List (List ℕ)
user_names entries = flat_map user_name entries

abbrev pub number_from : Option (List ℕ) → Option ℕ
number_from None = None
number_from (Some text) = number_of text

abbrev pub called : Option (List ℕ) → Option ℕ → List GroupRef
called None gid = []
called (Some name) gid = record { name = name; gid = gid } ∷ []

-- a group by its first cn, where that is not empty, with its first gidNumber, where that is a number
abbrev pub group_ref : DirEntry → List GroupRef
group_ref e =
    if is_filled (first_of (codes "cn") e.attributes) then called (first_of (codes "cn") e.attributes) (number_from (first_of (codes "gidNumber") e.attributes))
    else []

abbrev pub group_refs : List DirEntry → List GroupRef
group_refs entries = flat_map group_ref entries
