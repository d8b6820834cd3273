-- Keys: which record a key asks for, of which keys an answer speaks, which answers an invalidation covers.
use Rattle.std.specs.Prelude.{ℕ, Bool, true, false, ◌&&◌, ◌||◌, ◌==◌, List, [], ◌∷◌, map}
use Rattle.std.specs.Cmp.Lexicographic.{pointwise}
use Rattle.std.specs.Char.{to_ascii_lowercase}
use Rattle.sd_rules.specs.declared.keys.Key.{Key}
use Rattle.sd_rules.specs.declared.keys.Key.TheVariants.{User, Uid, Group, Gid, GroupsOf, Host, Rules}
use Rattle.sd_rules.specs.declared.records.Record.{Record}
use Rattle.sd_rules.specs.declared.records.Record.TheVariants as records
use Rattle.sd_rules.specs.declared.records.Answered.{Answered}
use Rattle.sd_rules.specs.declared.records.Answered.TheVariants.{Found, Absent}
use Rattle.sd_rules.specs.declared.keys.What.{What}
use Rattle.sd_rules.specs.declared.keys.What.TheVariants as whats

-- two names are equal byte for byte
abbrev pub same_name : List ℕ → List ℕ → Bool
same_name = pointwise ◌==◌

-- two names are equal without ASCII case
abbrev pub same_letters : List ℕ → List ℕ → Bool
same_letters a b = same_name (map to_ascii_lowercase a) (map to_ascii_lowercase b)

-- a key, as the number of its kind and what it carries
abbrev pub kind_of : Key → ℕ
kind_of (User name) = 0
kind_of (Uid uid) = 1
kind_of (Group name) = 2
kind_of (Gid gid) = 3
kind_of (GroupsOf name) = 4
kind_of Host = 5
kind_of Rules = 6

abbrev pub carried : Key → List ℕ
carried (User name) = name
carried (Uid uid) = uid ∷ []
carried (Group name) = name
carried (Gid gid) = gid ∷ []
carried (GroupsOf name) = name
carried Host = []
carried Rules = []

abbrev pub same_key : Key → Key → Bool
same_key a b = (kind_of a == kind_of b) && same_name (carried a) (carried b)

-- which kind of record a key asks for
abbrev pub is_user_key : Key → Bool
is_user_key k = (kind_of k == 0) || (kind_of k == 1)

abbrev pub is_group_key : Key → Bool
is_group_key k = (kind_of k == 2) || (kind_of k == 3)

abbrev pub is_groups_key : Key → Bool
is_groups_key k = kind_of k == 4

-- a record is of the kind that a key asks for
abbrev pub is_of_kind : Record → Key → Bool
is_of_kind (records.User user) k = is_user_key k
is_of_kind (records.Group group) k = is_group_key k
is_of_kind (records.Groups groups) k = is_groups_key k
is_of_kind (records.Host host) k = kind_of k == 5
is_of_kind (records.Rules book) k = kind_of k == 6

-- what is answered to a key is absence, or a record of its kind
abbrev pub is_answer_of_kind : Answered → Key → Bool
is_answer_of_kind Absent k = true
is_answer_of_kind (Found found) k = is_of_kind found k

-- a found user speaks also of its name and its uid, a found group of its name and its gid
abbrev pub record_speaks : Record → Key → Bool
record_speaks (records.User user) k = same_key (User user.name) k || same_key (Uid user.uid) k
record_speaks (records.Group group) k = same_key (Group group.name) k || same_key (Gid group.gid) k
record_speaks (records.Groups groups) k = false
record_speaks (records.Host host) k = false
record_speaks (records.Rules book) k = false

-- of which keys the answer to a key speaks: of its own, and of those of its record
abbrev pub speaks_of : Key → Answered → Key → Bool
speaks_of own Absent k = same_key own k
speaks_of own (Found found) k = same_key own k || record_speaks found k

-- a found user, or a found group, of this name
abbrev pub is_user_named : Answered → List ℕ → Bool
is_user_named (Found (records.User user)) name = same_name user.name name
is_user_named _ name = false

abbrev pub is_group_named : Answered → List ℕ → Bool
is_group_named (Found (records.Group group)) name = same_name group.name name
is_group_named _ name = false

-- which answers an invalidation covers
abbrev pub covers : What → Key → Answered → Bool
covers whats.All own answered = true
covers whats.Users own answered = is_user_key own || is_groups_key own
covers whats.Groups own answered = is_group_key own
covers (whats.User name) own answered =
    same_key own (User name) || (same_key own (GroupsOf name) || is_user_named answered name)
covers (whats.Group name) own answered = same_key own (Group name) || is_group_named answered name
