-- What invalidations name and which answers they cover, by numbers of entries. A past is the list of a journal's entries, the newest first.
use Rattle.std.specs.Prelude.{◌≡◌, ℕ, Bool, false, nat_lt, ◌&&◌, ◌||◌, List, [], ◌∷◌, Option, Some, None, if◌then◌else◌}
use Rattle.sd_rules.specs.declared.keys.Key.{Key}
use Rattle.sd_rules.specs.declared.keys.Key.TheVariants as keys
use Rattle.sd_rules.specs.declared.keys.What.{What}
use Rattle.sd_rules.specs.declared.keys.What.TheVariants as whats
use Rattle.sd_rules.specs.declared.records.Answered.{Answered}
use Rattle.sd_rules.specs.declared.records.Answered.TheVariants.{Found}
use Rattle.sd_rules.specs.declared.records.Record.TheVariants as records
use Rattle.sd_rules.specs.declared.replies.Entry.{Entry}
use Rattle.sd_rules.specs.Keys.{covers, is_user_key, is_groups_key, is_group_key}
use Rattle.sd_rules.specs.Logins.{is_name}
use Rattle.sd_rules.specs.Needed.{last_where, is_void_of, is_newest_answer, is_covered}
use Rattle.sd_rules.specs.Past.{answer_in, or_else}
use Rattle.sd_findings.specs.Users.{number_under}
use Rattle.sd_findings.specs.declared.covers.ByWhat.{ByWhat}

-- the number that is kept for what an invalidation names
abbrev pub number_for : ByWhat → What → Option ℕ
number_for t whats.All = t.all
number_for t whats.Users = t.users
number_for t whats.Groups = t.groups
number_for t (whats.User name) = number_under t.user_names.entries name
number_for t (whats.Group name) = number_under t.group_names.entries name

-- of each name the last invalidation
pub record HoldVoids (past : List Entry) (lasts : ByWhat) : Type 0 where
  pub each : (what : What) → number_for lasts what ≡ last_where (λ (x : Entry). is_void_of what x.event) past

-- the first number, or else this one where there is an invalidation
abbrev pub first_of : Option ℕ → Option ℕ → ℕ → Option ℕ
first_of (Some first) last number = Some first
first_of None None number = None
first_of None (Some last) number = Some number

abbrev pub first_if : Bool → Option ℕ → Option ℕ → ℕ → Option ℕ
first_if names first last number = if names then first_of first last number else first

-- the names that a test holds of have their first numbers
abbrev pub PutFirst : (List ℕ → Bool) → List (List ℕ × ℕ) → ℕ → List (List ℕ × ℕ) → List (List ℕ × ℕ) → Type 0
PutFirst names lasts number old new =
    (n : List ℕ) → number_under new n ≡ first_if (names n) (number_under old n) (number_under lasts n) number

-- an answer of this number comes first of what is invalidated and covers it, where none came before
abbrev pub NotesAnswer : Key → Answered → ℕ → ByWhat → ByWhat → ByWhat → Type 0
NotesAnswer own answered number lasts old new =
    (what : What) → number_for new what ≡ first_if (covers what own answered) (number_for old what) (number_for lasts what) number

-- either name is one, where there are
abbrev pub is_either : Option (List ℕ) → Option (List ℕ) → List ℕ → Bool
is_either name other n = is_name name n || is_name other n

abbrev pub is_about_users : Key → Bool
is_about_users own = is_user_key own || is_groups_key own

abbrev pub is_about_groups : Key → Bool
is_about_groups own = is_group_key own

-- the user, or the group, that a key names, and whom an answer found
abbrev pub user_of_key : Key → Option (List ℕ)
user_of_key (keys.User name) = Some name
user_of_key (keys.GroupsOf name) = Some name
user_of_key _ = None

abbrev pub group_of_key : Key → Option (List ℕ)
group_of_key (keys.Group name) = Some name
group_of_key _ = None

abbrev pub user_found : Answered → Option (List ℕ)
user_found (Found (records.User user)) = Some user.name
user_found _ = None

abbrev pub group_found : Answered → Option (List ℕ)
group_found (Found (records.Group group)) = Some group.name
group_found _ = None

-- the oldest entry of a part that holds the newest answer of a key and that an invalidation covers
abbrev pub first_covered : List Entry → What → List Entry → Option ℕ
first_covered all what [] = None
first_covered all what (e ∷ past) =
    or_else (first_covered all what past) (if is_newest_answer all past e && is_covered what (answer_in past e) then Some e.number else None)

-- where there is an invalidation
abbrev pub where_last : Option ℕ → Option ℕ → Option ℕ
where_last None first = None
where_last (Some last) first = first

-- of each name that is invalidated, the oldest of the newest answers that this covers, in a part of the entries
pub record HoldCovered (all part : List Entry) (lasts firsts : ByWhat) : Type 0 where
  pub each : (what : What) → number_for firsts what ≡ where_last (number_for lasts what) (first_covered all what part)

-- where the one holds the first numbers of a part, the other does of the part with one more entry
abbrev pub FollowsEntry : List Entry → List Entry → Entry → ByWhat → ByWhat → ByWhat → Type 0
FollowsEntry all part e lasts old new = HoldCovered all part lasts old → HoldCovered all (e ∷ part) lasts new

-- a first number stands before another
abbrev pub is_before : Option ℕ → ℕ → Bool
is_before None n = false
is_before (Some m) n = nat_lt m n
