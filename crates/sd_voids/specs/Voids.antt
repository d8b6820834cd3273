-- The last invalidations by what they cover, and what they say of an answer.
use Rattle.std.specs.Prelude.{◌≡◌, ℕ, true, List, [], ◌∷◌, max, unwrap_or, if◌then◌else◌}
use Rattle.std.specs.Map.{lookup}
use Rattle.sd_rules.specs.declared.events.Event.TheVariants as events
use Rattle.sd_rules.specs.declared.keys.Key.{Key}
use Rattle.sd_rules.specs.declared.keys.Key.TheVariants as keys
use Rattle.sd_rules.specs.declared.keys.What.{What}
use Rattle.sd_rules.specs.declared.keys.What.TheVariants as whats
use Rattle.sd_rules.specs.declared.records.Answered.{Answered}
use Rattle.sd_rules.specs.declared.records.Answered.TheVariants.{Found}
use Rattle.sd_rules.specs.declared.records.Record.TheVariants as records
use Rattle.sd_rules.specs.declared.replies.Entry.{Entry}
use Rattle.sd_rules.specs.Keys.{same_name}
use Rattle.sd_rules.specs.Past.{voids}
use Rattle.sd_voids.specs.Bounds.{Bounds}
use Rattle.sd_voids.specs.Entries.{numbers_fall}

-- the number of the last invalidation that covers what was answered to a key, 0 where there is none
abbrev pub last_void : List Entry → Key → Answered → ℕ
last_void [] own answered = 0
last_void (e ∷ past) own answered = if voids e.event own answered then e.number else last_void past own answered

abbrev pub no_bounds : Bounds
no_bounds = record { all = 0; users = 0; groups = 0; user_names = []; group_names = [] }

abbrev pub bound_at : List (List ℕ × ℕ) → List ℕ → ℕ
bound_at names name = unwrap_or (lookup (same_name name) names) 0

-- the last invalidation of all users or all groups, where it covers the answers to a key
abbrev pub by_kind : Bounds → Key → ℕ
by_kind b (keys.User name) = b.users
by_kind b (keys.Uid uid) = b.users
by_kind b (keys.Group name) = b.groups
by_kind b (keys.Gid gid) = b.groups
by_kind b (keys.GroupsOf name) = b.users
by_kind b keys.Host = 0
by_kind b keys.Rules = 0

-- the last that names the user or the group of a key
abbrev pub by_key : Bounds → Key → ℕ
by_key b (keys.User name) = bound_at b.user_names name
by_key b (keys.GroupsOf name) = bound_at b.user_names name
by_key b (keys.Group name) = bound_at b.group_names name
by_key b _ = 0

-- the last that names whom an answer found
abbrev pub by_found : Bounds → Answered → ℕ
by_found b (Found (records.User user)) = bound_at b.user_names user.name
by_found b (Found (records.Group group)) = bound_at b.group_names group.name
by_found b _ = 0

-- the last that covers what was answered to a key
abbrev pub bound_of : Bounds → Key → Answered → ℕ
bound_of b own answered = max b.all (max (by_kind b own) (max (by_key b own) (by_found b answered)))

-- a name is bound by this number now, and each other as before
abbrev pub Binds : List ℕ → ℕ → List (List ℕ × ℕ) → List (List ℕ × ℕ) → Type 0
Binds name number old new = (n : List ℕ) → bound_at new n ≡ (if same_name name n then number else bound_at old n)

-- what an invalidation covers is bound by its number now, and all else as before
abbrev pub Sets : What → ℕ → Bounds → Bounds → Type 0
Sets whats.All number old new = new ≡ record old { all = number }
Sets whats.Users number old new = new ≡ record old { users = number }
Sets whats.Groups number old new = new ≡ record old { groups = number }
Sets (whats.User name) number old new =
    (new ≡ record old { user_names = new.user_names }) × Binds name number old.user_names new.user_names
Sets (whats.Group name) number old new =
    (new ≡ record old { group_names = new.group_names }) × Binds name number old.group_names new.group_names

-- the bounds are those of a journal's invalidations
pub record HoldsVoids (past : List Entry) (b : Bounds) : Type 0 where
  pub each : (own : Key) (answered : Answered) → bound_of b own answered ≡ last_void past own answered

-- where the one holds a journal's invalidations, the other does with one more, of what this names and of this number
abbrev pub FollowsVoid : What → ℕ → Bounds → Bounds → Type 0
FollowsVoid what number old new =
    (past : List Entry) (e : Entry) → e.event ≡ events.Void what → e.number ≡ number → numbers_fall number past ≡ true
    → HoldsVoids past old → HoldsVoids (e ∷ past) new
