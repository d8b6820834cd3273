-- The newest answers by keys.
use Rattle.std.specs.Prelude.{◌≡◌, ◌∷◌, Bool, List, Option, Some, if◌then◌else◌}
use Rattle.std.specs.Map.{lookup}
use Rattle.std.specs.Option.{option_map}
use Rattle.sd_rules.specs.declared.keys.Key.{Key}
use Rattle.sd_rules.specs.declared.replies.Entry.{Entry}
use Rattle.sd_rules.specs.Keys.{same_key, speaks_of}
use Rattle.sd_rules.specs.Past.{Standing, newest}
use Rattle.sd_cache.specs.declared.kept.Newest.{Newest}
use Rattle.sd_cache.specs.Kept.{kept_of}

-- the answer that is kept for a key
abbrev pub newest_in : List (Key × Newest) → Key → Option Newest
newest_in answers k = lookup (same_key k) answers

-- an answer is put under the keys that a test names, and all else stays
abbrev pub IsPut : (Key → Bool) → Newest → List (Key × Newest) → List (Key × Newest) → Type 0
IsPut test a old new = (k : Key) → newest_in new k ≡ (if test k then Some a else newest_in old k)

-- what is kept for a key once an answer is put: that one, where it speaks of the key
abbrev pub after_put : Standing → Key → Option Newest → Option Newest
after_put a k before = if speaks_of a.own a.answered k then Some (kept_of a) else before

-- for each key the newest answer of a journal is kept
pub record HoldsNewest (past : List Entry) (answers : List (Key × Newest)) : Type 0 where
  pub each : (k : Key) → newest_in answers k ≡ option_map kept_of (newest past k)

-- where the one holds the newest answers of a journal, the other does with one more entry
abbrev pub FollowsEntry : List Entry → Entry → List (Key × Newest) → List (Key × Newest) → Type 0
FollowsEntry past e old new = HoldsNewest past old → HoldsNewest (e ∷ past) new
