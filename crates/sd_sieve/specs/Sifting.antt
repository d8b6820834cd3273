-- One entry more is sifted.
use Rattle.std.specs.Prelude.{◌≡◌, ℕ, Bool, ◌+◌, ◌<◌, List, [], ◌∷◌, ◌++◌, length, take, slice_index_or, if◌then◌else◌}
use Rattle.sd_rules.specs.declared.replies.Entry.{Entry}

-- the entry at a place goes behind those that are kept, or behind the first `count`, which are handed back and are `further` then;
-- behind the place all stays
pub record SiftsAt (is_kept : Bool) (place count further : ℕ) (held longer old new : List Entry) : Type 0 where
  pub kept : (d : Entry) → longer ≡ (if is_kept then held ++ slice_index_or old place d ∷ [] else held)
  pub front : (d : Entry) → take further new ≡ (if is_kept then take count old else take count old ++ slice_index_or old place d ∷ [])
  pub many : further ≡ (if is_kept then count else count + 1)
  pub long : length new ≡ length old
  pub behind : (j : ℕ) (d : Entry) → place < j → slice_index_or new j d ≡ slice_index_or old j d
