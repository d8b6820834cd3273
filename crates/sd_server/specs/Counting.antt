-- Counts of faults, and what is told of doors.
use Rattle.std.specs.Prelude.{◌≡◌, ◌<◌, ◌≤◌, ℕ, Bool, true}
use Rattle.sd_base.specs.Causes.{Rose}

-- a count takes in the faults of an object: it rises where the object counted one, and else stands
pub record Counts (before now faults : ℕ) : Type 0 where
  pub later : before ≤ now
  pub rises : 0 < faults → Rose before now
  pub stands : faults ≡ 0 → now ≡ before

-- what doors told is told
pub record Tells (gave ended gave' ended' : Bool) : Type 0 where
  pub gave_one : gave' ≡ true → gave ≡ true
  pub has_ended : ended' ≡ true → ended ≡ true
