-- What a keeper tells after a call.
use Rattle.std.specs.Prelude.{◌≡◌, ℕ, ◌≤◌, Bool, true, false, List, Option, Some, None, Result, Ok, Err, ◌⊎◌}
use Rattle.std.specs.Option.{option_map}
use Rattle.sd_base.specs.Causes.{Rose}
use Rattle.sd_keeper.specs.declared.keeper.KeeperFault.{KeeperFault}
use Rattle.sd_keeper.specs.declared.keeper.KeeperFault.TheVariants as faults

-- whether an answer is that the call failed
abbrev pub has_failed : {T : Type 0} → Result T KeeperFault → Bool
has_failed (Err faults.Failed) = true
has_failed (Err faults.Memory) = false
has_failed (Ok x) = false

-- the count of faults has not fallen, and a call that failed counted
pub record HasCause {T : Type 0} (before now : ℕ) (result : Result T KeeperFault) : Type 0 where
  pub later : before ≤ now
  pub failed : has_failed result ≡ true → Rose before now

-- what is told once all was replaced: of a keeper that tells nothing, nothing
abbrev pub replaced : Option (List (List ℕ)) → List (List ℕ) → Option (List (List ℕ))
replaced told blobs = option_map (λ _. blobs) told

-- whether the last call failed, where it was one of the keeper; where memory ran out before it, as before
abbrev pub TellsLast : {T : Type 0} → Bool → Bool → Result T KeeperFault → Type 0
TellsLast before now (Ok x) = now ≡ false
TellsLast before now (Err faults.Failed) = now ≡ true
TellsLast before now (Err faults.Memory) = (now ≡ before) ⊎ (now ≡ false)
