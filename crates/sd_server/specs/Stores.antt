-- The store of a daemon: what its keeper tells, and when rows are put there.
use Rattle.std.specs.Prelude.{◌≡◌, ◌⊎◌, ◌+◌, ◌-◌, ◌==◌, ◌≤◌, ℕ, nat_le, is_some, Bool, false, List, Option, Some, None, if◌then◌else◌}
use Rattle.sd_rules.specs.KeptRows.{rows_of}
use Rattle.sd_rules.specs.Reaching.{Reaches}
use Rattle.sd_rules.specs.Steps.{Daemon}
use Rattle.sd_desk.specs.Desks.{front, IsOwn, HoldsNoTurn}
use Rattle.sd_desk.specs.declared.desk.Desk.{Desk}
use Rattle.sd_desk.specs.declared.seat.DeskSeat.{DeskSeat}
use Rattle.sd_keeper.specs.Blobs.{blobs_of}
use Rattle.sd_keeper.specs.Keeping.{replaced}
use Rattle.sd_server.specs.declared.store.LastFlush.{LastFlush}

-- what a keeper tells, where there is one
abbrev pub told_by : {K : Type 0} → (K → Option (List (List ℕ))) → Option K → Option (List (List ℕ))
told_by told None = None
told_by told (Some keeper) = told keeper

-- whether its last call failed
abbrev pub failed_by : {K : Type 0} → (K → Bool) → Option K → Bool
failed_by failed None = false
failed_by failed (Some keeper) = failed keeper

-- how many of its calls have failed
abbrev pub faults_by : {K : Type 0} → (K → ℕ) → Option K → ℕ
faults_by faults None = 0
faults_by faults (Some keeper) = faults keeper

-- the keeper tells the rows of a journal that this one reaches
pub record HoldsReached (daemon : Daemon) (before now : Option (List (List ℕ))) : Type 0 where
  pub journal : Daemon
  pub reaches : Reaches daemon journal
  pub rows : now ≡ replaced before (blobs_of (rows_of journal))

-- the keeper tells what it told, or those
abbrev pub HoldsOldOrReached : Daemon → Option (List (List ℕ)) → Option (List (List ℕ)) → Type 0
HoldsOldOrReached daemon before now = (now ≡ before) ⊎ HoldsReached daemon before now

-- a keeper stays, where there is one, and its count of faults does not fall
pub record Stays {K : Type 0} (faults : K → ℕ) (before now : Option K) : Type 0 where
  pub there : is_some now ≡ is_some before
  pub later : faults_by faults before ≤ faults_by faults now

-- a seat is still one of its desk, holds no turn, and has seen the journal grow
pub record IsLater (desk : Desk) (before now : DeskSeat) : Type 0 where
  pub own : IsOwn desk now
  pub free : HoldsNoTurn now
  pub reaches : Reaches (front desk before) (front desk now)

-- how long rows wait for a flush, in seconds, as many hashes have come since the last
abbrev pub wait_for : ℕ → ℕ → ℕ
wait_for before now = if now == before then 60 else 1

-- that time has passed, forwards or backwards
abbrev pub is_due : LastFlush → ℕ → ℕ → Bool
is_due last moment hashes = nat_le (wait_for last.hashes hashes) ((moment - last.moment) + (last.moment - moment))
