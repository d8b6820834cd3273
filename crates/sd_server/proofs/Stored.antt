-- Flushes one after the other, over a journal that grows.
use Rattle.std.proofs.Common.{◌≡◌, ◌⊎◌, inl, inr, ℕ, List, Option, Some, None, refl, sym, ap, subst, ◌∙◌, arith, Bool, true, false, Result, Ok, Err}
use Rattle.std.specs.Prelude.{◌≢◌, IfOk, IsOk, OnOk, OnErr}
use Rattle.sd_rules.specs.KeptRows.{rows_of}
use Rattle.sd_rules.specs.Reaching.{Reaches}
use Rattle.sd_rules.specs.Steps.{Daemon}
use Rattle.sd_rules.proofs.ReachingLaws.{reaches_self, reaches_through}
use Rattle.sd_desk.specs.Desks.{front, IsOwn, HoldsNoTurn}
use Rattle.sd_desk.specs.declared.desk.Desk.{Desk}
use Rattle.sd_desk.specs.declared.seat.DeskSeat.{DeskSeat}
use Rattle.sd_keeper.specs.Blobs.{blobs_of}
use Rattle.sd_keeper.specs.Keeping.{replaced, TellsLast}
use Rattle.sd_keeper.specs.declared.keeper.KeeperFault.{KeeperFault}
use Rattle.sd_keeper.specs.declared.keeper.KeeperFault.TheVariants as faults
use Rattle.sd_server.specs.Ends.{TellsFailure}
use Rattle.sd_server.specs.declared.serving.ServeEnd.{ServeEnd}
use Rattle.sd_server.specs.declared.serving.ServeEnd.TheVariants as ends
use Rattle.sd_server.specs.Stores.{HoldsOldOrReached, HoldsReached, IsLater, Stays, faults_by, told_by}

replaced_twice : (told : Option (List (List ℕ))) (first second : List (List ℕ)) → replaced (replaced told first) second ≡ replaced told second
replaced_twice None first second = refl
replaced_twice (Some blobs) first second = refl

-- what a later journal's flush leaves is one of the first
pub holds_later : (d e : Daemon) (before now : Option (List (List ℕ))) → Reaches d e → HoldsReached e before now → HoldsReached d before now
holds_later d e before now to holds = record { journal = holds.journal; reaches = reaches_through d e holds.journal to holds.reaches; rows = holds.rows }

-- a flush over what another left
over : (d : Daemon) (before between now : Option (List (List ℕ))) → HoldsOldOrReached d before between → HoldsReached d between now → HoldsReached d before now
over d before between now (inl same) holds = subst (λ (told : Option (List (List ℕ))). HoldsReached d told now) same holds
over d before between now (inr first) holds = record {
  journal = holds.journal;
  reaches = holds.reaches;
  rows = holds.rows ∙ (ap (λ (told : Option (List (List ℕ))). replaced told (blobs_of (rows_of holds.journal))) first.rows
      ∙ replaced_twice before (blobs_of (rows_of first.journal)) (blobs_of (rows_of holds.journal)));
}

pub holds_then : (d e : Daemon) (before between now : Option (List (List ℕ))) → Reaches d e → HoldsOldOrReached d before between → HoldsReached e between now → HoldsReached d before now
holds_then d e before between now to first second = over d before between now first (holds_later d e between now to second)

pub old_or_later : (d e : Daemon) (before between now : Option (List (List ℕ))) → Reaches d e → HoldsOldOrReached d before between → HoldsOldOrReached e between now
    → HoldsOldOrReached d before now
old_or_later d e before between now to first (inl same) = subst (λ (told : Option (List (List ℕ))). HoldsOldOrReached d before told) (sym same) first
old_or_later d e before between now to first (inr second) = inr (holds_then d e before between now to first second)

pub stays_self : {K : Type 0} (faults : K → ℕ) (keeper : Option K) → Stays faults keeper keeper
stays_self faults keeper = record { there = refl; later = omega arith }

pub stays_through : {K : Type 0} (faults : K → ℕ) (a b c : Option K) → Stays faults a b → Stays faults b c → Stays faults a c
stays_through faults a b c first second = record { there = second.there ∙ first.there; later = omega (arith, first.later, second.later) }

-- without a keeper nothing is told
pub holds_none : {K : Type 0} (told : K → Option (List (List ℕ))) (daemon : Daemon) (keeper : Option K) → keeper ≡ None
    → HoldsReached daemon (told_by told keeper) (told_by told keeper)
holds_none told daemon None none = record { journal = daemon; reaches = reaches_self daemon; rows = refl }
holds_none told daemon (Some keeper) none = cc

-- a seat that is as it was
pub is_later_self : (desk : Desk) (seat : DeskSeat) → IsOwn desk seat → HoldsNoTurn seat → IsLater desk seat seat
is_later_self desk seat own free = record { own = own; free = free; reaches = reaches_self (front desk seat) }

pub is_later_through : (desk : Desk) (a b c : DeskSeat) → IsLater desk a b → IsLater desk b c → IsLater desk a c
is_later_through desk a b c first second = record {
  own = second.own;
  free = second.free;
  reaches = reaches_through (front desk a) (front desk b) (front desk c) first.reaches second.reaches;
}

-- a last flush, over what those before it left
pub flushed : {A E : Type 0} (d e : Daemon) (before between now : Option (List (List ℕ))) (result : Result A E) → Reaches d e → HoldsOldOrReached d before between
    → OnOk result (HoldsReached e between now) → OnErr result (now ≡ between) → HoldsOldOrReached d before now
flushed d e before between now (Ok x) to first holds same = inr (holds_then d e before between now to first holds)
flushed d e before between now (Err x) to first holds same = subst (λ (told : Option (List (List ℕ))). HoldsOldOrReached d before told) (sym same) first

pub flushed_ok : {A E : Type 0} (d e : Daemon) (before between now : Option (List (List ℕ))) (result : Result A E) → Reaches d e → HoldsOldOrReached d before between
    → OnOk result (HoldsReached e between now) → IsOk result → HoldsReached d before now
flushed_ok d e before between now (Ok x) to first holds ok = holds_then d e before between now to first holds
flushed_ok d e before between now (Err x) to first holds ok = let never : false ≡ true = ok in cc

-- what a keeper tells of its last call, where a flush failed
pub failed_last : {A : Type 0} (before now : Bool) (result : Result A KeeperFault) → result ≡ Err faults.Failed → TellsLast before now result → now ≡ true
failed_last before now (Ok x) is last = cc
failed_last before now (Err faults.Failed) is last = last
failed_last before now (Err faults.Memory) is last = cc

pub failing_last : {A : Type 0} (before now : Bool) (result : Result A KeeperFault) (told : Result ServeEnd KeeperFault) → OnErr result (TellsFailure told) → TellsLast before now result
    → now ≡ true → TellsFailure told
failing_last before now (Ok x) told failing last is = let never : now ≡ false = last in cc
failing_last before now (Err x) told failing last is = failing

pub told_stored : {A E F : Type 0} (told : Result ServeEnd F) (stored : Result A E) (P : Type 0) → IfOk told (λ end. end ≢ ends.DoorFailed → IsOk stored) → (IsOk stored → P)
    → IfOk told (λ end. end ≢ ends.DoorFailed → P)
told_stored (Ok end) stored P ok holds = λ apart. holds (ok apart)
told_stored (Err x) stored P ok holds = tt
