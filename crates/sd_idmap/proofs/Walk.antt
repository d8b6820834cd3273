-- Reading, byte after byte.
use Rattle.std.specs.Prelude.{slice_index}
use Rattle.std.proofs.Common.{◌≡◌, ◌<◌, ◌≤◌, ℕ, List, length, take, Some, None, Err, Result, subst}
use Rattle.sd_idmap.specs.declared.sids.Sid.{Sid}
use Rattle.sd_idmap.specs.declared.reading.SidFault.{SidFault}
use Rattle.sd_idmap.specs.declared.reading.SidFault.TheVariants as faults
use Rattle.sd_idmap.specs.declared.reading.Stage.{Stage}
use Rattle.sd_idmap.specs.Reading.{Progress, at, start, step, run, ended, IsBadAt}
use Rattle.sd_pieces.proofs.StepLaws as steps

abbrev pub bad_answer : ℕ → Result Sid SidFault
bad_answer place = Err (faults.BadSid place)

same_place : (a b : ℕ) → bad_answer a ≡ bad_answer b → a ≡ b
same_place a b h = cc

pub stopped : (text : List ℕ) (place : ℕ) (p : Progress) → place < length text → run start (take place text) ≡ Some p → step p (slice_index text place) ≡ None → (other : ℕ) → bad_answer place ≡ bad_answer other → IsBadAt text other
stopped text place p within front refused other h =
    subst (λ (n : ℕ). IsBadAt text n) (same_place place other h) (steps.stopped step (λ q. ended q.whole q.stage) start text place p within front refused)

pub ended_short : (text : List ℕ) (place : ℕ) (whole : List ℕ) (stage : Stage) → length text ≤ place → run start (take place text) ≡ Some (at whole stage) → None ≡ ended whole stage → (other : ℕ) → bad_answer (length text) ≡ bad_answer other → IsBadAt text other
ended_short text place whole stage end front none other h =
    subst (λ (n : ℕ). IsBadAt text n) (same_place (length text) other h)
    (steps.ended_short step (λ q. ended q.whole q.stage) start text place (at whole stage) end front none)
