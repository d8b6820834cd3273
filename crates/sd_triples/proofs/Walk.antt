-- Reading, byte after byte.
use Rattle.std.specs.Prelude.{slice_index}
use Rattle.std.proofs.Common.{◌≡◌, ◌<◌, ◌≤◌, ℕ, List, length, take, Some, None, Err, Result, subst}
use Rattle.sd_triples.specs.declared.triples.Triple.{Triple}
use Rattle.sd_triples.specs.declared.reading.TripleFault.{TripleFault}
use Rattle.sd_triples.specs.declared.reading.TripleFault.TheVariants as faults
use Rattle.sd_triples.specs.Reading.{Progress, start, step, run, ended, IsBadAt}
use Rattle.sd_pieces.proofs.StepLaws as steps

abbrev pub bad_answer : ℕ → Result Triple TripleFault
bad_answer place = Err (faults.BadTriple place)

same_place : (a b : ℕ) → bad_answer a ≡ bad_answer b → a ≡ b
same_place a b h = cc

pub stopped : (text : List ℕ) (place : ℕ) (p : Progress) → place < length text → run start (take place text) ≡ Some p → step p (slice_index text place) ≡ None → (other : ℕ) → bad_answer place ≡ bad_answer other → IsBadAt text other
stopped text place p within front refused other h =
    subst (λ (n : ℕ). IsBadAt text n) (same_place place other h) (steps.stopped step ended start text place p within front refused)

pub ended_short : (text : List ℕ) (place : ℕ) (p : Progress) → length text ≤ place → run start (take place text) ≡ Some p → None ≡ ended p → (other : ℕ) → bad_answer (length text) ≡ bad_answer other → IsBadAt text other
ended_short text place p end front none other h =
    subst (λ (n : ℕ). IsBadAt text n) (same_place (length text) other h)
    (steps.ended_short step ended start text place p end front none)
