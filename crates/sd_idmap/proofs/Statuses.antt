-- The statuses that an input comes to.
use Rattle.std.proofs.Common.{◌≡◌, ◌⊎◌, ℕ, List, Option, Some, None, arith}
use Rattle.sd_tools.specs.declared.endings.TheConstants.{WRITE_FAULT}
use Rattle.sd_idmap.specs.Lines.{first_bad}
use Rattle.sd_idmap.specs.Transcript.{transcript}
use Rattle.sd_idmap.specs.Endings.{IsStatus, ending_by_bad, ending_by_lines}

by_bad : (bad : Option ℕ) (printed : List ℕ) → IsStatus (ending_by_bad bad printed).status
by_bad (Some n) printed = grind arith
by_bad None printed = grind arith

-- the status of a text's lines, or the one of a fault in writing, is a status
pub ending_is_status : (text : List ℕ) (status : ℕ) → (status ≡ (ending_by_lines text).status) ⊎ (status ≡ WRITE_FAULT) → IsStatus status
ending_is_status text status h = let known = by_bad (first_bad text) (transcript text) in grind (arith, known)
