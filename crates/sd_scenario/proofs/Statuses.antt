-- The statuses that a scenario comes to.
use Rattle.std.proofs.Common.{◌≡◌, ◌⊎◌, ℕ, Bool, true, false, List, Option, Some, None, arith}
use Rattle.sd_tools.specs.declared.endings.TheConstants.{WRITE_FAULT}
use Rattle.sd_layout.specs.Faults.{first_bad}
use Rattle.sd_world.specs.Endings.{ending_by_bad, ending_by_lines, ending_by_journal}
use Rattle.sd_world.specs.Transcript.{Transcript, transcript}
use Rattle.sd_scenario.specs.Endings.{IsStatus}

by_journal : (is_full : Bool) (text : List ℕ) → IsStatus (ending_by_journal is_full text).status
by_journal true text = grind arith
by_journal false text = grind arith

by_bad : (bad : Option ℕ) (t : Transcript) → IsStatus (ending_by_bad bad t).status
by_bad (Some n) t = grind arith
by_bad None t = by_journal t.is_full t.text

-- the status of a text's lines, or the one of a fault in writing, is a status
pub ending_is_status : (text : List ℕ) (status : ℕ) → (status ≡ (ending_by_lines text).status) ⊎ (status ≡ WRITE_FAULT) → IsStatus status
ending_is_status text status h = let known = by_bad (first_bad text) (transcript text) in grind (arith, known)
