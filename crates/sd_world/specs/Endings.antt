-- How a scenario ends by its lines: its status and what it writes, where no want of memory comes between.
use Rattle.std.specs.Prelude.{ℕ, Bool, true, false, List, Option, Some, None, Ok}
use Rattle.sd_world.specs.declared.endings.Ending.{Ending}
use Rattle.sd_world.specs.declared.endings.TheConstants.{JOURNAL_FULL}
use Rattle.sd_conf.specs.declared.config.Config.{Config}
use Rattle.sd_layout.specs.Blocks.{statements_of}
use Rattle.sd_layout.specs.Faults.{first_bad, first_bad_by}
use Rattle.sd_layout.specs.Head.{Head}
use Rattle.sd_world.specs.Transcript.{Transcript, transcript, transcript_by}
use Rattle.sd_tools.specs.declared.endings.TheConstants.{DONE, BAD_LINE}
use Rattle.sd_tools.specs.Endings.{bad_line}

-- the end of a scenario whose lines all have forms
abbrev pub status_by_journal : Bool → ℕ
status_by_journal true = JOURNAL_FULL
status_by_journal false = DONE

abbrev pub ending_by_journal : Bool → List ℕ → Ending
ending_by_journal is_full text = record { status = status_by_journal is_full; output = text }

-- the end at the first line without a form, or by the transcript
abbrev pub ending_by_bad : Option ℕ → Transcript → Ending
ending_by_bad (Some n) t = record { status = BAD_LINE; output = bad_line n }
ending_by_bad None t = ending_by_journal t.is_full t.text

-- the end of a scenario whose head gives this configuration
abbrev pub ending_behind : Head → Config → Ending
ending_behind head config = ending_by_bad (first_bad_by head (Ok config)) (transcript_by (Ok config) (statements_of head.number head.body))

abbrev pub ending_by_lines : List ℕ → Ending
ending_by_lines text = ending_by_bad (first_bad text) (transcript text)
