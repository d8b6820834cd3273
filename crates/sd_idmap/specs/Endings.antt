-- How the numbering of SIDs ends: its status and what it writes, where no fault and no want of memory comes between.
use Rattle.std.specs.Prelude.{ℕ, Bool, true, false, nat_lt, length, codes, ◌≤◌, ◌≢◌, List, [], ◌∷◌, Option, Some, None, if◌then◌else◌}
use Rattle.sd_idmap.specs.declared.endings.Ending.{Ending}
use Rattle.sd_idmap.specs.declared.endings.TheConstants.{LIMIT}
use Rattle.sd_idmap.specs.Lines.{same_word, first_bad}
use Rattle.sd_idmap.specs.Transcript.{transcript}
use Rattle.sd_tools.specs.declared.endings.TheConstants.{DONE, USAGE, BAD_LINE, TOO_LONG}
use Rattle.sd_tools.specs.Endings.{usage, too_long, bad_line}

-- the one list of words that has a form
abbrev pub is_idmap : List (List ℕ) → Bool
is_idmap (w ∷ []) = same_word w (codes "idmap")
is_idmap _ = false

-- the end at the first line without a form, or by what the lines print
abbrev pub ending_by_bad : Option ℕ → List ℕ → Ending
ending_by_bad (Some n) printed = record { status = BAD_LINE; output = bad_line n }
ending_by_bad None printed = record { status = DONE; output = printed }

abbrev pub ending_by_lines : List ℕ → Ending
ending_by_lines text = ending_by_bad (first_bad text) (transcript text)

-- the end by the length and the lines of the input
abbrev pub ending_of : List ℕ → Ending
ending_of text =
    if nat_lt LIMIT (length text) then record { status = TOO_LONG; output = too_long } else ending_by_lines text

-- the end by the words and the text of the input
abbrev pub ending_by_words : Bool → List ℕ → Ending
ending_by_words false text = record { status = USAGE; output = usage }
ending_by_words true text = ending_of text

-- the statuses: 0, 2 to 5, 7 and 8
abbrev pub IsStatus : ℕ → Type 0
IsStatus status = (status ≤ TOO_LONG) × (status ≢ 1) × (status ≢ 6)
