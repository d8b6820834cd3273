-- How a scenario ends: its status and what it writes, where no fault and no want of memory comes between.
use Rattle.std.specs.Prelude.{ℕ, Bool, true, false, nat_lt, length, codes, ◌≤◌, ◌≢◌, List, [], ◌∷◌, if◌then◌else◌}
use Rattle.sd_rules.specs.Keys.{same_name}
use Rattle.sd_tools.specs.declared.endings.TheConstants.{USAGE, TOO_LONG}
use Rattle.sd_tools.specs.Endings.{usage, too_long}
use Rattle.sd_world.specs.declared.endings.Ending.{Ending}
use Rattle.sd_world.specs.declared.endings.TheConstants.{LIMIT}
use Rattle.sd_world.specs.Endings.{ending_by_lines}

-- the one list of words that has a form
abbrev pub is_scenario : List (List ℕ) → Bool
is_scenario (w ∷ []) = same_name w (codes "scenario")
is_scenario _ = false

-- the end of a scenario of this text, by its length and its lines
abbrev pub ending_of : List ℕ → Ending
ending_of text =
    if nat_lt LIMIT (length text) then record { status = TOO_LONG; output = too_long } else ending_by_lines text

-- the end by the words and the text of the input
abbrev pub ending_by_words : Bool → List ℕ → Ending
ending_by_words false text = record { status = USAGE; output = usage }
ending_by_words true text = ending_of text

-- the statuses that a scenario has: 0 and 2 to 8
abbrev pub IsStatus : ℕ → Type 0
IsStatus status = (status ≤ TOO_LONG) × (status ≢ 1)
