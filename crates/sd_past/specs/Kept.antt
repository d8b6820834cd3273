-- The rows that are kept of entries, the newest first, whatever the settings.
use Rattle.std.specs.Prelude.{◌≡◌, ℕ, List}
use Rattle.sd_rules.specs.declared.events.Row.{Row}
use Rattle.sd_rules.specs.declared.replies.Entry.{Entry}
use Rattle.sd_rules.specs.declared.settings.Settings.{Settings}
use Rattle.sd_rules.specs.KeptRows.{rows_of}

-- of a past, with its next number and its least moment, these rows are kept
abbrev pub Keeps : ℕ → ℕ → List Entry → List Row → Type 0
Keeps next floor past rows = (s : Settings) → rows ≡ rows_of (record { settings = s; next = next; floor = floor; past = past })
