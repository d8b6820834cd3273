-- The daemon of a journal that was opened, whatever its settings.
use Rattle.std.specs.Prelude.{◌≡◌, ℕ, List, reverse}
use Rattle.sd_rules.specs.declared.events.Row.{Row}
use Rattle.sd_rules.specs.declared.replies.Entry.{Entry}
use Rattle.sd_rules.specs.declared.settings.Settings.{Settings}
use Rattle.sd_rules.specs.KeptRows.{opened, reopened, rows_of}
use Rattle.sd_rules.specs.Steps.{Daemon}
use Rattle.sd_keeping.specs.declared.opening.OpenJournal.{OpenJournal}

abbrev pub daemon : Settings → ℕ → ℕ → List Entry → Daemon
daemon s next floor entries = record { settings = s; next = next; floor = floor; past = reverse entries }

abbrev pub daemon_of : Settings → OpenJournal → Daemon
daemon_of s o = daemon s o.next o.floor o.entries.items

-- rows open this journal
abbrev pub Opens : List Row → OpenJournal → Type 0
Opens rows o = (s : Settings) → daemon_of s o ≡ opened s rows

-- a journal, with its next number and its least moment, becomes this one over a restart
abbrev pub Reopens : ℕ → ℕ → List Entry → OpenJournal → Type 0
Reopens next floor entries o = (s : Settings) → daemon_of s o ≡ reopened (daemon s next floor entries)

-- of a journal, with its next number and its least moment, these rows are kept
abbrev pub Keeps : ℕ → ℕ → List Entry → List Row → Type 0
Keeps next floor entries rows = (s : Settings) → rows ≡ rows_of (daemon s next floor entries)
