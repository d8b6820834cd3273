-- What holds of the parts of a core.
use Rattle.std.specs.Prelude.{ℕ, Bool, ◌≡◌, List}
use Rattle.sd_rules.specs.declared.replies.Entry.{Entry}
use Rattle.sd_rules.specs.declared.settings.Settings.{Settings}
use Rattle.sd_rules.specs.Steps.{Daemon}
use Rattle.sd_rules.specs.TextBytes.{text_bytes}
use Rattle.sd_core.specs.Laws.{IsKept}
use Rattle.sd_core.specs.Looks.{has_stopped}
use Rattle.sd_core.specs.Sound.{IsSound}

-- the daemon of entries, the newest first
abbrev pub daemon_of : Settings → ℕ → ℕ → List Entry → Daemon
daemon_of s next floor past = record { settings = s; next = next; floor = floor; past = past }

-- the text bytes are counted, a word to end is known, and the journal is sound and kept
pub record IsHeld (s : Settings) (next floor texts : ℕ) (stopped : Bool) (past : List Entry) : Type 0 where
  pub counted : texts ≡ text_bytes past
  pub told : stopped ≡ has_stopped past
  pub sound : IsSound (daemon_of s next floor past)
  pub kept : IsKept (daemon_of s next floor past)
