-- What a client's request has in the journals of a desk: the requests that it leads and the tickets that it waits with are of the
-- keys that it names them for, where their entries were not forgotten.
use Rattle.std.specs.Prelude.{◌≡◌, ℕ, true, List}
use Rattle.sd_rules.specs.declared.keys.Key.{Key}
use Rattle.sd_rules.specs.declared.scripts.Led.{Led}
use Rattle.sd_rules.specs.Names.{AllNamed}
use Rattle.sd_rules.specs.Steps.{Daemon}
use Rattle.sd_core.specs.Laws.{IsKept}
use Rattle.sd_engine.specs.Courses.{Course}
use Rattle.sd_engine.specs.Names.{names, holds_order}
use Rattle.sd_desk.specs.Speaking.{Speaks}

abbrev pub Spoken : Daemon → ℕ → Key → Type 0
Spoken d n key = Speaks n key d

abbrev pub AllSpeak : Daemon → List Led → Type 0
AllSpeak d led = AllNamed (Spoken d) led

pub record IsSpoken (d : Daemon) (task : Course) : Type 0 where
  pub asked : AllSpeak d (names task)
  pub order : holds_order task ≡ true

-- what was known of a journal that a core keeps is known of a later one
pub record KeepsNamed (d e : Daemon) : Type 0 where
  pub kept : IsKept d
  pub keeps : (n : ℕ) (key : Key) → Speaks n key d → Speaks n key e
