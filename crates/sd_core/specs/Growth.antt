-- A daemon that came from an opened one by steps.
use Rattle.std.specs.Prelude.{◌≡◌, List, ◌++◌}
use Rattle.sd_rules.specs.declared.replies.Entry.{Entry}
use Rattle.sd_rules.specs.Legal.{IsLegal}
use Rattle.sd_rules.specs.Steps.{Daemon, number_after}
use Rattle.sd_forgetting.specs.Kept.{Keeps}
use Rattle.sd_forgetting.specs.Orderly.{IsOrderly}

-- its settings and its least moment are those of the opened one, and the entries made since are each what the rules make of the
-- entries before it
pub record IsGrown (opened d : Daemon) : Type 0 where
  pub since : List Entry
  pub settings : d.settings ≡ opened.settings
  pub floor : d.floor ≡ opened.floor
  pub past : d.past ≡ since ++ opened.past
  pub next : number_after d.next d.past ≡ number_after opened.next d.past
  pub legal : IsLegal opened since

-- what the one came from by legal entries, the other did too
abbrev pub KeepsGrown : Daemon → Daemon → Type 0
KeepsGrown d e = (opened : Daemon) → IsGrown opened d → IsGrown opened e

-- A daemon that came from an opened one by steps and forgets: it keeps, of one that came by steps alone, all that later events look at.
pub record IsGrownPart (opened d : Daemon) : Type 0 where
  pub whole : Daemon
  pub grown : IsGrown opened whole
  pub orderly : IsOrderly whole.next whole.past
  pub keeps : Keeps whole d

-- what the one came from so, the other did too
abbrev pub KeepsPart : Daemon → Daemon → Type 0
KeepsPart d e = (opened : Daemon) → IsGrownPart opened d → IsGrownPart opened e
