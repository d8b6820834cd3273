-- The outage that nothing has ended.
use Rattle.std.specs.Prelude.{◌≡◌, ℕ, ◌+◌, nat_lt, List, Option, Some, None, if◌then◌else◌}
use Rattle.sd_rules.specs.declared.replies.Entry.{Entry}
use Rattle.sd_rules.specs.Past.{records_outage, ends_outage, outage_at}
use Rattle.sd_index.specs.declared.outages.Outage.{Outage}

abbrev pub outage_after : Option Outage → Entry → Option Outage
outage_after outage e =
    if records_outage e.event e.reply then Some (record { number = e.number; moment = e.moment })
    else if ends_outage e.event e.reply then None
    else outage

-- the number of the outage, where its time is not over at t
abbrev pub standing_at : Option Outage → ℕ → ℕ → Option ℕ
standing_at None timeout t = None
standing_at (Some outage) timeout t = if nat_lt t (outage.moment + timeout) then Some outage.number else None

-- the outage is that of a journal
pub record HoldsOutage (past : List Entry) (outage : Option Outage) : Type 0 where
  pub each : (timeout t : ℕ) → standing_at outage timeout t ≡ outage_at timeout past t
