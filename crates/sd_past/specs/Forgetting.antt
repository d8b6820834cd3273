-- What a forget hands back. A past is the list of a journal's entries, the newest first.
use Rattle.std.specs.Prelude.{◌≡◌, ◌-◌, ◌^◌, min, List, reverse}
use Rattle.sd_rules.specs.declared.replies.Entry.{Entry}
use Rattle.sd_rules.specs.Needed.{forgotten}
use Rattle.sd_rules.specs.TextBytes.{text_bytes}
use Rattle.sd_past.specs.declared.past.Forgotten.{Forgotten}

-- the entries that no later event can look at, and how much text they hold; a sum past the greatest u64 stands still there
pub record AreForgotten (past : List Entry) (f : Forgotten) : Type 0 where
  pub dropped : reverse f.dropped.items ≡ forgotten past
  pub texts : f.text_bytes ≡ min (text_bytes (forgotten past)) (2 ^ 64 - 1)
