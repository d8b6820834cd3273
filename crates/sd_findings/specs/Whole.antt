-- A journal with its index.
use Rattle.std.specs.Prelude.{List, reverse}
use Rattle.sd_rules.specs.declared.replies.Entry.{Entry}
use Rattle.sd_index.specs.Table.{Indexes}
use Rattle.sd_findings.specs.declared.whole.Whole.{Whole}

-- its entries, the newest first
abbrev pub past_of : Whole → List Entry
past_of w = reverse w.entries.now

-- the index is that of the entries
abbrev pub IsIndexed : Whole → Type 0
IsIndexed w = Indexes (reverse w.entries.now) w.index.now
