use Rattle.std.proofs.Common.{◌≡◌, ◌++◌, drop}
use Rattle.sd_layout.specs.Entries.{categories}
use Rattle.sd_layout.proofs.rules.categories.Given as goal

-- those so far, and those left
abbrev pub invariant-loop-item : goal.invariant-loop-item
invariant-loop-item l = l.values ++ categories l.side (drop l.item-index l.items) ≡ categories l.side l.items
