use Rattle.std.proofs.Common.{◌≡◌, ◌++◌, drop}
use Rattle.sd_layout.specs.Entries.{named}
use Rattle.sd_layout.proofs.rules.named.Given as goal

-- those so far, and those left
abbrev pub invariant-loop-item : goal.invariant-loop-item
invariant-loop-item l = l.values ++ named l.base l.side (drop l.item-index l.items) ≡ named l.base l.side l.items
