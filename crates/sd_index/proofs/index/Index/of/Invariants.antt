use Rattle.std.proofs.Common.{reverse, take}
use Rattle.sd_index.specs.Table.{Indexes}
use Rattle.sd_index.proofs.index.Index.of.Given as goal

-- it is the index of the entries before this place
abbrev pub invariant-loop-place : goal.invariant-loop-place
invariant-loop-place l = Indexes (reverse (take l.place l.entries)) l.index
