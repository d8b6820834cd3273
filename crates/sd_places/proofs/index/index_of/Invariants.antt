use Rattle.std.proofs.Common.{take}
use Rattle.sd_places.specs.Index.{IsIndex}
use Rattle.sd_places.proofs.index.index_of.Given as goal

abbrev pub invariant-loop-place : goal.invariant-loop-place
invariant-loop-place l = IsIndex l.index (take l.place l.slots)
