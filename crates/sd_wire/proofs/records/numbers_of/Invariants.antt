use Rattle.std.proofs.Common.{◌≡◌, ◌++◌, drop}
use Rattle.sd_wire.specs.RecordLines as lines
use Rattle.sd_wire.proofs.records.numbers_of.Given as goal

-- the numbers found, and then those of the groups left, are all
abbrev pub invariant-loop-group : goal.invariant-loop-group
invariant-loop-group l = l.numbers.items ++ lines.numbers_of (drop l.group-index l.groups) ≡ lines.numbers_of l.groups
