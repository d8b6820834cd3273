use Rattle.std.proofs.Common.{length}
use Rattle.sd_voids.specs.Entries.{Searches}
use Rattle.sd_voids.proofs.entries.entry_by_halves.Given as goal

abbrev pub invariant-loop-part : goal.invariant-loop-part
invariant-loop-part l = Searches l.part l.entries l.number

abbrev pub decreases-loop-part : goal.decreases-loop-part
decreases-loop-part l = length l.part
