use Rattle.std.proofs.Common.{reverse, take}
use Rattle.sd_sieve.specs.Readings.{AreLooked}
use Rattle.sd_sieve.proofs.looked.looked_of.Given as goal

-- of the entries so far
abbrev pub invariant-loop-place : goal.invariant-loop-place
invariant-loop-place l = AreLooked (reverse l.all) (reverse (take l.place l.all)) l.looked
