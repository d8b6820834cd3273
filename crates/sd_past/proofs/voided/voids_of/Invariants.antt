use Rattle.std.proofs.Common.{reverse, take}
use Rattle.sd_voids.specs.Voids.{HoldsVoids}
use Rattle.sd_past.proofs.voided.voids_of.Given as goal

-- those of the entries before this place
abbrev pub invariant-loop-place : goal.invariant-loop-place
invariant-loop-place l = HoldsVoids (reverse (take l.place l.entries)) l.voids
