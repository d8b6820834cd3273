use Rattle.std.proofs.Common.{◌≡◌, reverse, take}
use Rattle.sd_voids.specs.Entries.{numbers_fall}
use Rattle.sd_voids.proofs.entries.fall_from.Given as goal

abbrev pub invariant-loop-place : goal.invariant-loop-place
invariant-loop-place l = numbers_fall l.next (reverse (take l.place l.entries)) ≡ numbers_fall l.fn.next (reverse l.entries)
