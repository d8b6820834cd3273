use Rattle.std.proofs.Common.{◌≡◌, map, drop}
use Rattle.std.specs.Char.{to_ascii_lowercase}
use Rattle.std.specs.Cmp.Lexicographic.{slice_cmp}
use Rattle.std.specs.Ordering.{nat_cmp}
use Rattle.sd_hbac.proofs.names.order.Given as goal

-- what the bytes from the place on say is what all say
abbrev pub invariant-loop-place : goal.invariant-loop-place
invariant-loop-place l = slice_cmp nat_cmp (drop l.place l.lowered) (map to_ascii_lowercase (drop l.place l.name)) ≡ slice_cmp nat_cmp l.lowered (map to_ascii_lowercase l.name)
