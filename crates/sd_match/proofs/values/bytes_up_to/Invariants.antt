use Rattle.std.proofs.Common.{◌≡◌, ◌≤◌, length, drop}
use Rattle.sd_match.specs.Matching.{bytes_up_to}
use Rattle.sd_match.proofs.values.bytes_up_to.Given as goal

-- what is left decides
abbrev pub invariant-loop-place : goal.invariant-loop-place
invariant-loop-place l = (bytes_up_to (drop l.place l.a) (drop l.place l.b) ≡ bytes_up_to l.a l.b) × (l.place ≤ length l.b)
