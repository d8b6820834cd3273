use Rattle.std.proofs.Common.{◌≡◌, drop}
use Rattle.sd_match.specs.Matching.{first_behind}
use Rattle.sd_match.proofs.substrings.first_behind.Given as goal

-- the part does not stand at the places so far
abbrev pub invariant-loop-place : goal.invariant-loop-place
invariant-loop-place l = first_behind l.part (drop l.place l.text) ≡ first_behind l.part l.text
