use Rattle.std.proofs.Common.{reverse, take, []}
use Rattle.sd_findings.specs.Walks.{IsWalkOf}
use Rattle.sd_findings.proofs.walk.pass_all.Given as goal

-- of the entries so far
abbrev pub invariant-loop-place : goal.invariant-loop-place
invariant-loop-place l = IsWalkOf (reverse l.entries) [] l.initial.walk → IsWalkOf (reverse l.entries) (reverse (take l.place l.entries)) l.walk
