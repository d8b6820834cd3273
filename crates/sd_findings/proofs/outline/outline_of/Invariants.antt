use Rattle.std.proofs.Common.{reverse, take}
use Rattle.sd_findings.specs.Outlines.{IsOutlineOf}
use Rattle.sd_findings.proofs.outline.outline_of.Given as goal

-- of the entries so far
abbrev pub invariant-loop-place : goal.invariant-loop-place
invariant-loop-place l = IsOutlineOf (reverse l.entries) (reverse (take l.place l.entries)) l.outline
