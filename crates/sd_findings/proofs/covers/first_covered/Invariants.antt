use Rattle.std.proofs.Common.{reverse, take}
use Rattle.sd_findings.specs.Covers.{HoldCovered}
use Rattle.sd_findings.proofs.covers.first_covered.Given as goal

-- of the entries so far
abbrev pub invariant-loop-place : goal.invariant-loop-place
invariant-loop-place l = HoldCovered (reverse l.all) (reverse (take l.place l.all)) l.lasts l.firsts
