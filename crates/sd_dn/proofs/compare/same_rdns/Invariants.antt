use Rattle.std.proofs.Common.{◌≡◌, drop}
use Rattle.sd_dn.specs.Comparing.{same_dn}
use Rattle.sd_dn.proofs.compare.same_rdns.Given as goal

-- what is left is the same exactly where the whole is
abbrev pub invariant-loop-place : goal.invariant-loop-place
invariant-loop-place l = same_dn (drop l.place l.a) (drop l.place l.b) ≡ same_dn l.a l.b
