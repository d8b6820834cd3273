use Rattle.std.proofs.Common.{◌≡◌, drop}
use Rattle.sd_dn.specs.Comparing.{same_rdn}
use Rattle.sd_dn.proofs.compare.same_rdn.Given as goal

-- what is left is the same exactly where the whole is
abbrev pub invariant-loop-place : goal.invariant-loop-place
invariant-loop-place l = same_rdn (drop l.place l.a) (drop l.place l.b) ≡ same_rdn l.a l.b
