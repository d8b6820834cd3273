use Rattle.std.proofs.Common.{◌≡◌, drop}
use Rattle.sd_dn.specs.Comparing.{same_text}
use Rattle.sd_dn.proofs.compare.same_text.Given as goal

-- what is left is the same exactly where the whole is
abbrev pub invariant-loop-place : goal.invariant-loop-place
invariant-loop-place l = same_text (drop l.place l.a) (drop l.place l.b) ≡ same_text l.a l.b
