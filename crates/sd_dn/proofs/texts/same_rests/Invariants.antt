use Rattle.std.proofs.Common.{◌≡◌, length}
use Rattle.sd_dn.specs.Texts.{both_meet}
use Rattle.sd_dn.specs.Remaining.{remaining, AtType, same_head}
use Rattle.sd_dn.proofs.texts.same_rests.Given as goal

-- what is left is the same exactly where the whole is
abbrev pub invariant-loop-rest_a : goal.invariant-loop-rest_a
invariant-loop-rest_a l = both_meet same_head (remaining l.rest_a AtType) (remaining l.rest_b AtType) ≡ both_meet same_head (remaining l.fn.a AtType) (remaining l.fn.b AtType)

abbrev pub decreases-loop-rest_a : goal.decreases-loop-rest_a
decreases-loop-rest_a l = length l.rest_a
