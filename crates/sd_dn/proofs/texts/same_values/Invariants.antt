use Rattle.std.proofs.Common.{◌≡◌, ◌≤◌, ◌+◌, length, cond}
use Rattle.sd_dn.specs.Texts.{both_meet}
use Rattle.sd_dn.specs.Remaining.{remaining, AtValue, said, same_tail, is_byte}
use Rattle.sd_dn.proofs.texts.same_values.Given as goal

-- what is left is the same exactly where the whole is
abbrev pub invariant-loop-next_a : goal.invariant-loop-next_a
invariant-loop-next_a l =
    (both_meet same_tail (said l.x l.rest_a l.owed_a) (said l.y l.rest_b l.owed_b) ≡ both_meet same_tail (remaining l.fn.a AtValue) (remaining l.fn.b AtValue))
    × (length l.rest_a ≤ length l.fn.a)

abbrev pub decreases-loop-next_a : goal.decreases-loop-next_a
decreases-loop-next_a l = cond (is_byte l.x) (length l.rest_a + l.owed_a + 1) 0
