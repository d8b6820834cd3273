use Rattle.std.proofs.Common.{◌≡◌}
use Rattle.sd_nested.proofs.order.texts_of.Given as goal

abbrev pub invariant-loop-name : goal.invariant-loop-name
invariant-loop-name l = l.texts ≡ l.yielded
