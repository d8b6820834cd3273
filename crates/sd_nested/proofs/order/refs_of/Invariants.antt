use Rattle.std.proofs.Common.{◌≡◌}
use Rattle.sd_nested.proofs.order.refs_of.Given as goal

abbrev pub invariant-loop-group : goal.invariant-loop-group
invariant-loop-group l = l.refs ≡ l.yielded
