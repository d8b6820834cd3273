use Rattle.std.proofs.Common.{◌≡◌, take}
use Rattle.sd_nested.proofs.order.copies_of.Given as goal

abbrev pub invariant-loop-group : goal.invariant-loop-group
invariant-loop-group l = l.made.items ≡ take l.group-index l.refs
