use Rattle.std.proofs.Common.{◌≡◌, take}
use Rattle.sd_nested.specs.Order.{names_of}
use Rattle.sd_nested.proofs.order.names_of.Given as goal

abbrev pub invariant-loop-group : goal.invariant-loop-group
invariant-loop-group l = l.names.items ≡ names_of (take l.group-index l.refs)
