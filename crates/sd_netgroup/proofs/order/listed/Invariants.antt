use Rattle.std.proofs.Common.{◌≡◌}
use Rattle.sd_netgroup.proofs.order.listed.Given as goal

abbrev pub invariant-loop-triple : goal.invariant-loop-triple
invariant-loop-triple l = l.listed ≡ l.yielded
