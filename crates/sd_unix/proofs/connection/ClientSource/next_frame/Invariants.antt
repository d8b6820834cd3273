use Rattle.std.proofs.Common.{◌≡◌}
use Rattle.sd_unix.proofs.connection.ClientSource.next_frame.Given as goal

abbrev pub invariant-loop : goal.invariant-loop
invariant-loop g l = l.self.faults ≡ l.fn.self.faults
