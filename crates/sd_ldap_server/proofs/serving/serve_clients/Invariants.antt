use Rattle.std.proofs.Common.{◌≤◌}
use Rattle.sd_ldap_server.proofs.serving.serve_clients.Given as goal

abbrev pub invariant-loop : goal.invariant-loop
invariant-loop g l = g.D.Doors.faults l.fn.doors ≤ g.D.Doors.faults l.doors
