use Rattle.std.proofs.Common.{◌≡◌, drop}
use Rattle.sd_netgroup.specs.Rounds.{with_names}
use Rattle.sd_sudo.specs.Speaking.{nets_of, nets_asked}
use Rattle.sd_sudo.proofs.nets.nets_asked.Given as goal

-- the rules that are left come to the same
abbrev pub invariant-loop-role : goal.invariant-loop-role
invariant-loop-role l = with_names l.nets.keys (nets_of (drop l.role-index l.roles)) ≡ nets_asked l.roles
