use Rattle.std.proofs.Common.{◌≡◌, drop}
use Rattle.sd_netgroup.specs.Rounds.{with_names}
use Rattle.sd_sudo.specs.Speaking.{nets_in}
use Rattle.sd_sudo.proofs.nets.put_values.Given as goal

-- the values that are left come to the same
abbrev pub invariant-loop-value : goal.invariant-loop-value
invariant-loop-value l = with_names l.nets.keys (nets_in (drop l.value-index l.values)) ≡ with_names l.fn.nets.keys (nets_in l.values)
