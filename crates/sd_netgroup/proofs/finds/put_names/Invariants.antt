use Rattle.std.proofs.Common.{◌≡◌, drop}
use Rattle.sd_netgroup.specs.Rounds.{with_names}
use Rattle.sd_netgroup.proofs.finds.put_names.Given as goal

-- the names that are left come to the same
abbrev pub invariant-loop-value : goal.invariant-loop-value
invariant-loop-value l = with_names l.names.keys (drop l.value-index l.values) ≡ with_names l.fn.names.keys l.values
