use Rattle.std.proofs.Common.{◌≡◌, drop, codes}
use Rattle.sd_netgroup.specs.Named.{values_of}
use Rattle.sd_netgroup.specs.Rounds.{with_names}
use Rattle.sd_netgroup.proofs.finds.put_members.Given as goal

abbrev pub invariant-loop-attribute : goal.invariant-loop-attribute
invariant-loop-attribute l =
    with_names l.names.keys (values_of (codes "memberNisNetgroup") (drop l.attribute-index l.attributes))
    ≡ with_names l.fn.names.keys (values_of (codes "memberNisNetgroup") l.attributes)
