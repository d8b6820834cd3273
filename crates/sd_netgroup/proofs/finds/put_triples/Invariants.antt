use Rattle.std.proofs.Common.{◌≡◌, drop, codes}
use Rattle.sd_netgroup.specs.Named.{values_of, spelled_by}
use Rattle.sd_netgroup.specs.Order.{with_triples}
use Rattle.sd_netgroup.proofs.finds.put_triples.Given as goal

abbrev pub invariant-loop-attribute : goal.invariant-loop-attribute
invariant-loop-attribute l =
    with_triples l.triples.keys (spelled_by (values_of (codes "nisNetgroupTriple") (drop l.attribute-index l.attributes)))
    ≡ with_triples l.fn.triples.keys (spelled_by (values_of (codes "nisNetgroupTriple") l.attributes))
