use Rattle.std.proofs.Common.{◌≡◌, drop}
use Rattle.sd_netgroup.specs.Named.{spelled_by}
use Rattle.sd_netgroup.specs.Order.{with_triples}
use Rattle.sd_netgroup.proofs.finds.put_texts.Given as goal

-- the texts that are left come to the same
abbrev pub invariant-loop-text : goal.invariant-loop-text
invariant-loop-text l = with_triples l.triples.keys (spelled_by (drop l.text-index l.texts)) ≡ with_triples l.fn.triples.keys (spelled_by l.texts)
