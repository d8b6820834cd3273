-- Triples in their order.
use Rattle.std.specs.Prelude.{List, fold}
use Rattle.std.specs.BTreeSet.{insert_key}
use Rattle.sd_triples.specs.declared.triples.Triple.{Triple}
use Rattle.sd_triples.specs.Order.{triple_cmp}

-- more triples among those in order, each once
abbrev pub with_triples : List Triple → List Triple → List Triple
with_triples ordered more = fold (insert_key triple_cmp) ordered more
