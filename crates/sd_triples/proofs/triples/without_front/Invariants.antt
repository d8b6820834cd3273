use Rattle.std.proofs.Common.{◌≡◌, drop}
use Rattle.sd_triples.specs.Grammar as grammar
use Rattle.sd_triples.proofs.triples.without_front.Given as goal

-- only spaces were passed
abbrev pub invariant-loop-at : goal.invariant-loop-at
invariant-loop-at l = grammar.without_front (drop l.at l.bytes) ≡ grammar.without_front l.bytes
