use Rattle.std.proofs.Common.{◌≡◌, take}
use Rattle.sd_triples.specs.Grammar as grammar
use Rattle.sd_triples.proofs.triples.without_end.Given as goal

-- only spaces were passed
abbrev pub invariant-loop-end : goal.invariant-loop-end
invariant-loop-end l = grammar.without_end (take l.end l.bytes) ≡ grammar.without_end l.bytes
