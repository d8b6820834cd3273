use Rattle.std.proofs.Common.{◌≡◌, ◌++◌, drop}
use Rattle.sd_netgroup.specs.Printing.{lines_of}
use Rattle.sd_netgroup.proofs.printing.push_triples.Given as goal

abbrev pub invariant-loop-triple : goal.invariant-loop-triple
invariant-loop-triple l = l.out.items ++ lines_of (drop l.triple-index l.triples) ≡ l.fn.out.items ++ lines_of l.triples
