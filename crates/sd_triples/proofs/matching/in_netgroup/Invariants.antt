use Rattle.std.proofs.Common.{◌≡◌, drop}
use Rattle.std.specs.Option.{option_copied}
use Rattle.sd_triples.specs.Matching as matching
use Rattle.sd_triples.proofs.matching.in_netgroup.Given as goal

-- the triples that are left decide
abbrev pub invariant-loop-triple : goal.invariant-loop-triple
invariant-loop-triple l =
    matching.is_in (drop l.triple-index l.triples) (option_copied l.host) (option_copied l.user) (option_copied l.domain)
    ≡ matching.is_in l.triples (option_copied l.host) (option_copied l.user) (option_copied l.domain)
