use Rattle.std.proofs.Common.{◌≡◌, length}
use Rattle.sd_ber.specs.Octets.{without_zeros}
use Rattle.sd_ber.proofs.writing.significant.Given as goal

-- only zeros were left out
abbrev pub invariant-loop-rest : goal.invariant-loop-rest
invariant-loop-rest l = without_zeros l.rest ≡ without_zeros l.octets

abbrev pub decreases-loop-rest : goal.decreases-loop-rest
decreases-loop-rest l = length l.rest
