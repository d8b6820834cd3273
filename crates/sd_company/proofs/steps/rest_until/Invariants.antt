use Rattle.sd_desk.specs.Desks.{IsOwn, HoldsNoTurn}
use Rattle.sd_company.proofs.steps.rest_until.Given as goal

abbrev pub invariant-loop : goal.invariant-loop
invariant-loop g l = IsOwn l.desk l.seat × HoldsNoTurn l.seat
