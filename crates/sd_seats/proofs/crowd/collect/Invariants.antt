use Rattle.sd_desk.specs.Desks.{IsOwn, HoldsNoTurn, IsSameSeat}
use Rattle.sd_seats.proofs.crowd.collect.Given as goal

abbrev pub invariant-loop : goal.invariant-loop
invariant-loop g l = IsOwn l.desk l.seat × HoldsNoTurn l.seat × IsSameSeat l.fn.seat l.seat
