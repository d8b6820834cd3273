use Rattle.sd_desk.specs.Desks.{IsOwn, HoldsNoTurn, IsSameSeat}
use Rattle.sd_seats.proofs.rows.perform_all.Given as goal

abbrev pub invariant-loop : goal.invariant-loop
invariant-loop g l = IsOwn l.desk l.first × HoldsNoTurn l.first × IsSameSeat l.fn.first l.first × IsOwn l.desk l.second × HoldsNoTurn l.second × IsSameSeat l.fn.second l.second
