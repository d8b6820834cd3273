use Rattle.sd_desk.specs.Desks.{IsOwn, HoldsNoTurn, IsSameSeat}
use Rattle.sd_seats.proofs.crowd.look_all_up.Given as goal

abbrev pub invariant-loop-user : goal.invariant-loop-user
invariant-loop-user g l = IsOwn l.desk l.seat × HoldsNoTurn l.seat × IsSameSeat l.fn.seat l.seat
