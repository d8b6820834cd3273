use Rattle.sd_turn.specs.Seats.{IsOwn, HoldsNoTurn, IsSameSeat}
use Rattle.sd_seats.proofs.turns.keep_and_append.Given as goal

abbrev pub invariant-loop : goal.invariant-loop
invariant-loop g l = IsOwn l.turn l.seat × HoldsNoTurn l.seat × IsSameSeat l.fn.seat l.seat
