use Rattle.std.proofs.Common.{◌≡◌, ◌++◌}
use Rattle.sd_turn.specs.Seats.{mine, IsOwn, HoldsNoTurn, IsSameSeat}
use Rattle.sd_seats.proofs.turns.append_each.Given as goal

abbrev pub invariant-loop : goal.invariant-loop
invariant-loop g l = IsOwn l.turn l.seat × HoldsNoTurn l.seat × IsSameSeat l.initial.seat l.seat × (mine l.seat ≡ mine l.initial.seat ++ l.numbers.items)
