use Rattle.std.proofs.Common.{◌≡◌}
use Rattle.sd_turn.specs.Seats.{IsOwn, HoldsNoTurn, IsSameSeat, SameTries, front, mine}
use Rattle.sd_turn.proofs.turn.Turn.rest.Given as goal

abbrev pub invariant-loop : goal.invariant-loop
invariant-loop g l = IsOwn l.self l.seat × HoldsNoTurn l.seat × IsSameSeat l.initial.seat l.seat × SameTries l.initial.seat l.seat × (front l.seat ≡ front l.initial.seat) × (mine l.seat ≡ mine l.initial.seat)
