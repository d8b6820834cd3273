use Rattle.sd_desk.specs.Desks.{front, IsOwn, HoldsNoTurn, IsSameSeat}
use Rattle.sd_session.specs.Desks.{at_desk, trace_at}
use Rattle.sd_session.proofs.GivingUp.{Abandons}
use Rattle.std.specs.Prelude.{drop}
use Rattle.sd_rules.specs.Reaching.{Reaches}
use Rattle.sd_session.proofs.OverLaws.{IsAbandoned}
use Rattle.sd_session.proofs.leaving.abandon_all.Given as goal

-- those so far were given up
abbrev pub invariant-loop-number : goal.invariant-loop-number
invariant-loop-number g l = record {
  own : IsOwn l.desk l.seat;
  free : HoldsNoTurn l.seat;
  same : IsSameSeat l.fn.seat l.seat;
  withdraws : Abandons at_desk l.numbers (drop l.number-index l.numbers) (front l.desk l.fn.seat) (front l.desk l.seat) (trace_at (g.C.Clock.readings l.fn.clock) l.fn.seat) (trace_at (g.C.Clock.readings l.clock) l.seat);
  reaches : Reaches (front l.desk l.fn.seat) (front l.desk l.seat);
  abandoned : IsAbandoned (front l.desk l.fn.seat) (front l.desk l.seat) l.numbers (drop l.number-index l.numbers);
}
