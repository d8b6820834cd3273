use Rattle.sd_desk.specs.Desks.{front, IsOwn, HoldsNoTurn, IsSameSeat}
use Rattle.sd_session.specs.Desks.{at_desk, trace_at}
use Rattle.sd_session.specs.Running.{Stands, outside_at}
use Rattle.sd_session.proofs.shared.run.Given as goal

-- the session stands between two turns
abbrev pub invariant-loop-round : goal.invariant-loop-round
invariant-loop-round g l = record {
  own : IsOwn l.desk l.seat;
  free : HoldsNoTurn l.seat;
  same : IsSameSeat l.fn.seat l.seat;
  stands :
      Stands at_desk l.salts l.config (front l.desk l.fn.seat)
      (outside_at (g.S.Source.left l.fn.source) (g.W.Sink.held l.fn.sink) (trace_at (g.C.Clock.readings l.fn.clock) l.fn.seat) (g.S.Source.faults l.fn.source) (g.W.Sink.faults l.fn.sink)
      (record { operations = g.D.Dialer.operations l.fn.dialer; received = g.D.Dialer.received l.fn.dialer; faults = g.D.Dialer.faults l.fn.dialer; behind = g.D.Dialer.behind l.fn.dialer }))
      l.engine (front l.desk l.seat)
      (outside_at (g.S.Source.left l.source) (g.W.Sink.held l.sink) (trace_at (g.C.Clock.readings l.clock) l.seat) (g.S.Source.faults l.source) (g.W.Sink.faults l.sink)
      (record { operations = g.D.Dialer.operations l.dialer; received = g.D.Dialer.received l.dialer; faults = g.D.Dialer.faults l.dialer; behind = g.D.Dialer.behind l.dialer }));
}
