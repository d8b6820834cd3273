use Rattle.sd_core.specs.Growth.{KeepsGrown}
use Rattle.sd_session.specs.Sessions.{alone, trace_of}
use Rattle.sd_session.specs.Running.{Stands, outside_at}
use Rattle.sd_session.proofs.solo.run.Given as goal

-- the session stands between two turns
abbrev pub invariant-loop-round : goal.invariant-loop-round
invariant-loop-round g l = record {
  stands :
      Stands alone l.salts l.config l.fn.core
      (outside_at (g.S.Source.left l.fn.source) (g.W.Sink.held l.fn.sink) (trace_of (g.C.Clock.readings l.fn.clock) l.fn.core) (g.S.Source.faults l.fn.source) (g.W.Sink.faults l.fn.sink)
      (record { operations = g.D.Dialer.operations l.fn.dialer; received = g.D.Dialer.received l.fn.dialer; faults = g.D.Dialer.faults l.fn.dialer; behind = g.D.Dialer.behind l.fn.dialer }))
      l.engine l.core
      (outside_at (g.S.Source.left l.source) (g.W.Sink.held l.sink) (trace_of (g.C.Clock.readings l.clock) l.core) (g.S.Source.faults l.source) (g.W.Sink.faults l.sink)
      (record { operations = g.D.Dialer.operations l.dialer; received = g.D.Dialer.received l.dialer; faults = g.D.Dialer.faults l.dialer; behind = g.D.Dialer.behind l.dialer }));
  grown : KeepsGrown l.fn.core l.core;
}
