use Rattle.std.specs.Prelude.{ℕ, List}
use Rattle.sd_rules.specs.declared.events.Event.TheVariants as events
use Rattle.sd_conf.specs.declared.config.Config.{Config}
use Rattle.sd_desk.specs.Desks.{front, IsOwn, HoldsNoTurn, IsSameSeat}
use Rattle.sd_session.specs.Desks.{at_desk, trace_at}
use Rattle.sd_session.specs.Running.{Outside, Awaits, GoesOn, tracing}
use Rattle.sd_session.proofs.shared.collect.Given as goal

-- the ticket is waited with, and the session stands where it stood, but for the daemon and the clock's readings
abbrev pub invariant-loop : goal.invariant-loop
invariant-loop g l = record {
  own : IsOwn l.desk l.seat;
  free : HoldsNoTurn l.seat;
  same : IsSameSeat l.fn.seat l.seat;
  awaits : Awaits (front l.desk l.seat) l.engine (events.Collect l.ticket);
  goes_on :
      (seed : List ℕ) (config : Config) (o : Outside)
      → GoesOn at_desk seed config l.fn.engine (front l.desk l.fn.seat) (tracing o (trace_at (g.C.Clock.readings l.fn.clock) l.fn.seat)) l.engine (front l.desk l.seat) (tracing o (trace_at (g.C.Clock.readings l.clock) l.seat));
}
