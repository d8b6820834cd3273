use Rattle.sd_core.specs.Growth.{KeepsGrown}
use Rattle.sd_session.specs.Sessions.{alone, trace_of}
use Rattle.sd_session.proofs.GivingUp.{Abandons}
use Rattle.std.specs.Prelude.{drop}
use Rattle.sd_rules.specs.Reaching.{Reaches}
use Rattle.sd_session.proofs.OverLaws.{IsAbandoned}
use Rattle.sd_session.proofs.withdrawing.abandon_all.Given as goal

-- those so far were given up
abbrev pub invariant-loop-number : goal.invariant-loop-number
invariant-loop-number g l = record {
  withdraws : Abandons alone l.numbers (drop l.number-index l.numbers) l.fn.core l.core (trace_of (g.C.Clock.readings l.fn.clock) l.fn.core) (trace_of (g.C.Clock.readings l.clock) l.core);
  grown : KeepsGrown l.fn.core l.core;
  reaches : Reaches l.fn.core l.core;
  abandoned : IsAbandoned l.fn.core l.core l.numbers (drop l.number-index l.numbers);
}
