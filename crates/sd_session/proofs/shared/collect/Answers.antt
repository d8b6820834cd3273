use Rattle.std.proofs.Common.{refl}
use Rattle.sd_rules.specs.declared.events.Event.TheVariants as events
use Rattle.sd_desk.specs.Desks.{front}
use Rattle.sd_session.specs.Desks.{at_desk, trace_at}
use Rattle.sd_session.proofs.Carrying.{fits, told_turned, awaits_on, carries_waiting}
use Rattle.sd_session.proofs.CollectLaws.{ticket_below}
use Rattle.sd_session.proofs.Ending.{ran_idle}
use Rattle.sd_session.proofs.Sharing.{far_at_desk, same_through}
use Rattle.sd_session.proofs.Turning.{turned_on}
use Rattle.sd_session.proofs.shared.collect.Goals as goal

pub tell-requires-clause-kind : goal.tell-requires-clause-kind
tell-requires-clause-kind g c =
    fits at_desk (front c.args.desk.now c.loop.seat) (front c.args.desk.now c.try_collect.new.seat) c.loop.engine (events.Collect c.args.ticket) c.in-Ok.given (trace_at (g.C.Clock.readings c.loop.clock) c.loop.seat)
    (trace_at (g.C.Clock.readings c.try_collect.new.clock) c.try_collect.new.seat) far_at_desk c.loop.invariant.awaits c.in-Ok.ensures.made

pub returns-in-Ok-clause-turned : goal.returns-in-Ok-clause-turned
returns-in-Ok-clause-turned g c = λ seed config o.
    turned_on at_desk seed config c.tell.result _ _ _ _ _ _ _ _ _ (c.loop.invariant.goes_on seed config o)
    (told_turned at_desk seed config o (front c.args.desk.now c.loop.seat) (front c.args.desk.now c.try_collect.new.seat) c.loop.engine c.tell.new.engine (events.Collect c.args.ticket) c.in-Ok.given (trace_at (g.C.Clock.readings c.loop.clock) c.loop.seat)
    (trace_at (g.C.Clock.readings c.try_collect.new.clock) c.try_collect.new.seat) c.tell.result far_at_desk c.loop.invariant.awaits c.in-Ok.ensures.made c.tell.ensures)

pub loop-preserved : goal.loop-preserved
loop-preserved g c = record {
  own = c.try_collect.ensures.own;
  free = c.try_collect.ensures.free;
  same = same_through c.args.seat.now c.loop.seat c.try_collect.new.seat c.loop.invariant.same c.try_collect.ensures.same;
  awaits = awaits_on _ _ _ _ c.in-Err-Waits.ensures.waited.others c.loop.invariant.awaits;
  goes_on = λ seed config o d before s.
      carries_waiting at_desk seed config o (front c.args.desk.now c.loop.seat) (front c.args.desk.now c.try_collect.new.seat) c.loop.engine (events.Collect c.args.ticket) (trace_at (g.C.Clock.readings c.loop.clock) c.loop.seat)
      (trace_at (g.C.Clock.readings c.try_collect.new.clock) c.try_collect.new.seat) far_at_desk c.loop.invariant.awaits c.in-Err-Waits.ensures.waited d before (c.loop.invariant.goes_on seed config o d before s);
}

pub carry_out-requires-clause-awaits : goal.carry_out-requires-clause-awaits
carry_out-requires-clause-awaits g c = awaits_on _ _ _ _ c.in-Err-Full.ensures.waited.others c.loop.invariant.awaits

pub carry_out-requires-clause-collects : goal.carry_out-requires-clause-collects
carry_out-requires-clause-collects g c =
    let a = awaits_on _ _ _ _ c.in-Err-Full.ensures.waited.others c.loop.invariant.awaits in
    let full = c.in-Err-Full.ensures.full c.in-Err-Full.field-0-is in
    record { given = record { orderly = full.0.orderly; below = ticket_below a.client.seed (front c.args.desk.now c.try_collect.new.seat) a.client.course c.args.ticket a.needed a.known }; left = full.1 }

pub returns-in-Err-Full-clause-turned : goal.returns-in-Err-Full-clause-turned
returns-in-Err-Full-clause-turned g c = λ seed config o.
    turned_on at_desk seed config c.carry_out.result _ _ _ _ _ _ _ _ _
    (λ d before s.
    carries_waiting at_desk seed config o (front c.args.desk.now c.loop.seat) (front c.args.desk.now c.try_collect.new.seat) c.loop.engine (events.Collect c.args.ticket) (trace_at (g.C.Clock.readings c.loop.clock) c.loop.seat)
    (trace_at (g.C.Clock.readings c.try_collect.new.clock) c.try_collect.new.seat) far_at_desk c.loop.invariant.awaits c.in-Err-Full.ensures.waited d before (c.loop.invariant.goes_on seed config o d before s))
    (c.carry_out.ensures.turned seed config o)

pub returns-in-Err-Memory-clause-turned : goal.returns-in-Err-Memory-clause-turned
returns-in-Err-Memory-clause-turned g c = λ seed config o d before s.
    ran_idle at_desk seed config d before _ _ _
    (carries_waiting at_desk seed config o (front c.args.desk.now c.loop.seat) (front c.args.desk.now c.try_collect.new.seat) c.loop.engine (events.Collect c.args.ticket) (trace_at (g.C.Clock.readings c.loop.clock) c.loop.seat)
    (trace_at (g.C.Clock.readings c.try_collect.new.clock) c.try_collect.new.seat) far_at_desk c.loop.invariant.awaits c.in-Err-Memory.ensures.waited d before (c.loop.invariant.goes_on seed config o d before s))
