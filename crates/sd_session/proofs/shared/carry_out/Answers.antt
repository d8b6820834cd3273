use Rattle.sd_desk.specs.Desks.{front}
use Rattle.sd_session.specs.Desks.{at_desk, trace_at}
use Rattle.sd_session.specs.Running.{tracing}
use Rattle.sd_session.proofs.Carrying.{is_awaited, fits, told_turned, carries_refused}
use Rattle.sd_session.proofs.SpokenLaws.{known_steppable}
use Rattle.sd_session.proofs.Sharing.{far_at_desk, forgot_before}
use Rattle.sd_session.proofs.shared.carry_out.Goals as goal

pub step-requires-clause-may : goal.step-requires-clause-may
step-requires-clause-may g c =
    let a = c.requires.awaits in known_steppable a.client.seed (front c.args.desk.now c.args.seat.now) a.client.course c.args.event a.needed a.kind a.known

pub tell-requires-clause-awaited : goal.tell-requires-clause-awaited
tell-requires-clause-awaited g c = is_awaited (front c.args.desk.now c.args.seat.now) c.args.engine.now c.args.event c.requires.awaits

pub tell-requires-clause-kind : goal.tell-requires-clause-kind
tell-requires-clause-kind g c =
    fits at_desk (front c.args.desk.now c.args.seat.now) (front c.args.desk.now c.step.new.seat) c.args.engine.now c.args.event c.in-Ok.given (trace_at (g.C.Clock.readings c.args.clock.now) c.args.seat.now) (trace_at (g.C.Clock.readings c.step.new.clock) c.step.new.seat)
    far_at_desk c.requires.awaits c.in-Ok.ensures.made

pub returns-in-Ok-clause-turned : goal.returns-in-Ok-clause-turned
returns-in-Ok-clause-turned g c = λ seed config o.
    told_turned at_desk seed config o (front c.args.desk.now c.args.seat.now) (front c.args.desk.now c.step.new.seat) c.args.engine.now c.tell.new.engine c.args.event c.in-Ok.given (trace_at (g.C.Clock.readings c.args.clock.now) c.args.seat.now)
    (trace_at (g.C.Clock.readings c.step.new.clock) c.step.new.seat) c.tell.result far_at_desk c.requires.awaits c.in-Ok.ensures.made c.tell.ensures

pub returns-in-Err-clause-turned : goal.returns-in-Err-clause-turned
returns-in-Err-clause-turned g c = λ seed config o.
    let t = trace_at (g.C.Clock.readings c.args.clock.now) c.args.seat.now in
    carries_refused at_desk seed config o c.in-Err.end (front c.args.desk.now c.args.seat.now) (front c.args.desk.now c.step.new.seat) c.args.engine.now c.args.event t
    (trace_at (g.C.Clock.readings c.step.new.clock) c.step.new.seat) far_at_desk c.requires.awaits c.in-Err.ensures.refused
    (forgot_before seed config c.in-Err.end c.args.engine.now (front c.args.desk.now c.args.seat.now) (front c.args.desk.now c.step.new.seat) (tracing o t) c.args.event c.in-Err.ensures.refused.now c.in-Err.ensures.full)
