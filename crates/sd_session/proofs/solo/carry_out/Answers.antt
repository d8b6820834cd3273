use Rattle.sd_rules.proofs.ReachingLaws.{reaches_self}
use Rattle.sd_session.specs.Sessions.{alone, trace_of}
use Rattle.sd_session.proofs.Carrying.{may_step, is_awaited, fits, told_turned, carries_refused}
use Rattle.sd_session.proofs.Refusing.{stays_near}
use Rattle.sd_session.proofs.solo.carry_out.Goals as goal

pub step-requires : goal.step-requires
step-requires g c = may_step c.args.core.now c.args.core.now c.args.engine.now c.args.event c.requires (reaches_self c.args.core.now)

pub tell-requires-clause-awaited : goal.tell-requires-clause-awaited
tell-requires-clause-awaited g c = is_awaited c.args.core.now c.args.engine.now c.args.event c.requires

pub tell-requires-clause-kind : goal.tell-requires-clause-kind
tell-requires-clause-kind g c =
    fits alone c.args.core.now c.step.new.core c.args.engine.now c.args.event c.in-Ok.given (trace_of (g.C.Clock.readings c.args.clock.now) c.args.core.now) (trace_of (g.C.Clock.readings c.step.new.clock) c.step.new.core)
    stays_near c.requires c.in-Ok.ensures.made

pub returns-in-Ok-clause-turned : goal.returns-in-Ok-clause-turned
returns-in-Ok-clause-turned g c = λ seed config o.
    told_turned alone seed config o c.args.core.now c.step.new.core c.args.engine.now c.tell.new.engine c.args.event c.in-Ok.given (trace_of (g.C.Clock.readings c.args.clock.now) c.args.core.now)
    (trace_of (g.C.Clock.readings c.step.new.clock) c.step.new.core) c.tell.result stays_near c.requires c.in-Ok.ensures.made c.tell.ensures

pub returns-in-Err-clause-turned : goal.returns-in-Err-clause-turned
returns-in-Err-clause-turned g c = λ seed config o.
    carries_refused alone seed config o c.in-Err.end c.args.core.now c.step.new.core c.args.engine.now c.args.event (trace_of (g.C.Clock.readings c.args.clock.now) c.args.core.now)
    (trace_of (g.C.Clock.readings c.step.new.clock) c.step.new.core) stays_near c.requires c.in-Err.ensures.refused (λ d before s count is. tt)
