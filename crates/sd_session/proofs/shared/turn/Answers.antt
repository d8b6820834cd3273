use Rattle.sd_desk.specs.Desks.{front}
use Rattle.sd_session.specs.Running.{outside_at}
use Rattle.sd_session.specs.Desks.{at_desk, trace_at}
use Rattle.sd_session.proofs.Turning.{turn_again, turn_ended, step_collects, turn_step, turn_collect, turned_on, outer_by}
use Rattle.sd_session.proofs.shared.turn.Goals as goal

pub returns-in-Again-clause-turned : goal.returns-in-Again-clause-turned
returns-in-Again-clause-turned g c =
    turn_again at_desk c.args.salts.now c.args.config.now c.args.engine.now c.turn.new.self (front c.args.desk.now c.args.seat.now)
    (outside_at (g.S.Source.left c.args.source.now) (g.W.Sink.held c.args.sink.now) (trace_at (g.C.Clock.readings c.args.clock.now) c.args.seat.now) (g.S.Source.faults c.args.source.now) (g.W.Sink.faults c.args.sink.now) (record { operations = g.D.Dialer.operations c.args.dialer.now; received = g.D.Dialer.received c.args.dialer.now; faults = g.D.Dialer.faults c.args.dialer.now; behind = g.D.Dialer.behind c.args.dialer.now }))
    (outside_at (g.S.Source.left c.turn.new.source) (g.W.Sink.held c.turn.new.sink) (trace_at (g.C.Clock.readings c.args.clock.now) c.args.seat.now) (g.S.Source.faults c.turn.new.source) (g.W.Sink.faults c.turn.new.sink) (record { operations = g.D.Dialer.operations c.turn.new.dialer; received = g.D.Dialer.received c.turn.new.dialer; faults = g.D.Dialer.faults c.turn.new.dialer; behind = g.D.Dialer.behind c.turn.new.dialer }))
    (record {
      hears = c.in-Again.ensures.hears;
      serves = c.in-Again.ensures.serves;
      kind = c.in-Again.ensures.kind;
      outer = outer_by g.S.Source.left g.S.Source.faults g.W.Sink.held g.W.Sink.faults g.D.Dialer.operations g.D.Dialer.received g.D.Dialer.faults g.D.Dialer.behind c.args.engine.now
          c.args.source.now c.turn.new.source c.args.sink.now c.turn.new.sink c.args.dialer.now c.turn.new.dialer (trace_at (g.C.Clock.readings c.args.clock.now) c.args.seat.now)
          c.in-Again.ensures.mute c.in-Again.ensures.deaf c.in-Again.ensures.reads_later c.in-Again.ensures.writes_later;
    })

pub returns-in-Ended-clause-turned : goal.returns-in-Ended-clause-turned
returns-in-Ended-clause-turned g c =
    turn_ended at_desk c.args.salts.now c.args.config.now c.in-Ended.end c.args.engine.now c.turn.new.self (front c.args.desk.now c.args.seat.now)
    (outside_at (g.S.Source.left c.args.source.now) (g.W.Sink.held c.args.sink.now) (trace_at (g.C.Clock.readings c.args.clock.now) c.args.seat.now) (g.S.Source.faults c.args.source.now) (g.W.Sink.faults c.args.sink.now) (record { operations = g.D.Dialer.operations c.args.dialer.now; received = g.D.Dialer.received c.args.dialer.now; faults = g.D.Dialer.faults c.args.dialer.now; behind = g.D.Dialer.behind c.args.dialer.now }))
    (outside_at (g.S.Source.left c.turn.new.source) (g.W.Sink.held c.turn.new.sink) (trace_at (g.C.Clock.readings c.args.clock.now) c.args.seat.now) (g.S.Source.faults c.turn.new.source) (g.W.Sink.faults c.turn.new.sink) (record { operations = g.D.Dialer.operations c.turn.new.dialer; received = g.D.Dialer.received c.turn.new.dialer; faults = g.D.Dialer.faults c.turn.new.dialer; behind = g.D.Dialer.behind c.turn.new.dialer }))
    (record {
      hears = c.in-Ended.ensures.hears;
      serves = c.in-Ended.ensures.serves;
      kind = c.in-Ended.ensures.kind;
      outer = outer_by g.S.Source.left g.S.Source.faults g.W.Sink.held g.W.Sink.faults g.D.Dialer.operations g.D.Dialer.received g.D.Dialer.faults g.D.Dialer.behind c.args.engine.now
          c.args.source.now c.turn.new.source c.args.sink.now c.turn.new.sink c.args.dialer.now c.turn.new.dialer (trace_at (g.C.Clock.readings c.args.clock.now) c.args.seat.now)
          c.in-Ended.ensures.mute c.in-Ended.ensures.deaf c.in-Ended.ensures.reads_later c.in-Ended.ensures.writes_later;
    })

pub carry_out-requires-clause-awaits : goal.carry_out-requires-clause-awaits
carry_out-requires-clause-awaits g c =
    (turn_step at_desk c.args.salts.now c.args.config.now c.in-Step.event c.args.engine.now c.turn.new.self (front c.args.desk.now c.args.seat.now)
    (outside_at (g.S.Source.left c.args.source.now) (g.W.Sink.held c.args.sink.now) (trace_at (g.C.Clock.readings c.args.clock.now) c.args.seat.now) (g.S.Source.faults c.args.source.now) (g.W.Sink.faults c.args.sink.now) (record { operations = g.D.Dialer.operations c.args.dialer.now; received = g.D.Dialer.received c.args.dialer.now; faults = g.D.Dialer.faults c.args.dialer.now; behind = g.D.Dialer.behind c.args.dialer.now }))
    (outside_at (g.S.Source.left c.turn.new.source) (g.W.Sink.held c.turn.new.sink) (trace_at (g.C.Clock.readings c.args.clock.now) c.args.seat.now) (g.S.Source.faults c.turn.new.source) (g.W.Sink.faults c.turn.new.sink) (record { operations = g.D.Dialer.operations c.turn.new.dialer; received = g.D.Dialer.received c.turn.new.dialer; faults = g.D.Dialer.faults c.turn.new.dialer; behind = g.D.Dialer.behind c.turn.new.dialer }))
    c.requires.spoken
    (record {
      hears = c.in-Step.ensures.hears;
      serves = c.in-Step.ensures.serves;
      kind = c.in-Step.ensures.kind;
      outer = outer_by g.S.Source.left g.S.Source.faults g.W.Sink.held g.W.Sink.faults g.D.Dialer.operations g.D.Dialer.received g.D.Dialer.faults g.D.Dialer.behind c.args.engine.now
          c.args.source.now c.turn.new.source c.args.sink.now c.turn.new.sink c.args.dialer.now c.turn.new.dialer (trace_at (g.C.Clock.readings c.args.clock.now) c.args.seat.now)
          c.in-Step.ensures.mute c.in-Step.ensures.deaf c.in-Step.ensures.reads_later c.in-Step.ensures.writes_later;
    })).awaits

pub carry_out-requires-clause-collects : goal.carry_out-requires-clause-collects
carry_out-requires-clause-collects g c =
    step_collects c.args.salts.now c.args.config.now c.in-Step.event c.args.engine.now c.turn.new.self (front c.args.desk.now c.args.seat.now)
    (outside_at (g.S.Source.left c.args.source.now) (g.W.Sink.held c.args.sink.now) (trace_at (g.C.Clock.readings c.args.clock.now) c.args.seat.now) (g.S.Source.faults c.args.source.now) (g.W.Sink.faults c.args.sink.now) (record { operations = g.D.Dialer.operations c.args.dialer.now; received = g.D.Dialer.received c.args.dialer.now; faults = g.D.Dialer.faults c.args.dialer.now; behind = g.D.Dialer.behind c.args.dialer.now }))
    (outside_at (g.S.Source.left c.turn.new.source) (g.W.Sink.held c.turn.new.sink) (trace_at (g.C.Clock.readings c.args.clock.now) c.args.seat.now) (g.S.Source.faults c.turn.new.source) (g.W.Sink.faults c.turn.new.sink) (record { operations = g.D.Dialer.operations c.turn.new.dialer; received = g.D.Dialer.received c.turn.new.dialer; faults = g.D.Dialer.faults c.turn.new.dialer; behind = g.D.Dialer.behind c.turn.new.dialer }))
    c.requires.spoken
    (record {
      hears = c.in-Step.ensures.hears;
      serves = c.in-Step.ensures.serves;
      kind = c.in-Step.ensures.kind;
      outer = outer_by g.S.Source.left g.S.Source.faults g.W.Sink.held g.W.Sink.faults g.D.Dialer.operations g.D.Dialer.received g.D.Dialer.faults g.D.Dialer.behind c.args.engine.now
          c.args.source.now c.turn.new.source c.args.sink.now c.turn.new.sink c.args.dialer.now c.turn.new.dialer (trace_at (g.C.Clock.readings c.args.clock.now) c.args.seat.now)
          c.in-Step.ensures.mute c.in-Step.ensures.deaf c.in-Step.ensures.reads_later c.in-Step.ensures.writes_later;
    })

pub returns-in-Step-clause-turned : goal.returns-in-Step-clause-turned
returns-in-Step-clause-turned g c =
    let p = (outside_at (g.S.Source.left c.turn.new.source) (g.W.Sink.held c.turn.new.sink) (trace_at (g.C.Clock.readings c.args.clock.now) c.args.seat.now) (g.S.Source.faults c.turn.new.source) (g.W.Sink.faults c.turn.new.sink) (record { operations = g.D.Dialer.operations c.turn.new.dialer; received = g.D.Dialer.received c.turn.new.dialer; faults = g.D.Dialer.faults c.turn.new.dialer; behind = g.D.Dialer.behind c.turn.new.dialer })) in
    let named = turn_step at_desk c.args.salts.now c.args.config.now c.in-Step.event c.args.engine.now c.turn.new.self (front c.args.desk.now c.args.seat.now)
    (outside_at (g.S.Source.left c.args.source.now) (g.W.Sink.held c.args.sink.now) (trace_at (g.C.Clock.readings c.args.clock.now) c.args.seat.now) (g.S.Source.faults c.args.source.now) (g.W.Sink.faults c.args.sink.now) (record { operations = g.D.Dialer.operations c.args.dialer.now; received = g.D.Dialer.received c.args.dialer.now; faults = g.D.Dialer.faults c.args.dialer.now; behind = g.D.Dialer.behind c.args.dialer.now }))
    p
    c.requires.spoken
    (record {
      hears = c.in-Step.ensures.hears;
      serves = c.in-Step.ensures.serves;
      kind = c.in-Step.ensures.kind;
      outer = outer_by g.S.Source.left g.S.Source.faults g.W.Sink.held g.W.Sink.faults g.D.Dialer.operations g.D.Dialer.received g.D.Dialer.faults g.D.Dialer.behind c.args.engine.now
          c.args.source.now c.turn.new.source c.args.sink.now c.turn.new.sink c.args.dialer.now c.turn.new.dialer (trace_at (g.C.Clock.readings c.args.clock.now) c.args.seat.now)
          c.in-Step.ensures.mute c.in-Step.ensures.deaf c.in-Step.ensures.reads_later c.in-Step.ensures.writes_later;
    }) in
    turned_on at_desk c.args.salts.now c.args.config.now c.carry_out.result _ _ _ _ _ _ _ _ _ named.goes_on (c.carry_out.ensures.turned c.args.salts.now c.args.config.now p)

pub collect-requires-clause-awaits : goal.collect-requires-clause-awaits
collect-requires-clause-awaits g c =
    (turn_collect at_desk c.args.salts.now c.args.config.now c.in-Collect.ticket c.args.engine.now c.turn.new.self (front c.args.desk.now c.args.seat.now)
    (outside_at (g.S.Source.left c.args.source.now) (g.W.Sink.held c.args.sink.now) (trace_at (g.C.Clock.readings c.args.clock.now) c.args.seat.now) (g.S.Source.faults c.args.source.now) (g.W.Sink.faults c.args.sink.now) (record { operations = g.D.Dialer.operations c.args.dialer.now; received = g.D.Dialer.received c.args.dialer.now; faults = g.D.Dialer.faults c.args.dialer.now; behind = g.D.Dialer.behind c.args.dialer.now }))
    (outside_at (g.S.Source.left c.turn.new.source) (g.W.Sink.held c.turn.new.sink) (trace_at (g.C.Clock.readings c.args.clock.now) c.args.seat.now) (g.S.Source.faults c.turn.new.source) (g.W.Sink.faults c.turn.new.sink) (record { operations = g.D.Dialer.operations c.turn.new.dialer; received = g.D.Dialer.received c.turn.new.dialer; faults = g.D.Dialer.faults c.turn.new.dialer; behind = g.D.Dialer.behind c.turn.new.dialer }))
    c.requires.spoken
    (record {
      hears = c.in-Collect.ensures.hears;
      serves = c.in-Collect.ensures.serves;
      kind = c.in-Collect.ensures.kind;
      outer = outer_by g.S.Source.left g.S.Source.faults g.W.Sink.held g.W.Sink.faults g.D.Dialer.operations g.D.Dialer.received g.D.Dialer.faults g.D.Dialer.behind c.args.engine.now
          c.args.source.now c.turn.new.source c.args.sink.now c.turn.new.sink c.args.dialer.now c.turn.new.dialer (trace_at (g.C.Clock.readings c.args.clock.now) c.args.seat.now)
          c.in-Collect.ensures.mute c.in-Collect.ensures.deaf c.in-Collect.ensures.reads_later c.in-Collect.ensures.writes_later;
    })).awaits

pub returns-in-Collect-clause-turned : goal.returns-in-Collect-clause-turned
returns-in-Collect-clause-turned g c =
    let p = (outside_at (g.S.Source.left c.turn.new.source) (g.W.Sink.held c.turn.new.sink) (trace_at (g.C.Clock.readings c.args.clock.now) c.args.seat.now) (g.S.Source.faults c.turn.new.source) (g.W.Sink.faults c.turn.new.sink) (record { operations = g.D.Dialer.operations c.turn.new.dialer; received = g.D.Dialer.received c.turn.new.dialer; faults = g.D.Dialer.faults c.turn.new.dialer; behind = g.D.Dialer.behind c.turn.new.dialer })) in
    let named = turn_collect at_desk c.args.salts.now c.args.config.now c.in-Collect.ticket c.args.engine.now c.turn.new.self (front c.args.desk.now c.args.seat.now)
    (outside_at (g.S.Source.left c.args.source.now) (g.W.Sink.held c.args.sink.now) (trace_at (g.C.Clock.readings c.args.clock.now) c.args.seat.now) (g.S.Source.faults c.args.source.now) (g.W.Sink.faults c.args.sink.now) (record { operations = g.D.Dialer.operations c.args.dialer.now; received = g.D.Dialer.received c.args.dialer.now; faults = g.D.Dialer.faults c.args.dialer.now; behind = g.D.Dialer.behind c.args.dialer.now }))
    p
    c.requires.spoken
    (record {
      hears = c.in-Collect.ensures.hears;
      serves = c.in-Collect.ensures.serves;
      kind = c.in-Collect.ensures.kind;
      outer = outer_by g.S.Source.left g.S.Source.faults g.W.Sink.held g.W.Sink.faults g.D.Dialer.operations g.D.Dialer.received g.D.Dialer.faults g.D.Dialer.behind c.args.engine.now
          c.args.source.now c.turn.new.source c.args.sink.now c.turn.new.sink c.args.dialer.now c.turn.new.dialer (trace_at (g.C.Clock.readings c.args.clock.now) c.args.seat.now)
          c.in-Collect.ensures.mute c.in-Collect.ensures.deaf c.in-Collect.ensures.reads_later c.in-Collect.ensures.writes_later;
    }) in
    turned_on at_desk c.args.salts.now c.args.config.now c.collect.result _ _ _ _ _ _ _ _ _ named.goes_on (c.collect.ensures.turned c.args.salts.now c.args.config.now p)
