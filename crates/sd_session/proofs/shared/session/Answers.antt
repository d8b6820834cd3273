use Rattle.sd_desk.specs.Desks.{front}
use Rattle.sd_session.specs.Desks.{at_desk, trace_at}
use Rattle.sd_session.proofs.GivingUp.{gives_up_own}
use Rattle.sd_session.proofs.HeadlineLaws.{headline_of}
use Rattle.sd_session.proofs.OverLaws.{closed_at_end}
use Rattle.sd_session.proofs.Sharing.{session_as, session_reaches}
use Rattle.sd_session.proofs.shared.session.Goals as goal

pub returns-clause-session : goal.returns-clause-session
returns-clause-session g c =
    session_as _ _ _ _ _ _ _ _ _ c.salts-salts.ensures c.config-config.ensures.config
    (record {
      between = front c.args.desk.now c.run-end.new.seat;
      trace = trace_at (g.C.Clock.readings c.run-end.new.clock) c.run-end.new.seat;
      ran = c.run-end.ensures.ran.ran;
      withdraws = gives_up_own at_desk c.run-end.result _ _ c.run-end.new.engine _ _ _ c.run-end.ensures.ran.unfinished c.give_up.ensures.withdraws;
      closed = closed_at_end at_desk c.run-end.result _ _ c.run-end.new.engine _ _ _ c.run-end.ensures.ran.unfinished c.give_up.ensures.gives_up c.give_up.ensures.withdraws;
    })

pub returns-clause-headline : goal.returns-clause-headline
returns-clause-headline g c = headline_of _ _ _ _ c.run-end.result _ _ (returns-clause-session g c)

pub returns-clause-reaches : goal.returns-clause-reaches
returns-clause-reaches g c = session_reaches _ _ _ _ c.run-end.result _ _ (returns-clause-session g c)
