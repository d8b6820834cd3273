use Rattle.sd_session.specs.Sessions.{alone, trace_of}
use Rattle.sd_session.proofs.GivingUp.{gives_up_own}
use Rattle.sd_session.proofs.OverLaws.{closed_at_end}
use Rattle.sd_session.proofs.Opening.{grown_itself}
use Rattle.sd_session.proofs.solo.solo_session.Goals as goal

pub returns-clause-session : goal.returns-clause-session
returns-clause-session g c = record {
  between = c.run-end.new.core;
  trace = trace_of (g.C.Clock.readings c.run-end.new.clock) c.run-end.new.core;
  ran = c.run-end.ensures.ran.ran;
  withdraws = gives_up_own alone c.run-end.result _ _ c.run-end.new.engine _ _ _ c.run-end.ensures.ran.unfinished c.give_up.ensures.withdraws;
  closed = closed_at_end alone c.run-end.result _ _ c.run-end.new.engine _ _ _ c.run-end.ensures.ran.unfinished c.give_up.ensures.gives_up c.give_up.ensures.withdraws;
}

pub returns-clause-journal : goal.returns-clause-journal
returns-clause-journal g c = c.give_up.ensures.grown _ (c.run-end.ensures.grown _ (grown_itself c.args.core.now))
