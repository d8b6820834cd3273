use Rattle.std.proofs.Common.{◌∙◌, Err, refl, sym, ap, subst}
use Rattle.sd_rules.specs.Steps.{Daemon}
use Rattle.sd_past.specs.Closing.{closes_place}
use Rattle.sd_desk.proofs.Made.{not_closing}
use Rattle.sd_engine.specs.declared.ending.SessionEnd.{SessionEnd}
use Rattle.sd_session.specs.Stepping.{RefusedAs}
use Rattle.sd_session.proofs.OverLaws.{over_found}
use Rattle.sd_session.proofs.Refusing.{refused_as, journal_more, journal_same, full_here, stays_near}
use Rattle.sd_session.proofs.stepping.step.Goals as goal

pub returns-in-Ok-clause-made : goal.returns-in-Ok-clause-made
returns-in-Ok-clause-made g c = record {
  found = c.args.core.now;
  others = refl;
  now = c.now-now.result;
  read = c.now-now.ensures;
  made = c.in-Ok.ensures.made;
  gives = c.in-Ok.ensures.given;
  fits = c.in-Ok.ensures.laws.of_kind;
  kept = c.next_number.ensures.kept;
  room = c.in-Ok.ensures.room;
  ready = tt;
  entries = journal_more c.args.core.now _ c.now-now.result c.args.event c.in-Ok.ensures.made;
}

pub returns-in-Err-clause-refused : goal.returns-in-Err-clause-refused
returns-in-Err-clause-refused g c = record {
  others = c.in-Err.ensures.unchanged;
  now = c.now-now.result;
  read = c.now-now.ensures;
  entries = journal_same c.args.core.now _ c.in-Err.ensures.unchanged;
  why =
      subst (λ (end : SessionEnd). RefusedAs c.step.new.self c.args.event end) (sym c.end_of.ensures)
      (refused_as c.step.new.self c.args.event c.in-Err.refused.fault (λ n is. full_here c.args.core.now c.step.new.self c.args.event n c.in-Err.ensures.unchanged (c.in-Err.ensures.full_only n is)));
}

pub returns-in-Err-clause-over : goal.returns-in-Err-clause-over
returns-in-Err-clause-over g c =
    over_found c.args.core.now c.step.new.self c.args.event (stays_near c.args.core.now c.step.new.self c.in-Err.ensures.unchanged)
    (ap (λ (d : Daemon). closes_place d.past c.args.event) c.in-Err.ensures.unchanged ∙ not_closing (closes_place c.args.core.now.past c.args.event) (Err c.in-Err.refused) c.in-Err.ensures.closing)
