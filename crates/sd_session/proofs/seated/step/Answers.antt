use Rattle.std.proofs.Common.{◌≡◌, ℕ, sym, subst}
use Rattle.sd_desk.specs.Desks.{front}
use Rattle.sd_desk.specs.Steps.{FullAfterForget}
use Rattle.sd_engine.specs.declared.ending.SessionEnd.{SessionEnd}
use Rattle.sd_engine.specs.declared.ending.SessionEnd.TheVariants as ends
use Rattle.sd_session.specs.Stepping.{RefusedAs}
use Rattle.sd_session.proofs.Sharing.{ready_on, made_at_desk, refused_by, full_by}
use Rattle.sd_session.proofs.seated.step.Goals as goal

pub returns-in-Ok-clause-made : goal.returns-in-Ok-clause-made
returns-in-Ok-clause-made g c =
    made_at_desk _ _ _ _ c.now-now.result c.args.event _ _ _ c.in-Ok.ensures.made c.now-now.ensures
    (ready_on (front c.args.desk.now c.args.seat.now) c.in-Ok.ensures.made.before c.args.event c.in-Ok.ensures.made.reached c.requires.collects)

pub returns-in-Err-clause-refused : goal.returns-in-Err-clause-refused
returns-in-Err-clause-refused g c = record {
  others = c.step_with_room.ensures.reaches;
  now = c.now-now.result;
  read = c.now-now.ensures;
  entries = c.in-Err.ensures.mine;
  why = subst (λ (end : SessionEnd). RefusedAs (front c.args.desk.now c.step_with_room.new.seat) c.args.event end) (sym c.end_of.ensures) (refused_by (front c.args.desk.now c.args.seat.now) (front c.args.desk.now c.step_with_room.new.seat) c.args.event c.in-Err.refused.fault c.in-Err.ensures.full);
}

pub returns-in-Err-clause-full : goal.returns-in-Err-clause-full
returns-in-Err-clause-full g c =
    subst (λ (end : SessionEnd). (n : ℕ) → end ≡ ends.JournalFull n → FullAfterForget (front c.args.desk.now c.args.seat.now) (front c.args.desk.now c.step_with_room.new.seat) c.args.event n) (sym c.end_of.ensures) (full_by (front c.args.desk.now c.args.seat.now) (front c.args.desk.now c.step_with_room.new.seat) c.args.event c.in-Err.refused.fault c.in-Err.ensures.full)
