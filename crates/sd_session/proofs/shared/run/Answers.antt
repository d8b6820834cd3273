use Rattle.std.proofs.Common.{refl}
use Rattle.sd_session.specs.Desks.{at_desk}
use Rattle.sd_session.proofs.Carrying.{spoken_reached}
use Rattle.sd_session.proofs.Ending.{ran_idle}
use Rattle.sd_session.proofs.Opening.{stands_begun, known_in_hand}
use Rattle.sd_session.proofs.Sharing.{same_through, same_told}
use Rattle.sd_session.proofs.Standing.{stands_finds}
use Rattle.sd_session.proofs.shared.run.Goals as goal

pub loop-round-init : goal.loop-round-init
loop-round-init g c = record { own = c.requires.own; free = c.requires.free; same = (refl, refl, refl); stands = stands_begun _ _ _ _ _ _ c.requires.begun }

pub turn-requires-clause-spoken : goal.turn-requires-clause-spoken
turn-requires-clause-spoken g c = λ x is. spoken_reached _ _ x.course c.forget_where_grown.ensures.reaches (known_in_hand _ _ _ c.loop-round.invariant.stands.hand.in_hand x is)

pub returns-in-Some-clause-ran : goal.returns-in-Some-clause-ran
returns-in-Some-clause-ran g c =
    c.in-Some.ensures.turned _ _
    (stands_finds at_desk _ _ _ _ _ _ _ _ _ c.loop-round.invariant.stands c.forget_where_grown.ensures.reaches c.forget_where_grown.ensures.reaches
    (λ x is. spoken_reached _ _ x.course c.forget_where_grown.ensures.reaches (known_in_hand _ _ _ c.loop-round.invariant.stands.hand.in_hand x is)) (same_told _ _ _ _ _ _ _ _ c.forget_where_grown.ensures.mine))

pub loop-round-preserved : goal.loop-round-preserved
loop-round-preserved g c = record {
  own = c.turn.ensures.own;
  free = c.turn.ensures.free;
  same = same_through c.args.seat.now c.forget_where_grown.new.seat c.turn.new.seat (same_through c.args.seat.now c.loop-round.seat c.forget_where_grown.new.seat c.loop-round.invariant.same c.forget_where_grown.ensures.same) c.turn.ensures.same;
  stands =
      c.in-None.ensures.turned _ _
      (stands_finds at_desk _ _ _ _ _ _ _ _ _ c.loop-round.invariant.stands c.forget_where_grown.ensures.reaches c.forget_where_grown.ensures.reaches
      (λ x is. spoken_reached _ _ x.course c.forget_where_grown.ensures.reaches (known_in_hand _ _ _ c.loop-round.invariant.stands.hand.in_hand x is)) (same_told _ _ _ _ _ _ _ _ c.forget_where_grown.ensures.mine));
}

pub returns-clause-ran : goal.returns-clause-ran
returns-clause-ran g c = ran_idle _ _ _ _ _ _ _ _ c.loop-round.invariant.stands
