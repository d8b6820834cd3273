use Rattle.sd_session.proofs.Ending.{ran_idle}
use Rattle.sd_session.proofs.Opening.{stands_begun, known_in_hand}
use Rattle.sd_session.proofs.solo.run.Goals as goal

pub loop-round-init : goal.loop-round-init
loop-round-init g c = record { stands = stands_begun _ _ _ _ _ _ c.requires; grown = λ opened h. h }

pub turn-requires : goal.turn-requires
turn-requires g c = known_in_hand _ _ _ c.loop-round.invariant.stands.hand.in_hand

pub returns-in-Some-clause-ran : goal.returns-in-Some-clause-ran
returns-in-Some-clause-ran g c = c.in-Some.ensures.turned _ _ c.loop-round.invariant.stands

pub returns-in-Some-clause-grown : goal.returns-in-Some-clause-grown
returns-in-Some-clause-grown g c = λ opened h. c.in-Some.ensures.grown opened (c.loop-round.invariant.grown opened h)

pub loop-round-preserved : goal.loop-round-preserved
loop-round-preserved g c = record {
  stands = c.in-None.ensures.turned _ _ c.loop-round.invariant.stands;
  grown = λ opened h. c.in-None.ensures.grown opened (c.loop-round.invariant.grown opened h);
}

pub returns-clause-ran : goal.returns-clause-ran
returns-clause-ran g c = ran_idle _ _ _ _ _ _ _ _ c.loop-round.invariant.stands
