use Rattle.std.proofs.Common.{refl, arith}
use Rattle.sd_session.proofs.GivingUp.{abandons_none, abandons_at, abandons_end}
use Rattle.sd_session.proofs.Sharing.{same_through}
use Rattle.sd_rules.proofs.ReachingLaws.{reaches_self, reaches_through}
use Rattle.sd_session.proofs.OverLaws.{abandoned_none, abandoned_at}
use Rattle.sd_session.proofs.leaving.abandon_all.Goals as goal

pub loop-number-preserved : goal.loop-number-preserved
loop-number-preserved g c = record {
  own = c.try_step.ensures.own;
  free = c.try_step.ensures.free;
  same = same_through c.args.seat.now c.loop-number.seat c.try_step.new.seat c.loop-number.invariant.same c.try_step.ensures.same;
  withdraws = abandons_at _ c.args.numbers.now c.loop-number.number-index _ _ _ _ _ _ c.loop-number-test.true c.loop-number.invariant.withdraws c.try_step.ensures.withdraws;
  reaches = reaches_through _ _ _ c.loop-number.invariant.reaches c.try_step.ensures.reaches;
  abandoned = abandoned_at _ _ _ c.args.numbers.now c.loop-number.number-index c.loop-number-test.true c.loop-number.invariant.reaches c.try_step.ensures.reaches c.try_step.ensures.over c.loop-number.invariant.abandoned;
}

pub loop-number-init : goal.loop-number-init
loop-number-init g c = record {
  own = c.requires.own;
  free = c.requires.free;
  same = (refl, refl, refl);
  withdraws = abandons_none _ _ _ _;
  reaches = reaches_self _;
  abandoned = abandoned_none _ _;
}

pub returns-clause-withdraws : goal.returns-clause-withdraws
returns-clause-withdraws g c = abandons_end _ c.args.numbers.now c.loop-number.number-index _ _ _ _ (omega (arith, c.loop-number-test.false)) c.loop-number.invariant.withdraws
