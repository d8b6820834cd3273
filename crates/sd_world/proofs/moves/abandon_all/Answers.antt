use Rattle.std.proofs.Common.{◌+◌, drop}
use Rattle.std.proofs.lemmas.List.{drop_more}
use Rattle.sd_world.proofs.Counting.{abandoned_next}
use Rattle.sd_world.proofs.KnownLaws.{keeps_through}
use Rattle.sd_world.proofs.moves.abandon_all.Goals as goal

pub loop-number-preserved : goal.loop-number-preserved
loop-number-preserved c = record {
  told = abandoned_next c.args.numbers.now (drop (c.loop-number.number-index + 1) c.args.numbers.now) _ (drop c.loop-number.number-index c.args.numbers.now)
      c.loop-number.core c.happen.new.core c.args.core.now c.args.now (drop_more c.args.numbers.now c.loop-number.number-index _ c.loop-number-test.true)
      c.in_ok-happen.ensures.done c.loop-number.invariant.told;
  keys = keeps_through c.args.core.now c.loop-number.core c.happen.new.core c.loop-number.invariant.keys c.happen.ensures.keys;
}
