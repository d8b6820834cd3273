use Rattle.sd_match.proofs.Order.{passed_end}
use Rattle.sd_match.specs.Matching.{bytes_up_to}
use Rattle.sd_match.proofs.values.bytes_up_to.Goals as goal

pub returns-then-place-b : goal.returns-then-place-b
returns-then-place-b c = passed_end c.args.a.now c.args.b.now c.loop-place.place (bytes_up_to c.args.a.now c.args.b.now) c.loop-place-test.true c.if-place-b.true c.loop-place.invariant.0
