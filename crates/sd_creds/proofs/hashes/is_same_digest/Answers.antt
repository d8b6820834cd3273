use Rattle.std.proofs.Common.{arith}
use Rattle.sd_creds.proofs.Folded.{one_more, all_compared}
use Rattle.sd_creds.proofs.hashes.is_same_digest.Goals as goal

pub loop-place-preserved : goal.loop-place-preserved
loop-place-preserved c =
    one_more c.loop-place.difference c.args.a.now c.args.b.now c.loop-place.place c.loop-place.invariant

pub returns : goal.returns
returns c =
    all_compared c.loop-place.difference c.args.a.now c.args.b.now c.loop-place.place (omega arith) (omega arith) c.loop-place.invariant
