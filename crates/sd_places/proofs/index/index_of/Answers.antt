use Rattle.sd_places.proofs.Indexing.{index_step}
use Rattle.sd_places.proofs.index.index_of.Goals as goal

pub loop-place-preserved : goal.loop-place-preserved
loop-place-preserved c = index_step c.args.slots.now c.loop-place.place c.index-slots-place.result c.loop-place.index c.put_next.new.self c.loop-place-test.true c.index-slots-place.is c.in_ok-put_next.ensures c.loop-place.invariant
