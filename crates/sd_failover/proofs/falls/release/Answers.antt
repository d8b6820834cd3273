use Rattle.std.proofs.Common.{arith}
use Rattle.sd_failover.specs.Falls as told
use Rattle.sd_failover.proofs.Written.{map_written}
use Rattle.sd_failover.proofs.falls.release.Goals as goal

pub loop-fall-preserved : goal.loop-fall-preserved
loop-fall-preserved c =
    map_written (told.released c.args.request) c.args.falls.now c.loop-fall.falls c.loop-fall.fall-index _ c.released.result (omega arith) (omega arith) c.loop-fall.invariant c.released.ensures
