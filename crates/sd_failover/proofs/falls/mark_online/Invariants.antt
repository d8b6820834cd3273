use Rattle.std.proofs.Common.{◌≡◌, ◌++◌, take, drop, map}
use Rattle.sd_failover.specs.Falls as told
use Rattle.sd_failover.proofs.falls.mark_online.Given as goal

-- the falls so far are changed, and the others stand as they were
abbrev pub invariant-loop-fall : goal.invariant-loop-fall
invariant-loop-fall l = l.falls ≡ map (told.with_online) (take l.fall-index l.initial.falls) ++ drop l.fall-index l.initial.falls
