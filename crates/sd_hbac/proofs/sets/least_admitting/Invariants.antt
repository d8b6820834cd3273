use Rattle.std.proofs.Common.{◌≡◌, reverse, take}
use Rattle.std.specs.Option.{option_copied, option_map}
use Rattle.sd_hbac.specs.Seen as seen
use Rattle.sd_hbac.specs.Compiled as compiled
use Rattle.sd_hbac.proofs.sets.least_admitting.Given as goal

-- the least of the rules so far
abbrev pub invariant-loop-set : goal.invariant-loop-set
invariant-loop-set l = option_map compiled.placed (option_copied l.least) ≡ compiled.least_admitting (reverse (take l.set-index l.sets)) (seen.asker l.who)
