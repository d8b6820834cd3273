use Rattle.std.proofs.Common.{◌≡◌, take, map}
use Rattle.sd_names.specs.Naming.{lower_pair}
use Rattle.sd_names.proofs.naming.level_of.Given as goal

abbrev pub invariant-loop-pair : goal.invariant-loop-pair
invariant-loop-pair l = l.parts.items ≡ map lower_pair (take l.pair-index l.rdn)
