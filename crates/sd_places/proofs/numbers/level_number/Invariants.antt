use Rattle.std.proofs.Common.{◌≡◌, take, map}
use Rattle.sd_names.specs.Naming.{lower_pair}
use Rattle.sd_places.specs.Numbers.{level_number}
use Rattle.sd_places.proofs.numbers.level_number.Given as goal

abbrev pub invariant-loop-pair : goal.invariant-loop-pair
invariant-loop-pair l = l.number ≡ level_number (map lower_pair (take l.pair-index l.rdn))
