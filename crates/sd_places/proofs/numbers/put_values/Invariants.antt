use Rattle.std.proofs.Common.{◌≡◌, ◌++◌, take}
use Rattle.sd_places.specs.Numbers.{values_numbers}
use Rattle.sd_places.proofs.numbers.put_values.Given as goal

abbrev pub invariant-loop-value : goal.invariant-loop-value
invariant-loop-value l = l.made.items ≡ l.fn.made.items ++ values_numbers l.name (take l.value-index l.values)
