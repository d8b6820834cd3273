use Rattle.std.proofs.Common.{◌≡◌, ◌++◌, take}
use Rattle.sd_places.specs.Numbers.{attributes_numbers}
use Rattle.sd_places.proofs.numbers.put_attributes.Given as goal

abbrev pub invariant-loop-attribute : goal.invariant-loop-attribute
invariant-loop-attribute l = l.made.items ≡ l.fn.made.items ++ attributes_numbers (take l.attribute-index l.attributes)
