use Rattle.std.proofs.Common.{◌≡◌, ◌++◌, take}
use Rattle.sd_nested.specs.Named.{member_values}
use Rattle.sd_nested.proofs.named.push_members.Given as goal

abbrev pub invariant-loop-attribute : goal.invariant-loop-attribute
invariant-loop-attribute l = l.values ≡ l.fn.values ++ member_values (take l.attribute-index l.attributes)
