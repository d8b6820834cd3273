use Rattle.std.proofs.Common.{◌≡◌, ◌++◌, drop}
use Rattle.std.specs.List.{flat_map}
use Rattle.sd_sudo.specs.Printing.{value_line, value_lines}
use Rattle.sd_sudo.proofs.printing.push_values.Given as goal

abbrev pub invariant-loop-value : goal.invariant-loop-value
invariant-loop-value l = l.out.items ++ flat_map (value_line l.attribute.name) (drop l.value-index l.attribute.values) ≡ l.fn.out.items ++ value_lines l.attribute
