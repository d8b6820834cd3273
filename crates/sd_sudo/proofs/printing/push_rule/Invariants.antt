use Rattle.std.proofs.Common.{◌≡◌, ◌++◌, drop}
use Rattle.std.specs.List.{flat_map}
use Rattle.sd_sudo.specs.Printing.{value_lines, rule_lines}
use Rattle.sd_sudo.proofs.printing.push_rule.Given as goal

abbrev pub invariant-loop-attribute : goal.invariant-loop-attribute
invariant-loop-attribute l = l.out.items ++ flat_map value_lines (drop l.attribute-index l.role.handed) ≡ l.fn.out.items ++ rule_lines l.role
