use Rattle.std.proofs.Common.{◌≡◌, ◌++◌, take}
use Rattle.sd_roles.proofs.roles.push_own.Given as goal

-- the values so far stand at the end
abbrev pub invariant-loop-value : goal.invariant-loop-value
invariant-loop-value l = l.values ≡ l.fn.values ++ take l.value-index l.attribute.values
