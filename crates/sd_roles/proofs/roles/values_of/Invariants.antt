use Rattle.std.proofs.Common.{◌≡◌, take}
use Rattle.sd_roles.specs.Roles as roles
use Rattle.sd_roles.proofs.roles.values_of.Given as goal

-- the values of the attributes so far
abbrev pub invariant-loop-attribute : goal.invariant-loop-attribute
invariant-loop-attribute l = l.values ≡ roles.values_of l.name (take l.attribute-index l.entry.attributes)
