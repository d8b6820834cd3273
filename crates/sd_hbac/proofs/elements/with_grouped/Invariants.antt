use Rattle.std.proofs.Common.{◌≡◌, ◌++◌, drop}
use Rattle.sd_hbac.specs.Compiled.{grouped}
use Rattle.sd_hbac.proofs.elements.with_grouped.Given as goal

-- the names so far and those that are left
abbrev pub invariant-loop-service : goal.invariant-loop-service
invariant-loop-service l = l.made ++ grouped (drop l.service-index l.services) l.groups ≡ l.names ++ grouped l.services l.groups
