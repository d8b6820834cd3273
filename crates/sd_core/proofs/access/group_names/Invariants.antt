use Rattle.std.proofs.Common.{◌≡◌, map, take}
use Rattle.sd_core.proofs.access.group_names.Given as goal

-- the names of the groups so far
abbrev pub invariant-loop-group : goal.invariant-loop-group
invariant-loop-group l = l.names ≡ map (λ g. g.name) (take l.group-index l.groups)
