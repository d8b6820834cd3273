use Rattle.std.proofs.Common.{◌≡◌, take}
use Rattle.sd_sudo.specs.Askers as askers
use Rattle.sd_sudo.proofs.asker.names_of.Given as goal

-- the names of the groups so far
abbrev pub invariant-loop-group : goal.invariant-loop-group
invariant-loop-group l = l.names ≡ askers.names_of (take l.group-index l.groups)
