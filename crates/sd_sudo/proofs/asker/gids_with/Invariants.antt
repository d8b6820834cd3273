use Rattle.std.proofs.Common.{◌≡◌, ◌++◌, drop}
use Rattle.std.specs.List.{flat_map}
use Rattle.sd_rules.specs.declared.records.GroupRef.{GroupRef}
use Rattle.sd_sudo.specs.Listing.{listed}
use Rattle.sd_sudo.specs.Askers as askers
use Rattle.sd_sudo.proofs.asker.gids_with.Given as goal

-- the numbers so far, and those of the groups that are left
abbrev pub invariant-loop-group : goal.invariant-loop-group
invariant-loop-group l = l.gids ++ flat_map (λ (g : GroupRef). listed g.gid) (drop l.group-index l.groups) ≡ askers.gids_with l.own l.groups
