use Rattle.std.proofs.Common.{◌≡◌, ◌++◌, drop}
use Rattle.sd_sudo.specs.Listing.{roles_of}
use Rattle.sd_sudo.proofs.roles.read_roles.Given as goal

-- the rules so far, and those of the entries that are left
abbrev pub invariant-loop-entry : goal.invariant-loop-entry
invariant-loop-entry l = l.roles.items ++ roles_of (drop l.entry-index l.entries) ≡ roles_of l.entries
