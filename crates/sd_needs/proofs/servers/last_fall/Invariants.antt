use Rattle.std.proofs.Common.{◌≡◌, reverse, take}
use Rattle.sd_rules.specs.Needed as needed
use Rattle.sd_needs.proofs.servers.last_fall.Given as goal

-- what the entries before the place say is what all say
abbrev pub invariant-loop-place : goal.invariant-loop-place
invariant-loop-place l = needed.last_fall (reverse (take l.place l.entries)) l.server ≡ needed.last_fall (reverse l.entries) l.server
