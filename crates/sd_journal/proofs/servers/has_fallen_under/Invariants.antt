use Rattle.std.proofs.Common.{◌≡◌, reverse, take}
use Rattle.sd_rules.specs.Servers as servers
use Rattle.sd_journal.proofs.servers.has_fallen_under.Given as goal

-- what the entries before the place say is what all say
abbrev pub invariant-loop-place : goal.invariant-loop-place
invariant-loop-place l = servers.has_fallen_under (reverse (take l.place l.entries)) l.request l.server ≡ servers.has_fallen_under (reverse l.entries) l.request l.server
