use Rattle.std.proofs.Common.{◌≡◌, reverse, take}
use Rattle.sd_rules.specs.Servers as servers
use Rattle.sd_journal.proofs.servers.has_fallen_lately.Given as goal

-- what the entries before the place say is what all say
abbrev pub invariant-loop-place : goal.invariant-loop-place
invariant-loop-place l = servers.has_fallen_lately (reverse (take l.place l.entries)) l.t l.server ≡ servers.has_fallen_lately (reverse l.entries) l.t l.server
