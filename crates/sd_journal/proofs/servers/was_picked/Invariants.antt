use Rattle.std.proofs.Common.{◌≡◌, reverse, take}
use Rattle.sd_rules.specs.Servers as servers
use Rattle.sd_journal.proofs.servers.was_picked.Given as goal

-- what the entries before the place say is what all say
abbrev pub invariant-loop-place : goal.invariant-loop-place
invariant-loop-place l = servers.was_picked (reverse (take l.place l.entries)) l.request l.server ≡ servers.was_picked (reverse l.entries) l.request l.server
