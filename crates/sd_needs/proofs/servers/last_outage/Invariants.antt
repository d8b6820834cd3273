use Rattle.std.proofs.Common.{◌≡◌, reverse, take}
use Rattle.sd_rules.specs.Needed as needed
use Rattle.sd_needs.proofs.servers.last_outage.Given as goal

-- what the entries before the place say is what all say
abbrev pub invariant-loop-place : goal.invariant-loop-place
invariant-loop-place l =
    needed.last_outage (reverse (take l.place l.entries))
    ≡ needed.last_outage (reverse l.entries)
