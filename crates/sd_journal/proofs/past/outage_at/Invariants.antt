use Rattle.std.proofs.Common.{◌≡◌, reverse, take}
use Rattle.sd_rules.specs.Past as past
use Rattle.sd_journal.proofs.past.outage_at.Given as goal

-- what the entries before the place say is what all say
abbrev pub invariant-loop-place : goal.invariant-loop-place
invariant-loop-place l = past.outage_at l.timeout (reverse (take l.place l.entries)) l.moment ≡ past.outage_at l.timeout (reverse l.entries) l.moment
