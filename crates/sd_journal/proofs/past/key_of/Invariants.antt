use Rattle.std.proofs.Common.{◌≡◌, reverse, take}
use Rattle.sd_rules.specs.Past as past
use Rattle.sd_journal.proofs.past.key_of.Given as goal

-- what the entries before the place say is what all say
abbrev pub invariant-loop-place : goal.invariant-loop-place
invariant-loop-place l = past.key_of (reverse (take l.place l.entries)) l.request ≡ past.key_of (reverse l.entries) l.request
