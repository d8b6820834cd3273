use Rattle.std.proofs.Common.{◌≡◌, reverse, take}
use Rattle.sd_rules.specs.Past as past
use Rattle.sd_journal.proofs.past.newest.Given as goal

-- what the entries before the place say is what all say
abbrev pub invariant-loop-place : goal.invariant-loop-place
invariant-loop-place l = past.newest (reverse (take l.place l.entries)) l.key ≡ past.newest (reverse l.entries) l.key
