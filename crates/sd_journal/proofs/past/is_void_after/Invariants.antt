use Rattle.std.proofs.Common.{◌≡◌, reverse, take}
use Rattle.sd_rules.specs.Past as past
use Rattle.sd_journal.specs.Seen as seen
use Rattle.sd_journal.proofs.past.is_void_after.Given as goal

-- what the entries before the place say is what all say
abbrev pub invariant-loop-place : goal.invariant-loop-place
invariant-loop-place l = past.is_void_after (reverse (take l.place l.entries)) (seen.standing l.answer) ≡ past.is_void_after (reverse l.entries) (seen.standing l.answer)
