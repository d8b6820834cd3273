use Rattle.std.proofs.Common.{◌≡◌, reverse, take}
use Rattle.sd_rules.specs.Logins as logins
use Rattle.sd_journal.proofs.logins.last_wrong.Given as goal

-- what the entries before the place say is what all say
abbrev pub invariant-loop-place : goal.invariant-loop-place
invariant-loop-place l = logins.last_wrong (reverse (take l.place l.entries)) l.user ≡ logins.last_wrong (reverse l.entries) l.user
