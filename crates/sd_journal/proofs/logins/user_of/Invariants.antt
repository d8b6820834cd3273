use Rattle.std.proofs.Common.{◌≡◌, reverse, take}
use Rattle.sd_rules.specs.Logins as logins
use Rattle.sd_journal.proofs.logins.user_of.Given as goal

-- what the entries before the place say is what all say
abbrev pub invariant-loop-place : goal.invariant-loop-place
invariant-loop-place l = logins.user_of (reverse (take l.place l.entries)) l.attempt ≡ logins.user_of (reverse l.entries) l.attempt
