use Rattle.std.proofs.Common.{◌≡◌, reverse, take}
use Rattle.sd_rules.specs.Logins as logins
use Rattle.sd_journal.proofs.logins.hash_entry.Given as goal

-- what the entries before the place say is what all say
abbrev pub invariant-loop-place : goal.invariant-loop-place
invariant-loop-place l = logins.hash_entry (reverse (take l.place l.entries)) l.user ≡ logins.hash_entry (reverse l.entries) l.user
