use Rattle.std.proofs.Common.{◌≡◌, ◌+◌, reverse, take}
use Rattle.sd_rules.specs.Logins as logins
use Rattle.sd_keeping.proofs.readings.wrong_count.Given as goal

-- the guesses counted and those of the entries before the place are all guesses
abbrev pub invariant-loop-place : goal.invariant-loop-place
invariant-loop-place l = l.count + logins.wrong_count (reverse (take l.place l.entries)) l.user ≡ logins.wrong_count (reverse l.entries) l.user
