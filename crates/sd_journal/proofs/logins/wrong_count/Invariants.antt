use Rattle.std.proofs.Common.{◌≡◌, ◌≤◌, ◌+◌, ◌*◌, ◌^◌, reverse, take, length}
use Rattle.sd_rules.specs.Logins as logins
use Rattle.sd_journal.proofs.logins.wrong_count.Given as goal

-- the guesses counted and those of the entries before the place are all guesses, and each entry counts for a number of 64 bits
abbrev pub invariant-loop-place : goal.invariant-loop-place
invariant-loop-place l = record {
  counted : l.count + logins.wrong_count (reverse (take l.place l.entries)) l.user ≡ logins.wrong_count (reverse l.entries) l.user;
  room : l.count + l.place * 2 ^ 64 ≤ length l.entries * 2 ^ 64;
}
