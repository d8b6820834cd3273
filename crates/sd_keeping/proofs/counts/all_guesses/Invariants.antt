use Rattle.std.proofs.Common.{◌≡◌, ◌≤◌, ◌+◌, ◌*◌, ◌^◌, reverse, take, length}
use Rattle.sd_keeping.specs.Counts as counts
use Rattle.sd_keeping.proofs.counts.all_guesses.Given as goal

-- the guesses counted and those of the entries before the place are all guesses, and each entry counts for a number of 64 bits
abbrev pub invariant-loop-place : goal.invariant-loop-place
invariant-loop-place l = record {
  counted : l.total + counts.all_guesses (reverse (take l.place l.entries)) ≡ counts.all_guesses (reverse l.entries);
  room : l.total + l.place * 2 ^ 64 ≤ length l.entries * 2 ^ 64;
}
