use Rattle.std.proofs.Common.{◌≡◌, ◌≤◌, reverse, take, length, ◌+◌}
use Rattle.sd_rules.specs.Requests as requests
use Rattle.sd_journal.proofs.requests.reserved_places.Given as goal

-- the places counted and those of the entries before the place are all places
abbrev pub invariant-loop-place : goal.invariant-loop-place
invariant-loop-place l = record {
  counted : l.count + requests.reserved_among (reverse l.entries) (reverse (take l.place l.entries)) ≡ requests.reserved_places (reverse l.entries);
  room : l.count + l.place ≤ length l.entries;
}
