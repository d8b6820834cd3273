use Rattle.std.proofs.Common.{◌≡◌, reverse, take}
use Rattle.sd_rules.specs.KeptRows as kept
use Rattle.sd_keeping.proofs.opening.settled_entries.Given as goal

-- the entries so far, as they are after a restart
abbrev pub invariant-loop-place : goal.invariant-loop-place
invariant-loop-place l = reverse l.made.items ≡ kept.settled_past (reverse (take l.place l.entries))
