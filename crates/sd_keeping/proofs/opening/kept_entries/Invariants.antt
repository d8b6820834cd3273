use Rattle.std.proofs.Common.{◌≡◌, map, take}
use Rattle.sd_rules.specs.KeptRows as kept
use Rattle.sd_keeping.proofs.opening.kept_entries.Given as goal

-- the entries of the rows so far
abbrev pub invariant-loop-row : goal.invariant-loop-row
invariant-loop-row l = l.entries.items ≡ map kept.kept_entry (take l.row-index l.rows)
