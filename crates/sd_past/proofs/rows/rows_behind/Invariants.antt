use Rattle.std.proofs.Common.{◌≡◌, ◌++◌, ◌∷◌, [], reverse, take}
use Rattle.sd_rules.specs.KeptRows as kept
use Rattle.sd_past.proofs.rows.rows_behind.Given as goal

-- the rows of the entries so far, before them the head
abbrev pub invariant-loop-place : goal.invariant-loop-place
invariant-loop-place l = reverse l.rows ≡ kept.rows_among (reverse l.all) (reverse (take l.place l.all)) ++ l.fn.head ∷ []
