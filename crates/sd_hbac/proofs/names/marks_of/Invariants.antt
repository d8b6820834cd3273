use Rattle.std.proofs.Common.{map, take}
use Rattle.std.specs.Char.{to_ascii_lowercase}
use Rattle.sd_hbac.specs.Lowered as lowered
use Rattle.sd_hbac.proofs.names.marks_of.Given as goal

-- the marks of the names so far
abbrev pub invariant-loop-name : goal.invariant-loop-name
invariant-loop-name l = lowered.Marked l.marks (map (map to_ascii_lowercase) (take l.name-index l.names))
