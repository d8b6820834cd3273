use Rattle.std.proofs.Common.{◌≡◌, map, take}
use Rattle.std.specs.Char.{to_ascii_lowercase}
use Rattle.sd_hbac.proofs.names.in_lower_case.Given as goal

-- the names so far
abbrev pub invariant-loop-name : goal.invariant-loop-name
invariant-loop-name l = map (λ v. v.items) l.made.items ≡ map (map to_ascii_lowercase) (take l.name-index l.names)
