use Rattle.std.proofs.Common.{reverse, drop}
use Rattle.sd_hbac.specs.Compiled as compiled
use Rattle.sd_hbac.proofs.sets.compiled.Given as goal

-- the rules from the place on
abbrev pub invariant-loop-place : goal.invariant-loop-place
invariant-loop-place l = compiled.CompilesFrom l.services l.place (drop l.place l.rules) (reverse l.sets.items)
