use Rattle.std.proofs.Common.{take, map}
use Rattle.sd_conf.specs.Lines.{Stands, forms_of}
use Rattle.sd_conf.proofs.lines.entries.Given as goal

-- what the walk has found is what the lines so far say
abbrev pub invariant-loop-place : goal.invariant-loop-place
invariant-loop-place l = Stands l.walk (forms_of (map (λ x. x.now) (take l.place l.lines.items)))
