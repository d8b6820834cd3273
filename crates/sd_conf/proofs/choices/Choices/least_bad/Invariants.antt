use Rattle.std.proofs.Common.{◌≡◌, drop}
use Rattle.sd_conf.specs.Chosen.{least_bad, chosen}
use Rattle.sd_conf.proofs.choices.Choices.least_bad.Given as goal

-- the least line of the options that were passed
abbrev pub invariant-loop-place : goal.invariant-loop-place
invariant-loop-place l = l.least ≡ least_bad (chosen l.self) l.fn.line (drop l.place l.options)
