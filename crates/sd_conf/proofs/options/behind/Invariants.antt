use Rattle.std.proofs.Common.{◌≡◌, drop}
use Rattle.sd_conf.specs.Options.{behind}
use Rattle.sd_conf.proofs.options.behind.Given as goal

-- what was passed is the same in both
abbrev pub invariant-loop-place : goal.invariant-loop-place
invariant-loop-place l = behind (drop l.place l.beginning) (drop l.place l.bytes) ≡ behind l.beginning l.bytes
