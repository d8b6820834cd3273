use Rattle.std.proofs.Common.{◌≡◌, reverse, take}
use Rattle.sd_core.specs.Looks as looks
use Rattle.sd_core.proofs.cores.has_stopped.Given as goal

-- what the entries before the place say is what all say
abbrev pub invariant-loop-place : goal.invariant-loop-place
invariant-loop-place l = looks.has_stopped (reverse (take l.place l.entries)) ≡ looks.has_stopped (reverse l.entries)
