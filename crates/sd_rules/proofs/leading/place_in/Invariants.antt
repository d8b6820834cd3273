use Rattle.std.proofs.Common.{◌≡◌, ◌+◌, drop}
use Rattle.sd_rules.specs.Leading as leading
use Rattle.sd_rules.proofs.leading.place_in.Given as goal

-- the place among the numbers left, after those so far
abbrev pub invariant-loop-place : goal.invariant-loop-place
invariant-loop-place l = l.place + leading.place_in (drop l.place l.numbers) l.number ≡ leading.place_in l.numbers l.number
