use Rattle.std.proofs.Common.{◌≡◌, take, Some}
use Rattle.sd_idmap.specs.Reading as reading
use Rattle.sd_idmap.proofs.reading.read_text.Given as goal

-- the bytes so far were read, and reading stands here
abbrev pub invariant-loop-place : goal.invariant-loop-place
invariant-loop-place l = reading.run reading.start (take l.place l.text) ≡ Some (reading.at l.whole l.stage)
