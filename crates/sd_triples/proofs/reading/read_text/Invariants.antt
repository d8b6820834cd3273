use Rattle.std.proofs.Common.{◌≡◌, take, Some}
use Rattle.sd_triples.specs.Reading as reading
use Rattle.sd_triples.proofs.reading.read_text.Given as goal

-- the bytes so far were read, and reading stands here
abbrev pub invariant-loop-place : goal.invariant-loop-place
invariant-loop-place l = reading.run reading.start (take l.place l.text) ≡ Some (reading.progress l.reader)
