use Rattle.std.proofs.Common.{◌≡◌, drop, []}
use Rattle.sd_dn.specs.Reading.{Start, progress, run}
use Rattle.sd_dn.proofs.read.read_text.Given as goal

-- what is left, read from here, gives what the whole text gives
abbrev pub invariant-loop-place : goal.invariant-loop-place
invariant-loop-place l = run (progress l.reader) (drop l.place l.text) ≡ run (Start [] []) l.text
