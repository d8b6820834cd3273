use Rattle.std.proofs.Common.{◌≡◌, take, drop}
use Rattle.sd_dn.specs.Remaining.{remaining, OnType, named_all}
use Rattle.sd_dn.proofs.texts.type_length.Given as goal

-- the bytes so far are of the type
abbrev pub invariant-loop-place : goal.invariant-loop-place
invariant-loop-place l = remaining l.text OnType ≡ named_all (take l.place l.text) (remaining (drop l.place l.text) OnType)
