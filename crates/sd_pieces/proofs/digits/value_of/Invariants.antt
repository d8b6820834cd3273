use Rattle.std.proofs.Common.{◌≡◌, ◌^◌, ◌-◌, min, take}
use Rattle.sd_pieces.specs.Digits as numerals
use Rattle.sd_pieces.proofs.digits.value_of.Given as goal

-- the value of the digits so far, or the greatest number where it is more
abbrev pub invariant-loop-byte : goal.invariant-loop-byte
invariant-loop-byte l = l.value ≡ min (numerals.value_of (take l.byte-index l.digits)) (2 ^ 128 - 1)
