use Rattle.std.proofs.Common.{◌≡◌, take}
use Rattle.sd_names.specs.Naming.{lower}
use Rattle.sd_places.specs.Numbers.{bytes_number}
use Rattle.sd_places.proofs.numbers.text_number.Given as goal

abbrev pub invariant-loop-byte : goal.invariant-loop-byte
invariant-loop-byte l = l.number ≡ bytes_number l.decimal (lower (take l.byte-index l.text))
