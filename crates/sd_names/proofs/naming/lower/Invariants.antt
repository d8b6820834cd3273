use Rattle.std.proofs.Common.{◌≡◌, take}
use Rattle.sd_names.specs.Naming.{lower}
use Rattle.sd_names.proofs.naming.lower.Given as goal

abbrev pub invariant-loop-byte : goal.invariant-loop-byte
invariant-loop-byte l = l.bytes.items ≡ lower (take l.byte-index l.text)
