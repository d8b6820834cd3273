use Rattle.std.proofs.Common.{◌≡◌, drop}
use Rattle.sd_names.specs.Naming.{lower_dn}
use Rattle.sd_places.specs.Numbers.{levels_number}
use Rattle.sd_places.proofs.numbers.dn_number.Given as goal

abbrev pub invariant-loop-place : goal.invariant-loop-place
invariant-loop-place l = l.number ≡ levels_number (lower_dn (drop l.place l.levels))
