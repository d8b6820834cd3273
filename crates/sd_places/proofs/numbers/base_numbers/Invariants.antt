use Rattle.std.proofs.Common.{◌≡◌, drop}
use Rattle.sd_names.specs.Naming.{lower_dn}
use Rattle.sd_places.specs.Numbers.{levels_number, base_numbers}
use Rattle.sd_places.proofs.numbers.base_numbers.Given as goal

abbrev pub invariant-loop-place : goal.invariant-loop-place
invariant-loop-place l = record {
  number : l.number ≡ levels_number (lower_dn (drop l.place l.levels));
  made : l.made.items ≡ base_numbers (lower_dn (drop l.place l.levels));
}
