-- Opening with kept rows, and why it fails.
use Rattle.std.specs.Prelude.{◌≡◌, List, Some, None}
use Rattle.sd_rules.specs.declared.events.Row.{Row}
use Rattle.sd_rules.specs.KeptRows.{bad_row}
use Rattle.sd_core.specs.declared.cores.OpenFault.{OpenFault}
use Rattle.sd_core.specs.declared.cores.OpenFault.TheVariants as faults

-- what a fault says of the rows: BadRows names the first that is against the rules, and memory is wanted for good rows alone
abbrev pub FaultOf : List Row → OpenFault → Type 0
FaultOf rows (faults.BadRows place) = bad_row rows ≡ Some place
FaultOf rows faults.Memory = bad_row rows ≡ None
