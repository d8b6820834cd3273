-- How a tool ends where an input was not taken.
use Rattle.std.specs.Prelude.{◌≡◌, ℕ, List, codes}
use Rattle.sd_tools.specs.declared.endings.TheConstants.{TOO_LONG}
use Rattle.sd_inputs.specs.declared.endings.TheConstants.{REFUSED}
use Rattle.sd_inputs.specs.declared.inputs.Stop.{Stop}
use Rattle.sd_inputs.specs.declared.inputs.Stop.TheVariants as stops

abbrev pub too_long : List ℕ
too_long = codes "too long\n"

-- the status and the output, where there is an ending
abbrev pub StopEnds : Stop → ℕ → List ℕ → Type 0
StopEnds stops.ReadFault status output = ⊥
StopEnds stops.TooLong status output = (status ≡ TOO_LONG) × (output ≡ too_long)
StopEnds (stops.Refused text) status output = (status ≡ REFUSED) × (output ≡ text)
StopEnds stops.Memory status output = ⊥
