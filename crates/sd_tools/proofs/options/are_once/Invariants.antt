use Rattle.std.proofs.Common.{◌≡◌, length}
use Rattle.sd_tools.specs.Options as options
use Rattle.sd_tools.proofs.options.are_once.Given as goal

-- none of the options so far stands again
abbrev pub invariant-loop-rest : goal.invariant-loop-rest
invariant-loop-rest l = options.are_once l.rest ≡ options.are_once l.items

abbrev pub decreases-loop-rest : goal.decreases-loop-rest
decreases-loop-rest l = length l.rest
