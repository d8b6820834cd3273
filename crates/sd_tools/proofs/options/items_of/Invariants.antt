use Rattle.std.proofs.Common.{◌≡◌, map, length}
use Rattle.std.specs.Prelude.{string_bytes}
use Rattle.sd_tools.specs.Options as options
use Rattle.sd_tools.proofs.options.items_of.Given as goal

-- the options found, and then those of the words left, are those of all
abbrev pub invariant-loop-rest : goal.invariant-loop-rest
invariant-loop-rest l = options.with_front l.items.items (options.items_of (map string_bytes l.rest)) ≡ options.items_of (map string_bytes l.words)

abbrev pub decreases-loop-rest : goal.decreases-loop-rest
decreases-loop-rest l = length l.rest
