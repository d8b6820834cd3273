use Rattle.std.proofs.Common.{◌≡◌, length}
use Rattle.sd_idmap.specs.Hash as hashing
use Rattle.sd_idmap.proofs.hash.blocks_mixed.Given as goal

-- what is left makes of the hash so far what the whole text makes of the seed
abbrev pub invariant-loop-left : goal.invariant-loop-left
invariant-loop-left l = hashing.blocks_mixed l.hash l.left ≡ hashing.blocks_mixed l.seed l.text

abbrev pub decreases-loop-left : goal.decreases-loop-left
decreases-loop-left l = length l.left
