use Rattle.std.proofs.Common.{◌≡◌, take, reverse}
use Rattle.sd_world.specs.Modes as directory
use Rattle.sd_world.proofs.directory.mode_of.Given as goal

-- the earlier changes decide
abbrev pub invariant-loop-place : goal.invariant-loop-place
invariant-loop-place l = directory.mode_of (reverse (take l.place l.changes)) l.server ≡ directory.mode_of (reverse l.changes) l.server
