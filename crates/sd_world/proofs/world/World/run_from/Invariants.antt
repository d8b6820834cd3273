use Rattle.std.proofs.Common.{◌≡◌, length}
use Rattle.sd_world.specs.Tasks as tasks
use Rattle.sd_world.proofs.world.World.run_from.Given as goal

-- the moves left decide
abbrev pub invariant-loop-moves : goal.invariant-loop-moves
invariant-loop-moves l = record {
  told : tasks.run_on l.moves l.self l.last ≡ tasks.run_from l.fn.self l.first;
  clients : length l.self.clients ≡ length l.fn.self.clients;
}

abbrev pub decreases-loop-moves : goal.decreases-loop-moves
decreases-loop-moves l = l.moves
