use Rattle.std.proofs.Common.{◌≡◌, length}
use Rattle.sd_world.specs.Tasks as tasks
use Rattle.sd_world.proofs.world.World.moves_at.Given as goal

-- the moves left decide
abbrev pub invariant-loop-left : goal.invariant-loop-left
invariant-loop-left l = record {
  told : tasks.moves_at l.left l.self l.place ≡ tasks.moves_at l.count l.fn.self l.place;
  clients : length l.self.clients ≡ length l.fn.self.clients;
}

abbrev pub decreases-loop-left : goal.decreases-loop-left
decreases-loop-left l = l.left
