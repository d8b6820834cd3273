use Rattle.std.proofs.Common.{◌≡◌, drop}
use Rattle.sd_world.specs.Past.{KeepsKeys}
use Rattle.sd_world.specs.Tasks as tasks
use Rattle.sd_world.proofs.moves.abandon_all.Given as goal

-- the numbers left decide
abbrev pub invariant-loop-number : goal.invariant-loop-number
invariant-loop-number l = record {
  told : tasks.abandoned (drop l.number-index l.numbers) l.core l.now ≡ tasks.abandoned l.numbers l.fn.core l.now;
  keys : KeepsKeys l.fn.core l.core;
}
