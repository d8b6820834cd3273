use Rattle.std.proofs.Common.{◌≡◌, ◌+◌, drop}
use Rattle.sd_world.specs.Tasks as tasks
use Rattle.sd_world.proofs.world.first_ready.Given as goal

-- the place among the clients left, after those so far
abbrev pub invariant-loop-place : goal.invariant-loop-place
invariant-loop-place l = l.place + tasks.first_ready l.core.past (drop l.place l.clients) ≡ tasks.first_ready l.core.past l.clients
