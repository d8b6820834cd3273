use Rattle.std.proofs.Common.{◌≡◌, ◌-◌, ◌^◌, min, drop}
use Rattle.sd_dial.specs.Rooms.{attributes_room}
use Rattle.sd_provider.proofs.room.attributes_room.Given as goal

abbrev pub invariant-loop-place : goal.invariant-loop-place
invariant-loop-place l = l.room ≡ min (attributes_room (drop l.place l.attributes)) (2 ^ 64 - 1)
