use Rattle.std.proofs.Common.{◌≡◌, ◌-◌, ◌^◌, min, drop}
use Rattle.sd_dial.specs.Rooms.{texts_room}
use Rattle.sd_provider.proofs.room.texts_room.Given as goal

abbrev pub invariant-loop-place : goal.invariant-loop-place
invariant-loop-place l = l.room ≡ min (texts_room (drop l.place l.texts)) (2 ^ 64 - 1)
