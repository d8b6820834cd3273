use Rattle.std.proofs.Common.{◌≡◌, ◌≤◌}
use Rattle.sd_desk.specs.Desks.{front}
use Rattle.sd_server.specs.Stores.{told_by, HoldsOldOrReached, IsLater, Stays}
use Rattle.sd_server.proofs.serving.let_in.Given as goal

abbrev pub invariant-loop : goal.invariant-loop
invariant-loop g l = record {
  seat : IsLater l.desk l.fn.seat l.seat;
  later : g.D.Doors.faults l.fn.doors ≤ g.D.Doors.faults l.doors;
  stored : HoldsOldOrReached (front l.desk l.fn.seat) (told_by g.K.Keeper.told l.fn.keeper) (told_by g.K.Keeper.told l.keeper);
  stays : Stays g.K.Keeper.faults l.fn.keeper l.keeper;
}
