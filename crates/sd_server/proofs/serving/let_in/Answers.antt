use Rattle.std.proofs.Common.{arith}
use Rattle.sd_desk.specs.Desks.{front}
use Rattle.sd_server.specs.Stores.{told_by}
use Rattle.sd_server.proofs.Stored.{is_later_through, old_or_later, stays_through}
use Rattle.sd_server.proofs.serving.let_in.Goals as goal

pub returns-in-Err-clause-seat : goal.returns-in-Err-clause-seat
returns-in-Err-clause-seat g c = is_later_through _ _ _ _ c.loop.invariant.seat c.let_next_in.ensures.seat

pub returns-then-look_after-clause-seat : goal.returns-then-look_after-clause-seat
returns-then-look_after-clause-seat g c =
    is_later_through _ _ _ _ (is_later_through _ _ _ _ c.loop.invariant.seat c.let_next_in.ensures.seat) c.look_after.ensures.seat

pub returns-then-look_after-clause-stored : goal.returns-then-look_after-clause-stored
returns-then-look_after-clause-stored g c =
    let later = is_later_through c.args.desk.now c.args.seat.now c.loop.seat c.let_next_in.new.seat c.loop.invariant.seat c.let_next_in.ensures.seat in
    old_or_later (front c.args.desk.now c.args.seat.now) (front c.args.desk.now c.let_next_in.new.seat) (told_by g.K.Keeper.told c.args.keeper.now)
    (told_by g.K.Keeper.told c.loop.keeper) (told_by g.K.Keeper.told c.look_after.new.keeper) later.reaches c.loop.invariant.stored c.look_after.ensures.stored

pub loop-preserved : goal.loop-preserved
loop-preserved g c =
    let later = is_later_through c.args.desk.now c.args.seat.now c.loop.seat c.let_next_in.new.seat c.loop.invariant.seat c.let_next_in.ensures.seat in
    record {
      seat = is_later_through _ _ _ _ later c.look_after.ensures.seat;
      later = omega (arith, c.loop.invariant.later, c.let_next_in.ensures.later);
      stored = old_or_later (front c.args.desk.now c.args.seat.now) (front c.args.desk.now c.let_next_in.new.seat) (told_by g.K.Keeper.told c.args.keeper.now)
          (told_by g.K.Keeper.told c.loop.keeper) (told_by g.K.Keeper.told c.look_after.new.keeper) later.reaches c.loop.invariant.stored c.look_after.ensures.stored;
      stays = stays_through g.K.Keeper.faults _ _ _ c.loop.invariant.stays c.look_after.ensures.stays;
    }
