use Rattle.std.proofs.Common.{inl, refl}
use Rattle.sd_desk.specs.Desks.{front}
use Rattle.sd_server.specs.Stores.{told_by, IsLater}
use Rattle.sd_server.proofs.Stored.{is_later_through, old_or_later}
use Rattle.sd_server.proofs.serving.look_after.Goals as goal

pub returns-clause-seat : goal.returns-clause-seat
returns-clause-seat g c =
    let stopping : IsLater c.args.desk.now c.args.seat.now c.stopping.new.seat =
    record { own = c.stopping.ensures.own; free = c.stopping.ensures.free; reaches = c.stopping.ensures.reaches } in
    is_later_through _ _ _ _ (is_later_through _ _ _ _ stopping c.forget_in_time.ensures) c.store_in_time.ensures.seat

pub returns-clause-stored : goal.returns-clause-stored
returns-clause-stored g c =
    let stopping : IsLater c.args.desk.now c.args.seat.now c.stopping.new.seat =
    record { own = c.stopping.ensures.own; free = c.stopping.ensures.free; reaches = c.stopping.ensures.reaches } in
    let later = is_later_through c.args.desk.now c.args.seat.now c.stopping.new.seat c.forget_in_time.new.seat stopping c.forget_in_time.ensures in
    old_or_later (front c.args.desk.now c.args.seat.now) (front c.args.desk.now c.forget_in_time.new.seat) (told_by g.K.Keeper.told c.args.keeper.now)
    (told_by g.K.Keeper.told c.args.keeper.now) (told_by g.K.Keeper.told c.store_in_time.new.keeper) later.reaches (inl refl) c.store_in_time.ensures.stored
