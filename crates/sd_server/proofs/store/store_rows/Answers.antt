use Rattle.std.proofs.Common.{◌≡◌, None, rules}
use Rattle.sd_desk.specs.Desks.{front}
use Rattle.sd_server.proofs.Stored.{holds_none}
use Rattle.sd_server.proofs.store.store_rows.Goals as goal

pub returns-in-None-clause-stored : goal.returns-in-None-clause-stored
returns-in-None-clause-stored g c =
    let none : c.args.keeper.now ≡ None = search rules in
    holds_none g.K.Keeper.told (front c.args.desk.now c.args.seat.now) c.args.keeper.now none
