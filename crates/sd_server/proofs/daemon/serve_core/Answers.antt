use Rattle.std.proofs.Common.{◌≡◌, subst}
use Rattle.sd_rules.specs.Reaching.{Reaches}
use Rattle.sd_rules.specs.Steps.{Daemon}
use Rattle.sd_desk.specs.Desks.{front}
use Rattle.sd_server.specs.Stores.{told_by, HoldsOldOrReached, HoldsReached}
use Rattle.sd_server.proofs.Stored.{flushed, flushed_ok, told_stored}
use Rattle.sd_server.proofs.daemon.serve_core.Goals as goal

pub returns-clause-held : goal.returns-clause-held
returns-clause-held g c =
    let begun : front c.in-Ok.desk c.in-Ok.seat ≡ c.args.core = c.in-Ok.ensures.front in
    let to = subst (λ (d : Daemon). Reaches d (front c.in-Ok.desk c.serve_clients-end.result.seat)) begun c.serve_clients-end.ensures.seat.reaches in
    let first = subst (λ (d : Daemon). HoldsOldOrReached d (told_by g.K.Keeper.told c.args.keeper) (told_by g.K.Keeper.told c.serve_clients-end.result.keeper)) begun c.serve_clients-end.ensures.stored in
    flushed c.args.core (front c.in-Ok.desk c.serve_clients-end.result.seat) (told_by g.K.Keeper.told c.args.keeper) (told_by g.K.Keeper.told c.serve_clients-end.result.keeper)
    (told_by g.K.Keeper.told c.store_rows-stored.new.keeper) c.store_rows-stored.result to first c.store_rows-stored.ensures.stored c.store_rows-stored.ensures.same

pub returns-clause-stored : goal.returns-clause-stored
returns-clause-stored g c =
    let begun : front c.in-Ok.desk c.in-Ok.seat ≡ c.args.core = c.in-Ok.ensures.front in
    let to = subst (λ (d : Daemon). Reaches d (front c.in-Ok.desk c.serve_clients-end.result.seat)) begun c.serve_clients-end.ensures.seat.reaches in
    let first = subst (λ (d : Daemon). HoldsOldOrReached d (told_by g.K.Keeper.told c.args.keeper) (told_by g.K.Keeper.told c.serve_clients-end.result.keeper)) begun c.serve_clients-end.ensures.stored in
    told_stored c.end_of.result c.store_rows-stored.result
    (HoldsReached c.args.core (told_by g.K.Keeper.told c.args.keeper) (told_by g.K.Keeper.told c.store_rows-stored.new.keeper)) c.end_of.ensures.stored
    (flushed_ok c.args.core (front c.in-Ok.desk c.serve_clients-end.result.seat) (told_by g.K.Keeper.told c.args.keeper)
    (told_by g.K.Keeper.told c.serve_clients-end.result.keeper) (told_by g.K.Keeper.told c.store_rows-stored.new.keeper) c.store_rows-stored.result to first
    c.store_rows-stored.ensures.stored)
