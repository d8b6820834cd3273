use Rattle.std.specs.Prelude.{is_some}
use Rattle.sd_server.proofs.Held.{opening_back}
use Rattle.sd_server.proofs.beginning.enter.Goals as goal

pub returns-in-Err-clause-opening : goal.returns-in-Err-clause-opening
returns-in-Err-clause-opening g c =
    opening_back g.H.Store.Keeper.told g.H.Store.Keeper.faults g.H.Store.Keeper.failed (is_some c.args.store) (g.H.Host.stored c.args.host.now) (g.H.Host.stored c.open_store.new.host)
    (g.H.Host.stored c.listen.new.host) c.in_ok-core.keeper c.in_ok-core.ensures.opening c.in_ok-core.ensures.ready c.in-Err.ensures.back
