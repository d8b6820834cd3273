use Rattle.std.proofs.Common.{[], ◌∷◌, refl}
use Rattle.sd_engine.specs.Lookups.{undialled, looked, asked_on}
use Rattle.sd_engine.proofs.Asking.{lookup_on}
use Rattle.sd_engine.proofs.Faults.{rose_back, asks_on, asks_nothing, receives_on, receives_nothing, done_later}
use Rattle.sd_engine.proofs.looking.fetch_at.Goals as goal

pub returns-in-Ok-clause-operations : goal.returns-in-Ok-clause-operations
returns-in-Ok-clause-operations g c =
    let asks = c.look_over-fetched.ensures.asks in
    record {
      operations = asked_on c.args.server asks.messages;
      lines = asks.received ∷ [];
      are = looked asks.messages asks.received (lookup_on _ _ _ _ _ _ _ (rose_back _ _ _ _ _ c.in-Ok.ensures.cause.later c.in-Ok.ensures.no_fault c.done.ensures.rises) asks.asked);
      told = asks_on _ _ _ _ _ c.args.server asks.messages c.in-Ok.ensures.operations c.in-Ok.ensures.nothing_asked c.in-Ok.ensures.tells_asked asks.told c.done.ensures.operations;
      received = receives_on _ _ _ _ _ asks.received c.in-Ok.ensures.received c.in-Ok.ensures.nothing_received c.in-Ok.ensures.tells_received asks.comes c.done.ensures.received;
    }

pub returns-in-Ok-clause-later : goal.returns-in-Ok-clause-later
returns-in-Ok-clause-later g c = done_later _ _ _ _ c.in-Ok.ensures.cause.later c.done.ensures.rises c.done.ensures.stays

pub returns-in-Err-clause-operations : goal.returns-in-Err-clause-operations
returns-in-Err-clause-operations g c = record { operations = []; lines = []; are = undialled refl; told = asks_nothing _ _ c.in-Err.ensures.operations; received = receives_nothing _ _ c.in-Err.ensures.received }
