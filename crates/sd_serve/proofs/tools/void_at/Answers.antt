use Rattle.std.proofs.Common.{◌≡◌, sym, map, rules}
use Rattle.std.specs.Prelude.{string_bytes}
use Rattle.sd_serve.specs.Promises.{Voids}
use Rattle.sd_serve.proofs.Told.{moved, without_usage}
use Rattle.sd_serve.proofs.Voided.{unlinked}
use Rattle.sd_tools.specs.Endings as endings
use Rattle.sd_serve.proofs.tools.void_at.Goals as goal

pub returns-in_default-clause-voids : goal.returns-in_default-clause-voids
returns-in_default-clause-voids g c =
    let kept : g.O.Outside.told c.connect.new.self ≡ g.O.Outside.told c.args.outside.now = search rules in
    unlinked _ _ _ _ _ _ c.end.ensures.status (λ w. (c.end.ensures.written w).1) kept

pub returns-clause-voids : goal.returns-clause-voids
returns-clause-voids g c =
    moved
    (λ x y. Voids (map string_bytes c.args.rest.now) x y (g.W.Sink.held c.args.sink.now) (g.W.Sink.held c.cache-status.new.sink) c.cache-status.result)
    _ _ _ _ c.in-Ok.ensures.told (sym c.done_link.ensures.told)
    (record {
      status_is = without_usage _ _ (endings.IsTalkStatus c.cache-status.result) c.requires (λ e. (c.cache-status.ensures.usage e).0) c.cache-status.ensures.status;
      done = c.cache-status.ensures.done;
      sent = c.cache-status.ensures.front;
      no_daemon = λ e. (c.cache-status.ensures.no_daemon e).1;
      bad_reply = c.cache-status.ensures.bad_reply;
    })
