use Rattle.std.proofs.Common.{◌≡◌, refl, sym, map, rules}
use Rattle.std.specs.Prelude.{string_bytes}
use Rattle.sd_serve.specs.Promises.{Asks}
use Rattle.sd_serve.proofs.Asked.{unlinked}
use Rattle.sd_serve.proofs.Told.{moved, without_usage}
use Rattle.sd_tools.specs.Endings as endings
use Rattle.sd_serve.proofs.tools.ask_at.Goals as goal

pub returns-in_default-clause-asks : goal.returns-in_default-clause-asks
returns-in_default-clause-asks g c =
    let kept : g.O.Outside.told c.connect.new.self ≡ g.O.Outside.told c.args.outside.now = search rules in
    unlinked _ _ _ _ _ _ _ _ _ c.end.ensures.status (λ w. (c.end.ensures.written w).1) refl kept

pub returns-clause-asks : goal.returns-clause-asks
returns-clause-asks g c =
    moved
    (λ x y. Asks {S = g.row.S.Denot} g.S.Source.left (map string_bytes c.args.rest.now) c.args.source.now c.query-status.new.source x y
    (g.W.Sink.held c.args.sink.now) (g.W.Sink.held c.query-status.new.sink) c.query-status.result)
    _ _ _ _ c.in-Ok.ensures.told (sym c.done_link.ensures.told)
    (record {
      status_is = without_usage _ _ (endings.IsAskStatus c.query-status.result) c.requires (λ e. (c.query-status.ensures.usage e).0) c.query-status.ensures.status;
      done = c.query-status.ensures.done;
      sent = c.query-status.ensures.front;
      unread = c.query-status.ensures.unread;
      read_fault = λ e. let same = (c.query-status.ensures.read_fault e).2 in cc;
      too_long = λ e. let long = c.query-status.ensures.too_long e in let same = long.2 in (long.0, long.1, cc, long.3);
      no_daemon = λ e. (c.query-status.ensures.no_daemon e).1;
      bad_reply = c.query-status.ensures.bad_reply;
    })
