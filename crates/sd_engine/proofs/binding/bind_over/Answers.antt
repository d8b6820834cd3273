use Rattle.sd_engine.proofs.Receiving.{grew_nothing}
use Rattle.sd_engine.proofs.Asking.{bind_asks, bind_rose, bind_grew, unbinds_by, bind_fallen, bind_later, fresh_settled, told_bound}
use Rattle.sd_engine.proofs.binding.bind_over.Goals as goal

pub returns-clause-asks : goal.returns-clause-asks
returns-clause-asks g c =
    bind_asks g.L.DirectoryLink.asked g.L.Link.received c.args.dn.now c.args.password.now c.bind-bound.result _ _ _ _ c.new-client.result c.bind-bound.new.client c.args.line c.end.result c.new-client.ensures
    (bind_rose g.L.Link.faults c.new-client.result c.args.line _ _ c.new-client.ensures c.bind-bound.ensures.later)
    (record {
      used = c.bind-bound.ensures.used;
      unsent = λ same. (c.bind-bound.ensures.unsent same).asked;
      no_reply = c.bind-bound.ensures.no_reply;
      sent = λ more. (c.bind-bound.ensures.sent more).asked;
      reply = c.bind-bound.ensures.reply;
      fails = c.bind-bound.ensures.fails;
      grew =
          bind_grew _ _ _ _ _ _ c.bind-bound.ensures.used
          (λ same. let u = c.bind-bound.ensures.unsent same in grew_nothing _ _ _ _ u.held u.received)
          (λ more. let came = (c.bind-bound.ensures.sent more).came in record { bytes = _; grown = came.grown; told = came.received });
    })
    (unbinds_by g.L.DirectoryLink.asked c.bind-bound.new.client c.end.result _ _ _ c.end.ensures.failed c.end.ensures.unbinds)
    c.end.ensures.received

pub returns-clause-fallen : goal.returns-clause-fallen
returns-clause-fallen g c = λ is. bind_fallen g.L.Link.faults c.new-client.result c.args.line _ _ _ _ c.new-client.ensures c.end.ensures.later c.bind-bound.ensures.cause is

pub returns-clause-later : goal.returns-clause-later
returns-clause-later g c = bind_later g.L.Link.faults c.new-client.result c.args.line _ _ c.new-client.ensures c.bind-bound.ensures.later c.end.ensures.later

pub returns-clause-told : goal.returns-clause-told
returns-clause-told g c = λ b is.
    let some = (g.met.L.DirectoryLink.tells_coming c.args.line b is).0 in
    let settled = fresh_settled g.L.Link.coming c.new-client.result c.args.line c.new-client.ensures some c.requires in
    told_bound g.L.DirectoryLink.behind c.new-client.result c.args.line c.args.dn.now c.args.password.now c.bind-bound.result b _ c.new-client.ensures is settled c.bind-bound.ensures.told
