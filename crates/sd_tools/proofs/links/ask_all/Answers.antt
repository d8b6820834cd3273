use Rattle.std.proofs.Common.{inr, sym, arith}
use Rattle.sd_tools.proofs.Talking.{err_same, front_by, ends_by, talked_on}
use Rattle.sd_tools.proofs.links.ask_all.Goals as goal

pub returns-in_err-text-clause-front : goal.returns-in_err-text-clause-front
returns-in_err-text-clause-front g c =
    front_by c.args.requests.now c.loop-request.request-index c.request-item.result _ _ _ c.loop-request-test.true c.request-item.is c.loop-request.invariant.sent c.in_err-text.ensures.front

pub returns-in_err-text-clause-no_reply : goal.returns-in_err-text-clause-no_reply
returns-in_err-text-clause-no_reply g c =
    λ e.
    let h = rw e at c.from_residual.ensures in
    ends_by c.args.requests.now c.loop-request.texts c.loop-request.request-index _ _ _ _ _ c.loop-request-test.true c.loop-request.invariant.each c.loop-request.invariant.short c.loop-request.invariant.received
    (c.in_err-text.ensures.no_reply (err_same _ _ (sym h.1)))

pub returns-in_err-push-clause-front : goal.returns-in_err-push-clause-front
returns-in_err-push-clause-front g c =
    front_by c.args.requests.now c.loop-request.request-index c.request-item.result _ _ _ c.loop-request-test.true c.request-item.is c.loop-request.invariant.sent (inr c.in_ok-text.ensures.reply.1)

pub loop-request-preserved : goal.loop-request-preserved
loop-request-preserved g c =
    let on = talked_on c.args.requests.now c.loop-request.texts c.push.new.self c.loop-request.request-index c.request-item.result c.in_ok-text.text (g.L.Link.sent c.args.link.now) (g.L.Link.sent c.loop-request.link) (g.L.Link.sent c.ask.new.link) (g.L.Link.received c.args.link.now) (g.L.Link.received c.loop-request.link) (g.L.Link.received c.ask.new.link) c.loop-request-test.true c.request-item.is c.in_ok-push.ensures.ok c.loop-request.invariant.each c.loop-request.invariant.short c.loop-request.invariant.sound c.loop-request.invariant.sent c.loop-request.invariant.received c.in_ok-text.ensures.reply in
    record {
      each = on.each;
      short = on.short;
      sound = on.sound;
      sent = on.sent_so;
      received = on.received_so;
      later = omega (arith, c.loop-request.invariant.later, c.ask.ensures.later);
    }
