use Rattle.std.proofs.Common.{Ok, ap, ◌∙◌, arith}
use Rattle.sd_client.proofs.Arrivals.{comes_from}
use Rattle.sd_client.proofs.Decisions.{reply_earlier, rose_earlier}
use Rattle.sd_client.proofs.exchange.exchange.Goals as goal

pub returns-then-sent-clause-unsent : goal.returns-then-sent-clause-unsent
returns-then-sent-clause-unsent g c = λ e. absurd (omega (arith, c.settle.ensures.next, e))

pub returns-then-sent-clause-sent : goal.returns-then-sent-clause-sent
returns-then-sent-clause-sent g c = λ e. record {
  sent = c.settle.ensures.sent ∙ c.in_ok-sent.ensures.sent (ap Ok c.if-sent.true);
  asked = c.settle.ensures.asked ∙ c.in_ok-sent.ensures.asked (ap Ok c.if-sent.true);
  came = comes_from _ _ _ _ _ _ _ _ c.in_ok-sent.ensures.received (c.in_ok-sent.ensures.coming (ap Ok c.if-sent.true)) c.settle.ensures.came;
}

pub returns-then-sent-clause-reply : goal.returns-then-sent-clause-reply
returns-then-sent-clause-reply g c = λ e. reply_earlier c.settle.result _ _ _ _ (λ rose. (rose_earlier _ _ _ c.in_ok-sent.ensures.later rose.0, rose.1)) c.settle.ensures.reply
