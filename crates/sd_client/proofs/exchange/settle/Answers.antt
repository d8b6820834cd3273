use Rattle.sd_client.proofs.exchange.settle.Goals as goal

pub returns-in_err-found-clause-came : goal.returns-in_err-found-clause-came
returns-in_err-found-clause-came g c = c.await_reply.ensures.came

pub returns-in-Ended-clause-came : goal.returns-in-Ended-clause-came
returns-in-Ended-clause-came g c = c.await_reply.ensures.came

pub returns-in-Failed-clause-came : goal.returns-in-Failed-clause-came
returns-in-Failed-clause-came g c = c.await_reply.ensures.came
