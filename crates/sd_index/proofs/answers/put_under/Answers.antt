use Rattle.std.proofs.Common.{reverse, Some, None}
use Rattle.sd_cache.proofs.Puts.{on_ok, holds_other}
use Rattle.sd_index.proofs.AnswerLaws.{answer_keyed}
use Rattle.sd_index.proofs.answers.put_under.Goals as goal

pub returns-in-Some-clause-ok : goal.returns-in-Some-clause-ok
returns-in-Some-clause-ok c =
    on_ok c.put.result _ _
    (λ put is holds. put (reverse c.args.before.now) c.args.entry.now (answer_keyed (reverse c.args.before.now) c.args.entry.now c.args.request c.args.answered.now (Some c.in-Some.own.now) is c.in-Some.ensures) holds)
    c.put.ensures.journal

pub returns-in-None-clause-ok : goal.returns-in-None-clause-ok
returns-in-None-clause-ok c = λ is holds.
    holds_other (reverse c.args.before.now) c.args.entry.now c.args.cache.now (answer_keyed (reverse c.args.before.now) c.args.entry.now c.args.request c.args.answered.now None is c.in-None.ensures) holds
