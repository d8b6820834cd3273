use Rattle.std.proofs.Common.{sym}
use Rattle.sd_netgroup.proofs.Tools.{tells}
use Rattle.sd_netgroup.proofs.tool.ending_for.Goals as goal

pub returns-clause-ends : goal.returns-clause-ends
returns-clause-ends c = λ conf ldif are.
    c.told.ensures.ends conf ldif (tells conf ldif c.args.question.now c.args.inputs.now c.items.result.now c.in_ok-answer.answer c.items.ensures c.in_ok-answer.ensures are)
