use Rattle.sd_sudo.proofs.Ends.{tells}
use Rattle.sd_sudo.proofs.tool.ending_for.Goals as goal

pub returns-clause-ends : goal.returns-clause-ends
returns-clause-ends c = λ conf ldif are.
    c.told.ensures.ends conf ldif c.args.user.now (tells conf ldif c.args.user.now c.args.inputs.now c.items.result.now _ c.items.ensures c.look-answer.ensures are)
