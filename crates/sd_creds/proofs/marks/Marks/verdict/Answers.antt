use Rattle.std.proofs.Common.{◌∙◌, sym, subst}
use Rattle.sd_creds.specs.declared.marks.Mark.{Mark}
use Rattle.sd_creds.specs.Marks.{IsMarkOf}
use Rattle.sd_creds.proofs.Journal.{verdict_of_journal}
use Rattle.sd_creds.proofs.marks.Marks.verdict.Goals as goal

pub returns-clause-journal : goal.returns-clause-journal
returns-clause-journal c = λ past is.
    c.verdict_of.ensures
    ∙ verdict_of_journal c.args.settings.now c.args.moment past c.args.user.now c.mark-mark.result
    (subst (λ (m : Mark). IsMarkOf past c.args.user.now m) (sym c.mark-mark.ensures) is) c.args.named c.args.right
