use Rattle.std.proofs.Common.{reverse, ◌∙◌, ap}
use Rattle.sd_rules.specs.Past.{newest}
use Rattle.sd_findings.specs.Findings.{is_number_kept}
use Rattle.sd_findings.proofs.FindingLaws.{number_kept}
use Rattle.sd_findings.proofs.answers.is_newest_of_own.Goals as goal

pub returns : goal.returns
returns c =
    c.is_found_kept.ensures
    ∙ ap (is_number_kept c.args.number) (c.newest_behind-found.ensures (reverse c.args.whole.entries.now) c.requires)
    ∙ number_kept c.args.number (newest (reverse c.args.whole.entries.now) c.args.key.now)
