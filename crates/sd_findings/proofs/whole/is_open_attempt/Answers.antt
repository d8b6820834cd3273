use Rattle.std.proofs.Common.{reverse}
use Rattle.sd_findings.proofs.whole.is_open_attempt.Goals as goal

pub returns : goal.returns
returns c = c.is_open_attempt.ensures (reverse c.args.whole.entries.now) c.requires
