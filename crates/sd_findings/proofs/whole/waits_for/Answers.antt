use Rattle.std.proofs.Common.{reverse}
use Rattle.sd_findings.proofs.whole.waits_for.Goals as goal

pub returns : goal.returns
returns c = c.waits_for.ensures (reverse c.args.whole.entries.now) c.requires
