use Rattle.std.proofs.Common.{reverse}
use Rattle.sd_findings.proofs.whole.is_open_request.Goals as goal

pub returns : goal.returns
returns c = c.is_open_request.ensures (reverse c.args.whole.entries.now) c.requires
