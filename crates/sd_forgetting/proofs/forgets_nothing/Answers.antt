use Rattle.sd_forgetting.proofs.Runs.{forgets_nothing}
use Rattle.sd_forgetting.proofs.forgets_nothing.Goals as goal

pub returns : goal.returns
returns c = forgets_nothing
