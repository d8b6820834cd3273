use Rattle.sd_client.proofs.Stable.{decided_stable}
use Rattle.sd_client.proofs.client.decides_once.Goals as goal

pub returns : goal.returns
returns c = decided_stable
