use Rattle.sd_dn.proofs.Places.{one_meaning}
use Rattle.sd_dn.proofs.read.one_dn.Goals as goal

pub returns : goal.returns
returns c = λ text a b p q. one_meaning text a b p q
