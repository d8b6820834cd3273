use Rattle.sd_dn.proofs.Places.{test_exact}
use Rattle.sd_dn.proofs.read.is_dn.Goals as goal

pub returns-clause-exact : goal.returns-clause-exact
returns-clause-exact c = test_exact c.args.text.now c.tested.result c.tested.ensures
