use Rattle.sd_ldap.proofs.Cuts.{stays}
use Rattle.sd_ldap.proofs.decoding.decode.Goals as goal

pub returns-clause-stays : goal.returns-clause-stays
returns-clause-stays c = stays c.args.bytes.now
