use Rattle.sd_ldap.proofs.MessageAgain.{decoded_again}
use Rattle.sd_ldap.proofs.encoding.decodes_back.Goals as goal

pub returns : goal.returns
returns c = decoded_again
