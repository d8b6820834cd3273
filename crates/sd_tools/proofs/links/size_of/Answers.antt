use Rattle.std.proofs.Common.{arith}
use Rattle.std.proofs.lemmas.Nat.{be_bytes_4}
use Rattle.sd_tools.proofs.links.size_of.Goals as goal

pub returns-clause-octets : goal.returns-clause-octets
returns-clause-octets c =
    be_bytes_4 c.args.octets.now _ c.requires (λ i. let fits = c.type_inv.octets i in omega arith) c.number_of_four.ensures
