use Rattle.sd_fetch.proofs.RoundLaws.{tells_on, read_told}
use Rattle.sd_fetch.proofs.rounds.RoundsSearcher.read.Goals as goal

pub returns-clause-tells : goal.returns-clause-tells
returns-clause-tells g c = λ told k. tells_on _ _ _ _ _ _ told c.ask-searched.ensures.went c.if-self.false c.ends_rounds-self.ensures k

pub returns-clause-told : goal.returns-clause-told
returns-clause-told g c = λ told k. read_told _ _ _ c.args.dn.now _ _ _ told c.in-Ok.ensures.read c.ask-searched.ensures.went c.if-self.false k
