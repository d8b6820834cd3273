use Rattle.sd_fetch.proofs.RoundLaws.{tells_on, holders_told}
use Rattle.sd_fetch.proofs.rounds.RoundsSearcher.holders.Goals as goal

pub returns-clause-tells : goal.returns-clause-tells
returns-clause-tells g c = λ told k. tells_on _ _ _ _ _ _ told c.ask-searched.ensures.went c.if-self.false c.ends_rounds-self.ensures k

pub returns-clause-told : goal.returns-clause-told
returns-clause-told g c = λ told k. holders_told _ _ _ c.args.self.now.base.now c.args.dn.now _ _ _ told c.in-Ok.ensures.holders c.ask-searched.ensures.went c.if-self.false k
