use Rattle.sd_places.proofs.Slots.{cleared_rest}
use Rattle.sd_places.proofs.keeping.clear.Goals as goal

pub returns-clause-rest : goal.returns-clause-rest
returns-clause-rest c = cleared_rest c.args.slots.now c.set.new.self c.args.place c.args.dn.now c.requires.alone c.set.ensures
