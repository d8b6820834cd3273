use Rattle.sd_places.proofs.Slots.{filled_put}
use Rattle.sd_places.proofs.keeping.fill.Goals as goal

pub returns-clause-put : goal.returns-clause-put
returns-clause-put c = filled_put c.args.names.now.entries c.args.slots.now c.set.new.self c.args.place c.args.placed c.requires.kept c.set.ensures
