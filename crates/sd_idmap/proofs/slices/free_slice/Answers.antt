use Rattle.sd_idmap.proofs.Calls.{free_first, free_second}
use Rattle.sd_idmap.proofs.slices.free_slice.Goals as goal

pub returns-in-Some : goal.returns-in-Some
returns-in-Some c = free_first c.args.taken.now.entries c.args.first c.in-Some.slice c.in-Some.ensures

pub returns-in-None : goal.returns-in-None
returns-in-None c = free_second c.args.taken.now.entries c.args.first c.first_free-in-None.result c.in-None.ensures c.first_free-in-None.ensures
