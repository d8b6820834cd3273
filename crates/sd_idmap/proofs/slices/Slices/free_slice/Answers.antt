use Rattle.sd_idmap.proofs.Calls.{free_found}
use Rattle.sd_idmap.proofs.slices.Slices.free_slice.Goals as goal

pub returns-clause-found : goal.returns-clause-found
returns-clause-found c =
    free_found c.self.inside.by_domain.entries c.args.self.now c.args.first c.free_slice.result c.self.view_is
    (c.free_slice.ensures c.self.inside.by_domain.entries c.self.invariant.turned_is)
