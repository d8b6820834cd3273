use Rattle.sd_idmap.proofs.Calls.{new_domain, new_slice, tables_after}
use Rattle.sd_idmap.proofs.slices.Slices.place.Goals as goal

pub put_both-requires-clause-new_domain : goal.put_both-requires-clause-new_domain
put_both-requires-clause-new_domain c = new_domain c.self.inside.by_domain.entries c.args.self.now c.args.domain c.self.view_is c.requires.new

pub put_both-requires-clause-new_slice : goal.put_both-requires-clause-new_slice
put_both-requires-clause-new_slice c =
    new_slice c.self.inside.by_domain.entries c.self.inside.by_slice.entries c.args.self.now c.args.domain c.args.slice c.self.invariant c.self.view_is c.requires.free c.requires.low

pub invariant_of-self : goal.invariant_of-self
invariant_of-self c =
    tables_after c.put_both.result c.self.inside.by_domain.entries c.self.inside.by_slice.entries c.put_both.new.by_domain.entries c.put_both.new.by_slice.entries c.args.self.now c.args.domain c.args.slice
    c.put_both.ensures.domains c.put_both.ensures.slices c.put_both.ensures.same_domains c.put_both.ensures.same_slices
    c.self.invariant c.self.view_is c.requires.new c.requires.free c.requires.room c.requires.low
