use Rattle.std.proofs.Common.{sym, subst, List, ℕ, Option}
use Rattle.sd_ldap.specs.declared.entry.DirEntry.{DirEntry}
use Rattle.sd_places.specs.Index.{IsIndex}
use Rattle.sd_places.specs.Naming.{IsNowhere, IsPlaceOf}
use Rattle.sd_places.proofs.Indexing.{index_cleared}
use Rattle.sd_places.proofs.Slots.{nowhere_stays}
use Rattle.sd_stub.proofs.directory.take_placed.Goals as goal

pub returns-in-Some-clause-index : goal.returns-in-Some-clause-index
returns-in-Some-clause-index c =
    subst (λ (ss : List (Option DirEntry)). IsIndex c.args.index.now ss) (sym c.clear.ensures.slots) (index_cleared c.args.index.now c.args.slots.now c.in-Some.place c.requires.index)

pub returns-in-None-clause-ok : goal.returns-in-None-clause-ok
returns-in-None-clause-ok c =
    nowhere_stays c.args.slots.now c.args.dn.now
    (subst (λ (ss : List (Option DirEntry)). IsNowhere ss c.args.dn.now) c.items.ensures (subst (λ (o : Option ℕ). IsPlaceOf c.items.result.now c.args.dn.now o) c.in-None.is c.in_ok-place.ensures))
