use Rattle.std.proofs.Common.{◌++◌, ◌∷◌, [], Option, sym, subst}
use Rattle.sd_ldap.specs.declared.entry.DirEntry.{DirEntry}
use Rattle.sd_places.specs.Index.{IsIndex}
use Rattle.sd_places.proofs.Indexing.{index_next, index_hole}
use Rattle.sd_places.proofs.index.Index.put_next.Goals as goal

pub returns-in_ok-put_entry-in-Some : goal.returns-in_ok-put_entry-in-Some
returns-in_ok-put_entry-in-Some c =
    λ slots at is.
    subst (λ (o : Option DirEntry). IsIndex c.put_entry.new.self (slots ++ o ∷ [])) (sym c.in-Some.is) (index_next c.put_entry.new.self c.args.self.now slots c.in-Some.placed c.args.place at c.in_ok-put_entry-in-Some.ensures.ok is)

pub returns-in-None : goal.returns-in-None
returns-in-None c = λ slots at is. subst (λ (o : Option DirEntry). IsIndex c.args.self.now (slots ++ o ∷ [])) (sym c.in-None.is) (index_hole c.args.self.now slots is)
