use Rattle.std.proofs.Common.{◌≡◌, ◌∙◌, sym, ap, List, Option, Some}
use Rattle.sd_ldap.specs.declared.entry.DirEntry.{DirEntry}
use Rattle.sd_places.specs.Naming.{if_there, place_named}
use Rattle.sd_places.proofs.Slots.{reserved_there}
use Rattle.sd_places.proofs.keeping.keep_named.Goals as goal

pub returns-in-Some-clause-place : goal.returns-in-Some-clause-place
returns-in-Some-clause-place c =
    let there : if_there c.args.slots.now (place_named c.args.names.now.entries c.args.name) ≡ Some c.in-Some.place =
    ap (λ (ss : List (Option DirEntry)). if_there ss (place_named c.args.names.now.entries c.args.name)) (sym c.items.ensures) ∙ sym c.place_there.ensures ∙ c.in-Some.is in
    reserved_there c.args.names.now.entries c.args.slots.now c.args.name c.args.placed.now c.in-Some.place c.requires.named c.requires.name there
