use Rattle.std.proofs.Common.{List, Option, sym, subst}
use Rattle.sd_ldap.specs.declared.entry.DirEntry.{DirEntry}
use Rattle.sd_places.specs.Naming.{AreNamed, IsReserved}
use Rattle.sd_places.proofs.Slots.{named_fresh, reserved_fresh}
use Rattle.sd_places.proofs.keeping.keep_behind.Goals as goal

pub returns-clause-named : goal.returns-clause-named
returns-clause-named c =
    subst (λ (ss : List (Option DirEntry)). AreNamed c.insert.new.self.entries ss) (sym c.in_ok-push.ensures.ok)
    (named_fresh c.args.names.now.entries c.insert.new.self.entries c.args.slots.now c.args.name c.len-place.result c.len-place.ensures c.in_ok-insert.ensures.entries c.requires.named c.requires.none)

pub returns-clause-place : goal.returns-clause-place
returns-clause-place c =
    subst (λ (ss : List (Option DirEntry)). IsReserved c.insert.new.self.entries ss c.len-place.result c.args.placed.now) (sym c.in_ok-push.ensures.ok)
    (reserved_fresh c.args.names.now.entries c.insert.new.self.entries c.args.slots.now c.args.name c.len-place.result c.len-place.ensures c.in_ok-insert.ensures.entries c.requires.named c.requires.none c.args.placed.now c.requires.name)
