use Rattle.std.proofs.Common.{◌≡◌, sym, subst}
use Rattle.std.specs.Prelude.{IfOk}
use Rattle.sd_rules.specs.declared.keys.Key.{Key}
use Rattle.sd_fetch.specs.Lookup.{found_as, found_from, with_groups, groups_in, user_of}
use Rattle.sd_fetch.proofs.nesting.found.Goals as goal

pub returns-in-GroupsOf-clause-found : goal.returns-in-GroupsOf-clause-found
returns-in-GroupsOf-clause-found g c = λ b is quiet d.
    subst (λ (k : Key). IfOk c.found_groups.result (λ fetched. fetched ≡ found_as c.args.config.now k b.entries c.args.entry.now)) (sym c.in-GroupsOf.is)
    (subst (λ (k : Key). IfOk c.found_groups.result (λ fetched. fetched ≡ found_from (with_groups (groups_in c.args.config.now b.entries c.args.entry.now)) (user_of c.args.config.now k c.args.entry.now))) c.in-GroupsOf.is
    (c.found_groups.ensures.found b is quiet d))
