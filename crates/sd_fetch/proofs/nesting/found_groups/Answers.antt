use Rattle.std.proofs.Common.{List, ap, ◌∙◌}
use Rattle.sd_rules.specs.declared.records.GroupRef.{GroupRef}
use Rattle.sd_fetch.specs.Lookup.{found_from, with_groups, user_of}
use Rattle.sd_fetch.proofs.nesting.found_groups.Goals as goal

pub returns-clause-found : goal.returns-clause-found
returns-clause-found g c = λ b is quiet d.
    c.in_ok-groups_found.ensures ∙ ap (λ (groups : List GroupRef). found_from (with_groups groups) (user_of c.args.config.now c.args.key.now c.args.entry.now)) (c.in_ok-groups.ensures.groups b is quiet d)
