use Rattle.std.proofs.Common.{◌∙◌, ap, sym, cond, None}
use Rattle.std.specs.BTreeMap.{get}
use Rattle.std.specs.Ordering.{nat_cmp}
use Rattle.sd_table.specs.Kept as kept
use Rattle.sd_table.proofs.Numbered.{is_at_number, lookup-at_number}
use Rattle.sd_table.proofs.tickets.remove.Goals as goal

pub returns-in-Some-clause-each : goal.returns-in-Some-clause-each
returns-in-Some-clause-each c n =
    sym (lookup-at_number c.remove.new.self.entries n) ∙ c.remove.ensures.updates.0 n
    ∙ (λ i. cond (is_at_number c.args.ticket n i) None (lookup-at_number c.args.tickets.now.entries n i))

pub returns-in-Some-clause-waited : goal.returns-in-Some-clause-waited
returns-in-Some-clause-waited c n =
    c.count_down.ensures n
    ∙ ap (λ o. kept.after_leave o n (get nat_cmp c.args.waited.now n)) (c.in-Some.ensures.value ∙ lookup-at_number c.args.tickets.now.entries c.args.ticket)
