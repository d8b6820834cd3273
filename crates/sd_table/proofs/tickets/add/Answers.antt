use Rattle.std.proofs.Common.{◌∙◌, ap}
use Rattle.std.specs.Map.{remove_entry}
use Rattle.std.specs.BTreeMap.{is_at}
use Rattle.std.specs.Ordering.{nat_cmp}
use Rattle.sd_table.proofs.Numbered.{lookup-at_number, remove_entry-insert_entry}
use Rattle.sd_table.proofs.tickets.add.Goals as goal

pub returns-in-Err-clause-tickets_stay : goal.returns-in-Err-clause-tickets_stay
returns-in-Err-clause-tickets_stay c =
    c.remove.ensures.entries ∙ ap (remove_entry (is_at (nat_cmp c.args.ticket))) c.in_ok-insert.ensures.entries
    ∙ remove_entry-insert_entry _ _ _ (lookup-at_number c.args.tickets.now.entries c.args.ticket ∙ c.requires.new)
