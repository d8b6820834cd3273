use Rattle.std.proofs.Common.{◌∙◌, ap}
use Rattle.std.specs.Map.{remove_entry}
use Rattle.std.specs.BTreeMap.{is_at}
use Rattle.std.specs.Ordering.{nat_cmp}
use Rattle.sd_table.proofs.Numbered.{lookup-at_number, remove_entry-insert_entry}
use Rattle.sd_table.proofs.keys.add.Goals as goal

pub returns-in-Err-clause-keys_stay : goal.returns-in-Err-clause-keys_stay
returns-in-Err-clause-keys_stay c =
    c.remove.ensures.entries ∙ ap (remove_entry (is_at (nat_cmp c.args.number))) c.in_ok-insert.ensures.entries
    ∙ remove_entry-insert_entry _ _ _ (lookup-at_number c.args.keys.now.entries c.args.number ∙ c.requires)
