use Rattle.std.proofs.Common.{◌≡◌, ◌∙◌, ap, sym, cond, None}
use Rattle.std.specs.HashMap as table
use Rattle.sd_table.specs.Kept.{keys_equal}
use Rattle.sd_table.proofs.Numbered.{is_at_number, lookup-at_number, some_same}
use Rattle.sd_table.proofs.keys.remove.Goals as goal

pub returns-in-Some-clause-each : goal.returns-in-Some-clause-each
returns-in-Some-clause-each c n =
    sym (lookup-at_number c.remove.new.self.entries n) ∙ c.remove.ensures.updates.0 n
    ∙ (λ i. cond (is_at_number c.args.number n i) None (lookup-at_number c.args.keys.now.entries n i))

pub returns-in-Some-clause-numbers : goal.returns-in-Some-clause-numbers
returns-in-Some-clause-numbers c key k there =
    let same : c.in-Some.key ≡ key = some_same _ _ (c.in-Some.ensures.value ∙ lookup-at_number c.args.keys.now.entries c.args.number ∙ there) in
    c.drop_number.ensures k ∙ ap (λ x. cond (keys_equal x k) None (table.get keys_equal c.args.numbers.now k)) same
