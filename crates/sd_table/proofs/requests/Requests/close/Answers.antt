use Rattle.std.proofs.Common.{◌∙◌, ap, cond, None, ◌==◌}
use Rattle.std.specs.BTreeMap.{get}
use Rattle.std.specs.HashMap as hash
use Rattle.std.specs.Ordering.{nat_cmp}
use Rattle.std.specs.Option.{option_map}
use Rattle.sd_rules.specs.Keys.{same_key}
use Rattle.sd_table.specs.Table as table
use Rattle.sd_table.specs.Kept.{keys_equal, seen_tickets}
use Rattle.sd_table.proofs.Numbered.{at_number-map}
use Rattle.sd_rules.proofs.SameKeys.{keys_equal_is}
use Rattle.sd_table.proofs.KeysApart.{open_for-remove_entry}
use Rattle.sd_table.proofs.Keeping.{kept_close, seen_close, some_key, table_of}
use Rattle.sd_table.proofs.requests.Requests.close.Goals as goal

pub invariant_of-self : goal.invariant_of-self
invariant_of-self c =
    let n = c.args.number in
    let key = some_key (table.at_number c.self.inside.keys.entries n) (ap (λ t. table.is_open_request t n) c.self.view_is ∙ c.requires) in
    kept_close c.self.invariant n key.0 c.args.outcome c.remove.new.keys.entries (hash.get keys_equal c.remove.new.numbers) (get nat_cmp c.give.new.waited)
    key.1 c.remove.ensures.keys c.remove.ensures.each
    (λ k. c.remove.ensures.numbers key.0 k key.1 ∙ ap (λ b. cond b None (hash.get keys_equal c.self.inside.numbers k)) (keys_equal_is key.0 k))
    c.give.ensures

pub returns-clause-table : goal.returns-clause-table
returns-clause-table c =
    ap (λ requests. table_of requests (seen_tickets c.self.inside.tickets.entries (get nat_cmp c.give.new.waited))) c.remove.ensures.keys
    ∙ ap (table_of _)
    (seen_close c.self.inside.tickets.entries (get nat_cmp c.self.inside.waited) (get nat_cmp c.give.new.waited) c.args.number c.args.outcome c.self.invariant.counted c.give.ensures)
    ∙ ap (table.after_close c.args.number c.args.outcome) c.self.view_is

pub returns-clause-keys : goal.returns-clause-keys
returns-clause-keys c n = c.remove.ensures.each n ∙ ap (λ v. cond (n == c.args.number) None (table.at_number v.requests n)) c.self.view_is

pub returns-clause-numbers : goal.returns-clause-numbers
returns-clause-numbers c key k there =
    ap (λ requests. table.open_for requests k) c.remove.ensures.keys
    ∙ open_for-remove_entry c.self.inside.keys.entries c.args.number key k c.self.invariant.one (ap (λ v. table.at_number v.requests c.args.number) c.self.view_is ∙ there)
    ∙ ap (λ v. cond (same_key key k) None (table.open_for v.requests k)) c.self.view_is

pub returns-clause-each : goal.returns-clause-each
returns-clause-each c t =
    ap (λ tickets. table.at_number tickets t)
    (seen_close c.self.inside.tickets.entries (get nat_cmp c.self.inside.waited) (get nat_cmp c.give.new.waited) c.args.number c.args.outcome c.self.invariant.counted c.give.ensures)
    ∙ at_number-map (table.with_outcome c.args.number c.args.outcome) (seen_tickets c.self.inside.tickets.entries (get nat_cmp c.self.inside.waited)) t
    ∙ ap (λ v. option_map (table.with_outcome c.args.number c.args.outcome) (table.at_number v.tickets t)) c.self.view_is
