use Rattle.std.proofs.Common.{◌≡◌, ◌∙◌, ap, cond, Some, None, false, ◌==◌}
use Rattle.std.specs.BTreeMap.{get}
use Rattle.std.specs.HashMap as hash
use Rattle.std.specs.Ordering.{nat_cmp}
use Rattle.sd_rules.specs.Keys.{same_key}
use Rattle.sd_table.specs.Table as table
use Rattle.sd_table.specs.Kept.{keys_equal, seen_tickets}
use Rattle.sd_table.proofs.Numbered.{at_number-insert_entry}
use Rattle.sd_rules.proofs.SameKeys.{keys_equal_is}
use Rattle.sd_table.proofs.KeysApart.{open_for-insert_entry}
use Rattle.sd_table.proofs.Keeping.{kept_lead, new_request, new_waited, table_of}
use Rattle.sd_table.proofs.requests.Requests.lead.Goals as goal

pub invariant_of-self-2 : goal.invariant_of-self-2
invariant_of-self-2 c =
    let n = c.args.number in
    let key = c.args.key.now in
    let keys = c.self.inside.keys.entries in
    let tickets = c.self.inside.tickets.entries in
    let waited = get nat_cmp c.self.inside.waited in
    let new : table.is_named (table_of keys (seen_tickets tickets waited)) n ≡ false = ap (λ t. table.is_named t n) c.self.view_is ∙ c.requires.new in
    let free : table.open_for keys key ≡ None = ap (λ t. table.open_for t.requests key) c.self.view_is ∙ c.requires.free in
    kept_lead c.self.invariant n key c.add.new.keys.entries (hash.get keys_equal c.add.new.numbers)
    (new_request keys tickets waited n new) free (new_waited keys tickets waited n new c.self.invariant.counted) c.in_ok-add.ensures.keys
    (λ k. c.in_ok-add.ensures.numbers k ∙ ap (λ b. cond b (Some n) (hash.get keys_equal c.self.inside.numbers k)) (keys_equal_is key k))

pub returns-clause-keys : goal.returns-clause-keys
returns-clause-keys c n =
    let new : table.is_named (table_of c.self.inside.keys.entries (seen_tickets c.self.inside.tickets.entries (get nat_cmp c.self.inside.waited))) c.args.number ≡ false =
    ap (λ t. table.is_named t c.args.number) c.self.view_is ∙ c.requires.new in
    ap (λ requests. table.at_number requests n) c.in_ok-add.ensures.keys
    ∙ at_number-insert_entry c.self.inside.keys.entries c.args.number c.args.key.now n
    (new_request c.self.inside.keys.entries c.self.inside.tickets.entries (get nat_cmp c.self.inside.waited) c.args.number new)
    ∙ ap (λ v. cond (n == c.args.number) (Some c.args.key.now) (table.at_number v.requests n)) c.self.view_is

pub returns-clause-numbers : goal.returns-clause-numbers
returns-clause-numbers c k =
    let new : table.is_named (table_of c.self.inside.keys.entries (seen_tickets c.self.inside.tickets.entries (get nat_cmp c.self.inside.waited))) c.args.number ≡ false =
    ap (λ t. table.is_named t c.args.number) c.self.view_is ∙ c.requires.new in
    ap (λ requests. table.open_for requests k) c.in_ok-add.ensures.keys
    ∙ open_for-insert_entry c.self.inside.keys.entries c.args.number c.args.key.now k
    (new_request c.self.inside.keys.entries c.self.inside.tickets.entries (get nat_cmp c.self.inside.waited) c.args.number new)
    (ap (λ t. table.open_for t.requests c.args.key.now) c.self.view_is ∙ c.requires.free)
    ∙ ap (λ v. cond (same_key c.args.key.now k) (Some c.args.number) (table.open_for v.requests k)) c.self.view_is
