use Rattle.std.proofs.Common.{◌∙◌, ap, None, Some, cond, ◌==◌, arith}
use Rattle.std.specs.BTreeMap.{get}
use Rattle.std.specs.Ordering.{nat_cmp}
use Rattle.std.specs.Option.{option_map}
use Rattle.sd_table.specs.Table as table
use Rattle.sd_table.specs.Kept.{seen_tickets, ticket_of, waiting_count}
use Rattle.sd_table.proofs.Numbered.{waiting_count-le-length, at_number-insert_entry, at_number-map}
use Rattle.sd_table.proofs.Keeping.{kept_join, seen_join, new_ticket_number, ticket_count-IsCount, unanswered_open, table_of}
use Rattle.sd_table.proofs.requests.Requests.join.Goals as goal

pub add-requires-clause-new : goal.add-requires-clause-new
add-requires-clause-new c =
    new_ticket_number c.self.inside.keys.entries c.self.inside.tickets.entries (get nat_cmp c.self.inside.waited) c.args.ticket
    (ap (λ t. table.is_named t c.args.ticket) c.self.view_is ∙ c.requires.new)

pub add-requires-clause-few : goal.add-requires-clause-few
add-requires-clause-few c =
    omega (
      arith,
      ticket_count-IsCount (waiting_count c.self.inside.tickets.entries c.args.number) (get nat_cmp c.self.inside.waited c.args.number) (c.self.invariant.counted c.args.number),
      waiting_count-le-length c.self.inside.tickets.entries c.args.number,
    )

pub invariant_of-self-2 : goal.invariant_of-self-2
invariant_of-self-2 c =
    kept_join c.self.invariant c.args.number c.args.ticket c.add.new.tickets.entries (get nat_cmp c.add.new.waited)
    (ap (λ t. table.is_open_request t c.args.number) c.self.view_is ∙ c.requires.open_request)
    (new_ticket_number c.self.inside.keys.entries c.self.inside.tickets.entries (get nat_cmp c.self.inside.waited) c.args.ticket
    (ap (λ t. table.is_named t c.args.ticket) c.self.view_is ∙ c.requires.new))
    c.in_ok-add.ensures.tickets c.in_ok-add.ensures.waited

pub returns-clause-ok : goal.returns-clause-ok
returns-clause-ok c =
    ap (table_of c.self.inside.keys.entries)
    (seen_join c.self.inside.tickets.entries c.add.new.tickets.entries (get nat_cmp c.self.inside.waited) (get nat_cmp c.add.new.waited) c.args.number c.args.ticket
    c.in_ok-add.ensures.tickets c.in_ok-add.ensures.waited
    (unanswered_open c.self.invariant c.args.number (ap (λ t. table.is_open_request t c.args.number) c.self.view_is ∙ c.requires.open_request)))
    ∙ ap (table.with_ticket c.args.number c.args.ticket) c.self.view_is

pub returns-clause-each : goal.returns-clause-each
returns-clause-each c t =
    let ticket : table.Ticket = record { request = c.args.number; outcome = None } in
    let absent = new_ticket_number c.self.inside.keys.entries c.self.inside.tickets.entries (get nat_cmp c.self.inside.waited) c.args.ticket
    (ap (λ t. table.is_named t c.args.ticket) c.self.view_is ∙ c.requires.new) in
    ap (λ tickets. table.at_number tickets t)
    (seen_join c.self.inside.tickets.entries c.add.new.tickets.entries (get nat_cmp c.self.inside.waited) (get nat_cmp c.add.new.waited) c.args.number c.args.ticket
    c.in_ok-add.ensures.tickets c.in_ok-add.ensures.waited
    (unanswered_open c.self.invariant c.args.number (ap (λ t. table.is_open_request t c.args.number) c.self.view_is ∙ c.requires.open_request)))
    ∙ at_number-insert_entry (seen_tickets c.self.inside.tickets.entries (get nat_cmp c.self.inside.waited)) c.args.ticket ticket t
    (at_number-map (ticket_of (get nat_cmp c.self.inside.waited)) c.self.inside.tickets.entries c.args.ticket ∙ ap (option_map (ticket_of (get nat_cmp c.self.inside.waited))) absent)
    ∙ ap (λ v. cond (t == c.args.ticket) (Some ticket) (table.at_number v.tickets t)) c.self.view_is
