use Rattle.std.proofs.Common.{◌∙◌, ap, refl, cond, None, ◌==◌}
use Rattle.std.specs.BTreeMap.{get}
use Rattle.std.specs.Ordering.{nat_cmp}
use Rattle.sd_table.specs.Table as table
use Rattle.sd_table.specs.Kept.{seen_tickets}
use Rattle.sd_table.proofs.Keeping.{kept_leave, seen_leave, at_number-left, table_of}
use Rattle.sd_table.proofs.requests.Requests.leave.Goals as goal

pub invariant_of-self : goal.invariant_of-self
invariant_of-self c =
    kept_leave c.self.invariant c.args.ticket (table.at_number c.self.inside.tickets.entries c.args.ticket) c.remove.new.tickets.entries (get nat_cmp c.remove.new.waited)
    refl c.remove.ensures.tickets c.remove.ensures.waited

pub returns-clause-table : goal.returns-clause-table
returns-clause-table c =
    ap (table_of c.self.inside.keys.entries)
    (seen_leave c.self.inside.tickets.entries c.remove.new.tickets.entries (get nat_cmp c.self.inside.waited) (get nat_cmp c.remove.new.waited) c.args.ticket
    (table.at_number c.self.inside.tickets.entries c.args.ticket) c.self.invariant.counted refl c.remove.ensures.tickets c.remove.ensures.waited)
    ∙ ap (table.without_ticket c.args.ticket) c.self.view_is

pub returns-clause-each : goal.returns-clause-each
returns-clause-each c t =
    at_number-left c.self.inside.tickets.entries c.remove.new.tickets.entries (get nat_cmp c.self.inside.waited) (seen_tickets c.remove.new.tickets.entries (get nat_cmp c.remove.new.waited)) c.args.ticket t
    (seen_leave c.self.inside.tickets.entries c.remove.new.tickets.entries (get nat_cmp c.self.inside.waited) (get nat_cmp c.remove.new.waited) c.args.ticket
    (table.at_number c.self.inside.tickets.entries c.args.ticket) c.self.invariant.counted refl c.remove.ensures.tickets c.remove.ensures.waited)
    c.remove.ensures.tickets (c.remove.ensures.each t)
    ∙ ap (λ v. cond (t == c.args.ticket) None (table.at_number v.tickets t)) c.self.view_is
