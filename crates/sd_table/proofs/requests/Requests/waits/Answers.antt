use Rattle.std.proofs.Common.{◌∙◌, ap, sym}
use Rattle.std.specs.BTreeMap.{get}
use Rattle.std.specs.Ordering.{nat_cmp}
use Rattle.sd_table.specs.Table as table
use Rattle.sd_table.proofs.Numbered.{lookup-at_number}
use Rattle.sd_table.proofs.Keeping.{waits_for-seen}
use Rattle.sd_table.proofs.requests.Requests.waits.Goals as goal

pub returns : goal.returns
returns c =
    c.copied.ensures ∙ c.get.ensures.value ∙ lookup-at_number c.self.inside.tickets.entries c.args.ticket
    ∙ sym (waits_for-seen c.self.inside.keys.entries c.self.inside.tickets.entries (get nat_cmp c.self.inside.waited) c.args.ticket)
    ∙ ap (λ t. table.waits_for t c.args.ticket) c.self.view_is
