use Rattle.std.proofs.Common.{rules, ◌-◌, length, refl}
use Rattle.sd_hbac.proofs.Marking.{mark_of_none, mark_of_bytes}
use Rattle.sd_hbac.proofs.names.mark_of.Goals as goal

pub returns-then-is_empty-clause-value : goal.returns-then-is_empty-clause-value
returns-then-is_empty-clause-value c = mark_of_none c.args.name.now (search rules)

pub returns-clause-value : goal.returns-clause-value
returns-clause-value c =
    mark_of_bytes c.args.name.now (length c.args.name.now - 1) c.saturating_sub.result c.lowered_at.result c.lowered_at-2.result c.lowered_at-3.result
    refl (search rules) c.lowered_at.ensures c.lowered_at-2.ensures c.lowered_at-3.ensures
