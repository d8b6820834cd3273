use Rattle.std.proofs.Common.{reverse}
use Rattle.sd_past.proofs.KeptLaws.{kept_behind}
use Rattle.sd_past.proofs.rows.rows_of.Goals as goal

pub returns : goal.returns
returns c =
    kept_behind c.rows_behind.result c.args.next c.args.floor c.next_number.result c.least_moment.result (reverse c.args.whole.entries.now) c.next_number.ensures
    c.least_moment.ensures c.rows_behind.ensures
