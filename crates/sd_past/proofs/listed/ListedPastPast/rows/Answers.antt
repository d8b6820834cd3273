use Rattle.sd_past.proofs.RowLaws.{kept_of_list}
use Rattle.sd_past.proofs.listed.ListedPastPast.rows.Goals as goal

pub returns : goal.returns
returns c =
    kept_of_list c.rows_of.result c.args.next c.args.floor c.as_slice.result.now c.self.inside.entries.items c.args.self.now c.as_slice.ensures.value c.self.view_is
    c.rows_of.ensures
