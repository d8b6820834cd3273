use Rattle.std.proofs.Common.{◌∙◌, ap}
use Rattle.sd_index.specs.Outages.{standing_at}
use Rattle.sd_index.specs.Table.{Table}
use Rattle.sd_index.proofs.index.Index.outage_at.Goals as goal

pub returns : goal.returns
returns c = λ past is.
    c.standing_at.ensures ∙ ap (λ (t : Table). standing_at t.outage c.args.timeout c.args.moment) c.self.view_is ∙ is.outage.each c.args.timeout c.args.moment
