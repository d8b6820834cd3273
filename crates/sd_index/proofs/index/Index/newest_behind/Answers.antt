use Rattle.std.proofs.Common.{◌∙◌, ap}
use Rattle.sd_cache.specs.Cache.{newest_in}
use Rattle.sd_index.specs.Table.{Table}
use Rattle.sd_index.proofs.index.Index.newest_behind.Goals as goal

pub returns : goal.returns
returns c = λ past is.
    c.newest_behind.ensures ∙ ap (λ (t : Table). newest_in t.answers c.args.key.now) c.self.view_is ∙ is.answers.each c.args.key.now
