use Rattle.std.proofs.Common.{◌∙◌}
use Rattle.sd_index.proofs.TableLaws.{reserved_is}
use Rattle.sd_index.proofs.index.Index.reserved_places.Goals as goal

pub returns : goal.returns
returns c = λ past is. c.count.ensures ∙ reserved_is past c.args.self.now is
