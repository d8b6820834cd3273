use Rattle.std.proofs.Common.{◌∙◌}
use Rattle.sd_keeper.proofs.RowCodes.{hash_kind}
use Rattle.sd_keeper.proofs.rows.holds_hash.Goals as goal

pub returns : goal.returns
returns c = λ row e. c.begins_as_hash.ensures ∙ hash_kind row c.args.blob.now e
