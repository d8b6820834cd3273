use Rattle.sd_index.proofs.KeptLaws.{kept_indexes}
use Rattle.sd_index.proofs.index.Index.remake.Goals as goal

pub returns : goal.returns
returns c = λ whole is kept made. kept_indexes whole c.args.self.now c.put.new.self c.args.remade is kept made c.put.ensures
