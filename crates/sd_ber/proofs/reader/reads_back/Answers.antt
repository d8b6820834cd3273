use Rattle.sd_ber.proofs.Elements.{reads_back_lem}
use Rattle.sd_ber.proofs.reader.reads_back.Goals as goal

pub returns : goal.returns
returns c = reads_back_lem
