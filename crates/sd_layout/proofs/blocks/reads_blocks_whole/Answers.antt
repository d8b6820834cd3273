use Rattle.sd_layout.proofs.Whole.{has_blocks}
use Rattle.sd_layout.proofs.blocks.reads_blocks_whole.Goals as goal

pub returns : goal.returns
returns c = has_blocks
