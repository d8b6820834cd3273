use Rattle.sd_wire.proofs.FramesAgain.{frame_again}
use Rattle.sd_wire.proofs.frames.reads_back.Goals as goal

pub returns : goal.returns
returns c = frame_again
