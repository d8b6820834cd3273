use Rattle.std.proofs.Common.{arith}
use Rattle.sd_wire.proofs.FramesFound.{says_of}
use Rattle.sd_wire.proofs.frames.read_frame.Goals as goal

pub returns-clause-says : goal.returns-clause-says
returns-clause-says c = says_of c.frame_in.result c.args.bytes.now (λ i. let fits = c.type_inv.bytes i in omega arith) c.frame_in.ensures
