use Rattle.std.proofs.Common.{sym, arith}
use Rattle.sd_client.proofs.Sizes.{framed_waits}
use Rattle.sd_client.proofs.step.waits_behind.Goals as goal

pub returns-then-header-le-MAX_LENGTH : goal.returns-then-header-le-MAX_LENGTH
returns-then-header-le-MAX_LENGTH c = framed_waits c.args.bytes.now c.in-Ok.header (sym c.in-Ok.ensures.exact) (omega arith)
