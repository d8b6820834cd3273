use Rattle.std.proofs.Common.{arith}
use Rattle.sd_voids.proofs.Halves.{newer_half, older_half}
use Rattle.sd_voids.proofs.entries.half.Goals as goal

pub returns-then-first-number-clause-searches : goal.returns-then-first-number-clause-searches
returns-then-first-number-clause-searches c =
    newer_half c.args.part.now c.split_at.result.0.now c.split_at.result.1.now c.index-newer-0.result c.args.number c.requires.falls c.split_at.ensures.by_index.0 (omega arith) c.index-newer-0.is c.if-first-number.true

pub returns-else-first-number-clause-searches : goal.returns-else-first-number-clause-searches
returns-else-first-number-clause-searches c =
    older_half c.args.part.now c.split_at.result.0.now c.split_at.result.1.now c.index-newer-0.result c.args.number c.requires.falls c.split_at.ensures.by_index.0 (omega arith) c.index-newer-0.is c.if-first-number.false
