use Rattle.std.proofs.Common.{reverse, sym, ◌∙◌}
use Rattle.sd_voids.proofs.FallLaws.{falls_of}
use Rattle.sd_voids.proofs.entries.numbers_fall.Goals as goal

pub returns-clause-rise : goal.returns-clause-rise
returns-clause-rise c = λ h. falls_of c.args.next (reverse c.args.entries.now) (sym c.fall_from.ensures ∙ h)
