use Rattle.std.proofs.Common.{◌∙◌}
use Rattle.sd_match.proofs.Digits.{unlimited}
use Rattle.sd_match.proofs.numbers.value_of.Goals as goal

pub returns : goal.returns
returns c = c.value_of.ensures ∙ unlimited c.args.digits.now c.requires
