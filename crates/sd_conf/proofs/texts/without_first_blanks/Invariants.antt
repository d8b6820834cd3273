use Rattle.std.proofs.Common.{◌≡◌, drop}
use Rattle.sd_conf.specs.Texts.{without_first_blanks}
use Rattle.sd_conf.proofs.texts.without_first_blanks.Given as goal

-- only blanks were passed
abbrev pub invariant-loop-at : goal.invariant-loop-at
invariant-loop-at l = without_first_blanks (drop l.at l.bytes) ≡ without_first_blanks l.bytes
