use Rattle.std.proofs.Common.{◌≡◌, take, reverse}
use Rattle.sd_conf.specs.Texts.{without_first_blanks}
use Rattle.sd_conf.proofs.texts.without_last_blanks.Given as goal

-- only blanks were passed, from the end
abbrev pub invariant-loop-at : goal.invariant-loop-at
invariant-loop-at l = without_first_blanks (reverse (take l.at l.bytes)) ≡ without_first_blanks (reverse l.bytes)
