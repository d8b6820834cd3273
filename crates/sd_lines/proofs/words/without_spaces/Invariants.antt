use Rattle.std.proofs.Common.{◌≡◌, drop}
use Rattle.sd_lines.specs.Words as words
use Rattle.sd_lines.proofs.words.without_spaces.Given as goal

-- only spaces were passed
abbrev pub invariant-loop-at : goal.invariant-loop-at
invariant-loop-at l = words.without_spaces (drop l.at l.line) ≡ words.without_spaces l.line
