use Rattle.std.proofs.Common.{◌≡◌, map, take}
use Rattle.sd_lines.proofs.words.texts_of.Given as goal

-- the texts of the words so far
abbrev pub invariant-loop-word : goal.invariant-loop-word
invariant-loop-word l = l.texts ≡ map (λ w. w.now) (take l.word-index l.ws)
