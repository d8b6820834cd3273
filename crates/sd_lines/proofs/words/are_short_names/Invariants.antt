use Rattle.std.proofs.Common.{◌≡◌, map, drop}
use Rattle.std.specs.List.{list_all}
use Rattle.sd_lines.specs.Words as words
use Rattle.sd_lines.proofs.words.are_short_names.Given as goal

-- the words left decide
abbrev pub invariant-loop-word : goal.invariant-loop-word
invariant-loop-word l =
    list_all words.is_short_name (map (λ w. w.now) (drop l.word-index l.ws)) ≡ list_all words.is_short_name (map (λ w. w.now) l.ws)
