use Rattle.std.proofs.Common.{◌≡◌, ◌+◌, ◌++◌, map, filter, not, length}
use Rattle.std.specs.Option.{option_copied, option_map_or}
use Rattle.sd_lines.specs.Words as words
use Rattle.sd_lines.proofs.words.words_of.Given as goal

-- the words so far and those of the pieces left are those of the line
abbrev pub invariant-loop-left : goal.invariant-loop-left
invariant-loop-left l =
    map (λ w. w.now) l.ws.items ++ filter (λ w. not (words.is_empty w)) (words.pieces_in 32 (option_copied l.left)) ≡ words.words_of l.line

abbrev pub decreases-loop-left : goal.decreases-loop-left
decreases-loop-left l = option_map_or (λ bytes. length bytes + 1) (option_copied l.left) 0
