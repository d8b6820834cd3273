use Rattle.std.proofs.Common.{◌≡◌, ◌+◌, ◌≤◌, length}
use Rattle.std.specs.Option.{option_copied, option_map_or}
use Rattle.sd_idmap.specs.Lines as lines
use Rattle.sd_idmap.proofs.lines.first_bad.Given as goal

-- the lines so far have forms, and each has a byte at least, but for the last
abbrev pub invariant-loop-left : goal.invariant-loop-left
invariant-loop-left l =
    (lines.first_bad_from l.number (lines.lines_in (option_copied l.left)) ≡ lines.first_bad l.text)
    × (l.number + option_map_or (λ bytes. length bytes + 1) (option_copied l.left) 0 ≤ length l.text + 2)

abbrev pub decreases-loop-left : goal.decreases-loop-left
decreases-loop-left l = option_map_or (λ bytes. length bytes + 1) (option_copied l.left) 0
