use Rattle.std.proofs.Common.{◌≡◌, ◌+◌, ◌≤◌, length}
use Rattle.std.specs.Option.{option_copied, option_map_or}
use Rattle.sd_layout.specs.Head as heads
use Rattle.sd_lines.specs.Words as words
use Rattle.sd_layout.proofs.head.settings_from.Given as goal

-- the lines left decide, with the settings so far
abbrev pub invariant-loop-left : goal.invariant-loop-left
invariant-loop-left l = record {
  told : heads.settings_from l.number l.origin (words.pieces_in 10 (option_copied l.left))
      ≡ heads.settings_from l.first heads.default_origin (words.pieces_in 10 (option_copied l.lines));
  room : l.number + option_map_or (λ bytes. length bytes + 1) (option_copied l.left) 0 ≤ l.first + option_map_or (λ bytes. length bytes + 1) (option_copied l.lines) 0;
}

abbrev pub decreases-loop-left : goal.decreases-loop-left
decreases-loop-left l = option_map_or (λ bytes. length bytes + 1) (option_copied l.left) 0
