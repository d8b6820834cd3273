use Rattle.std.proofs.Common.{◌≡◌, ◌+◌, ◌≤◌, length}
use Rattle.std.specs.Option.{option_copied, option_map_or}
use Rattle.sd_layout.specs.Head as heads
use Rattle.sd_lines.specs.Words as words
use Rattle.sd_layout.proofs.head.block_from.Given as goal

-- the lines left decide, with those so far
abbrev pub invariant-loop-left : goal.invariant-loop-left
invariant-loop-left l = record {
  told : heads.block_from l.first l.number l.origin (words.pieces_in 10 (option_copied l.left))
      ≡ heads.block_from l.first (l.first + 1) heads.block_origin (words.pieces_in 10 (option_copied l.lines));
  room : l.number + option_map_or (λ bytes. length bytes + 1) (option_copied l.left) 0 ≤ l.first + 1 + option_map_or (λ bytes. length bytes + 1) (option_copied l.lines) 0;
}

abbrev pub decreases-loop-left : goal.decreases-loop-left
decreases-loop-left l = option_map_or (λ bytes. length bytes + 1) (option_copied l.left) 0
