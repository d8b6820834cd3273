use Rattle.std.proofs.Common.{◌≡◌, ◌+◌, ◌≤◌, length}
use Rattle.std.specs.Option.{option_copied, option_map_or}
use Rattle.sd_layout.specs.Head as heads
use Rattle.sd_lines.specs.Words as words
use Rattle.sd_layout.proofs.head.head_of.Given as goal

-- only lines that are passed over were
abbrev pub invariant-loop-left : goal.invariant-loop-left
invariant-loop-left l = record {
  told : heads.head_from l.number (words.pieces_in 10 (option_copied l.left)) ≡ heads.head_of l.text;
  room : l.number + option_map_or (λ bytes. length bytes + 1) (option_copied l.left) 0 ≤ length l.text + 2;
}

abbrev pub decreases-loop-left : goal.decreases-loop-left
decreases-loop-left l = option_map_or (λ bytes. length bytes + 1) (option_copied l.left) 0
