use Rattle.std.proofs.Common.{◌≡◌, ◌+◌, ◌<◌, ◌≤◌, ◌^◌, [], length, Some}
use Rattle.std.specs.Option.{option_copied, option_map_or}
use Rattle.sd_layout.specs.Blocks as blocks
use Rattle.sd_lines.specs.Words as words
use Rattle.sd_layout.proofs.blocks.block_from.Given as goal

-- the lines left decide, with those so far
abbrev pub invariant-loop-left : goal.invariant-loop-left
invariant-loop-left l = record {
  told : blocks.statements_from l.number (Some l.block) (words.pieces_in 10 (option_copied l.left))
      ≡ blocks.statements_from (l.first + 1) (Some (record { first = l.first; text = [] })) (words.pieces_in 10 (option_copied l.lines));
  room : l.number + option_map_or (λ bytes. length bytes + 1) (option_copied l.left) 0 ≤ l.first + 1 + option_map_or (λ bytes. length bytes + 1) (option_copied l.lines) 0;
  shorter : option_map_or (λ bytes. length bytes + 1) (option_copied l.left) 0 ≤ option_map_or (λ bytes. length bytes + 1) (option_copied l.lines) 0;
  later : l.first < l.number;
  first : l.block.first ≡ l.first;
}

abbrev pub decreases-loop-left : goal.decreases-loop-left
decreases-loop-left l = option_map_or (λ bytes. length bytes + 1) (option_copied l.left) 0
