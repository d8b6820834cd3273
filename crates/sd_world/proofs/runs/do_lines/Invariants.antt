use Rattle.std.proofs.Common.{◌≡◌, ◌+◌, ◌<◌, ◌^◌, length}
use Rattle.std.specs.Option.{option_copied, option_map_or}
use Rattle.sd_layout.specs.Blocks.{statements_of}
use Rattle.sd_lines.specs.Words as words
use Rattle.sd_world.specs.Transcript as script
use Rattle.sd_world.proofs.runs.do_lines.Given as goal

-- the lines left decide, and their numbers fit
abbrev pub invariant-loop-left : goal.invariant-loop-left
invariant-loop-left l = record {
  told : script.transcript_on l.world (statements_of l.number (words.pieces_in 10 (option_copied l.left)))
      ≡ script.transcript_on l.fn.world (statements_of l.first (words.pieces_in 10 (option_copied l.body)));
  room : l.number + option_map_or (λ bytes. length bytes + 1) (option_copied l.left) 0 < 2 ^ 33;
}

abbrev pub decreases-loop-left : goal.decreases-loop-left
decreases-loop-left l = option_map_or (λ bytes. length bytes + 1) (option_copied l.left) 0
