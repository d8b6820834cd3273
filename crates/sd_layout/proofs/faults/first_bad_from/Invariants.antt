use Rattle.std.proofs.Common.{◌≡◌, ◌+◌, ◌≤◌, length}
use Rattle.std.specs.Option.{option_copied, option_map_or}
use Rattle.sd_layout.specs.Blocks as blocks
use Rattle.sd_layout.specs.Faults as faults
use Rattle.sd_lines.specs.Words as words
use Rattle.sd_layout.proofs.faults.first_bad_from.Given as goal

-- the lines left decide, the first of them having the number
abbrev pub invariant-loop-left : goal.invariant-loop-left
invariant-loop-left l = record {
  told : faults.first_bad_in l.scope (blocks.statements_of l.number (words.pieces_in 10 (option_copied l.left)))
      ≡ faults.first_bad_in (record { servers = l.servers; tasks = 0 }) (blocks.statements_of l.first (words.pieces_in 10 (option_copied l.body)));
  room : l.number + option_map_or (λ bytes. length bytes + 1) (option_copied l.left) 0 ≤ l.first + option_map_or (λ bytes. length bytes + 1) (option_copied l.body) 0;
  tasks : l.scope.tasks ≤ l.number;
}

abbrev pub decreases-loop-left : goal.decreases-loop-left
decreases-loop-left l = option_map_or (λ bytes. length bytes + 1) (option_copied l.left) 0
