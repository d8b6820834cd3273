use Rattle.std.proofs.Common.{◌≡◌, ◌+◌, ◌≤◌, length}
use Rattle.std.specs.Option.{option_copied, option_map_or}
use Rattle.sd_idmap.specs.Lines as lines
use Rattle.sd_idmap.specs.Transcript as script
use Rattle.sd_idmap.proofs.runs.printed_by.Given as goal

-- the lines that are left, done from here, come to what all lines come to
abbrev pub invariant-loop-left : goal.invariant-loop-left
invariant-loop-left l =
    (script.all_done (script.state_of l.run) (lines.lines_in (option_copied l.left)) ≡ script.all_done script.start (lines.lines_of l.text))
    × (l.run.count + option_map_or (λ bytes. length bytes + 1) (option_copied l.left) 0 ≤ length l.text + 1)

abbrev pub decreases-loop-left : goal.decreases-loop-left
decreases-loop-left l = option_map_or (λ bytes. length bytes + 1) (option_copied l.left) 0
