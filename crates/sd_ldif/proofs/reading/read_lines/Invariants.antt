use Rattle.std.proofs.Common.{◌≡◌, ◌+◌, length}
use Rattle.std.specs.Option.{option_copied, option_map_or}
use Rattle.sd_ldif.specs.Lines.{lines_of, lines_left}
use Rattle.sd_ldif.specs.Reading.{run, run_all, seen_reader}
use Rattle.sd_ldif.proofs.reading.read_lines.Given as goal

-- what is left, read from here, gives what the whole text gives
abbrev pub invariant-loop-left : goal.invariant-loop-left
invariant-loop-left l = run (seen_reader l.reader) (lines_left (option_copied l.left)) ≡ run_all (lines_of l.text)

abbrev pub decreases-loop-left : goal.decreases-loop-left
decreases-loop-left l = option_map_or (λ bytes. length bytes + 1) (option_copied l.left) 0
