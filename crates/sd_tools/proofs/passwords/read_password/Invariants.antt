use Rattle.std.proofs.Common.{◌≤◌, ◌-◌, length}
use Rattle.sd_tools.specs.Lines.{SoFar}
use Rattle.sd_tools.proofs.passwords.read_password.Given as goal

-- the line so far goes on with what is left
abbrev pub invariant-loop-alloc : goal.invariant-loop-alloc
invariant-loop-alloc g l =
    record {
      told : SoFar (g.S.Source.left l.fn.source) (g.S.Source.left l.source) l.line.items;
      later : g.S.Source.faults l.fn.source ≤ g.S.Source.faults l.source;
      within : length l.line.items ≤ 1025;
    }

abbrev pub decreases-loop-alloc : goal.decreases-loop-alloc
decreases-loop-alloc g l = 1025 - length l.line.items
