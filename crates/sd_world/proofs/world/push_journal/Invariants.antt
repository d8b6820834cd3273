use Rattle.std.proofs.Common.{◌≡◌, ◌++◌, drop}
use Rattle.sd_world.specs.Prints as prints
use Rattle.sd_world.proofs.world.push_journal.Given as goal

-- what was appended, and then the lines of the entries left, are all lines
abbrev pub invariant-loop-entry : goal.invariant-loop-entry
invariant-loop-entry l = l.out.items ++ prints.journal_text (drop l.entry-index l.entries) ≡ l.fn.out.items ++ prints.journal_text l.entries
