use Rattle.std.proofs.Common.{◌≡◌, take}
use Rattle.sd_past.proofs.room.copied.Given as goal

-- those before are copied
abbrev pub invariant-loop-entry : goal.invariant-loop-entry
invariant-loop-entry l = l.made.items ≡ take l.entry-index l.entries
