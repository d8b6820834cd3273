use Rattle.std.proofs.Common.{◌≡◌}
use Rattle.sd_ldif.proofs.records.listed.Given as goal

-- the list so far
abbrev pub invariant-loop-attribute : goal.invariant-loop-attribute
invariant-loop-attribute l = l.list ≡ l.yielded
