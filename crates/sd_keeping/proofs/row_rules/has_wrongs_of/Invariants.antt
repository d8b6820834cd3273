use Rattle.std.proofs.Common.{◌≡◌, reverse, take}
use Rattle.std.specs.List.{list_any}
use Rattle.sd_rules.specs.KeptRows as kept
use Rattle.sd_keeping.proofs.row_rules.has_wrongs_of.Given as goal

-- what the rows before the place say is what all say
abbrev pub invariant-loop-place : goal.invariant-loop-place
invariant-loop-place l = list_any (kept.counts_wrongs_of l.user) (reverse (take l.place l.before)) ≡ list_any (kept.counts_wrongs_of l.user) (reverse l.before)
