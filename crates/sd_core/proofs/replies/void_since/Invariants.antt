use Rattle.std.proofs.Common.{◌≡◌, reverse, take}
use Rattle.sd_rules.specs.Steps as steps
use Rattle.sd_core.proofs.replies.void_since.Given as goal

-- what the entries before the place say is what all say
abbrev pub invariant-loop-place : goal.invariant-loop-place
invariant-loop-place l = steps.void_since (reverse (take l.place l.entries)) l.request l.own l.answered ≡ steps.void_since (reverse l.entries) l.request l.own l.answered
