use Rattle.std.proofs.Common.{◌≡◌, drop}
use Rattle.std.specs.Option.{option_map}
use Rattle.sd_rules.specs.Access as access
use Rattle.sd_hbac.specs.Seen as seen
use Rattle.sd_hbac.proofs.rules.least_matching.Given as goal

-- the least of the rules from the place on
abbrev pub invariant-loop-place : goal.invariant-loop-place
invariant-loop-place l = option_map seen.placed l.least ≡ access.least_matching l.services (seen.asker l.who) l.place (drop l.place l.rules)
