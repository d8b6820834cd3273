use Rattle.std.proofs.Common.{◌≡◌, reverse, take}
use Rattle.sd_rules.specs.Requests as requests
use Rattle.sd_journal.proofs.requests.outcome_of.Given as goal

-- what the entries before the place say is what all say
abbrev pub invariant-loop-place : goal.invariant-loop-place
invariant-loop-place l = requests.outcome_of (reverse (take l.place l.entries)) l.request ≡ requests.outcome_of (reverse l.entries) l.request
