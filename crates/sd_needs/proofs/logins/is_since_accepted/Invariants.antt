use Rattle.std.proofs.Common.{◌≡◌, reverse, take}
use Rattle.sd_rules.specs.Needed as needed
use Rattle.sd_needs.proofs.logins.is_since_accepted.Given as goal

-- what the entries before the place say is what all say
abbrev pub invariant-loop-place : goal.invariant-loop-place
invariant-loop-place l =
    needed.is_since_accepted (reverse (take l.place l.entries)) l.user l.number
    ≡ needed.is_since_accepted (reverse l.entries) l.user l.number
