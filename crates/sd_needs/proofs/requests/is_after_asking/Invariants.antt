use Rattle.std.proofs.Common.{◌≡◌, reverse, take}
use Rattle.sd_rules.specs.Needed as needed
use Rattle.sd_needs.proofs.requests.is_after_asking.Given as goal

-- what the entries before the place say is what all say
abbrev pub invariant-loop-place : goal.invariant-loop-place
invariant-loop-place l =
    needed.is_after_asking (reverse l.all) l.number (reverse (take l.place l.all))
    ≡ needed.is_after_asking (reverse l.all) l.number (reverse l.all)
