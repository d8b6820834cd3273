use Rattle.std.proofs.Common.{◌≡◌, reverse, take}
use Rattle.sd_rules.specs.Past as past
use Rattle.sd_needs.specs.Places as places
use Rattle.sd_needs.proofs.answers.newest_named.Given as goal

-- what the entries before the place say is what all say
abbrev pub invariant-loop-place : goal.invariant-loop-place
invariant-loop-place l =
    past.newest (reverse (take l.place l.entries)) (places.key_named l.named) ≡ past.newest (reverse l.entries) (places.key_named l.named)
