use Rattle.std.proofs.Common.{◌≡◌, reverse, take}
use Rattle.sd_needs.specs.Looks as looks
use Rattle.sd_needs.proofs.tickets.serves_joined.Given as goal

-- what the entries before the place say is what all say
abbrev pub invariant-loop-place : goal.invariant-loop-place
invariant-loop-place l =
    looks.serves_joined (reverse l.all) l.number (reverse (take l.place l.all))
    ≡ looks.serves_joined (reverse l.all) l.number (reverse l.all)
