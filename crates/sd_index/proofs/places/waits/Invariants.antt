use Rattle.std.proofs.Common.{◌≡◌, drop}
use Rattle.sd_index.specs.Places.{waits_in}
use Rattle.sd_index.proofs.places.waits.Given as goal

-- the tickets from this place on are those that are sought
abbrev pub invariant-loop-place : goal.invariant-loop-place
invariant-loop-place l = waits_in (drop l.place-index l.places) l.ticket ≡ waits_in l.places l.ticket
