use Rattle.std.proofs.Common.{◌≡◌, reverse, take}
use Rattle.sd_index.specs.Places.{running_in}
use Rattle.sd_index.proofs.places.running.Given as goal

-- the last of the places before this one is the last of all
abbrev pub invariant-loop-at : goal.invariant-loop-at
invariant-loop-at l = running_in (reverse (take l.at l.places)) l.key ≡ running_in (reverse l.places) l.key
