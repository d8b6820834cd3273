use Rattle.std.proofs.Common.{◌≡◌, ◌≤◌, ◌+◌, length, drop}
use Rattle.sd_ldap.specs.Values.{search_value}
use Rattle.sd_match.specs.Answering.{found}
use Rattle.sd_places.specs.Covers.{picked}
use Rattle.sd_stub.proofs.searching.count_found.Given as goal

-- those found so far, and those that are left
abbrev pub invariant-loop-place : goal.invariant-loop-place
invariant-loop-place l = (l.count + length (found (picked l.slots (drop l.place-index l.places)) (search_value l.request)) ≡ length (found (picked l.slots l.places) (search_value l.request))) × (l.count ≤ l.place-index)
