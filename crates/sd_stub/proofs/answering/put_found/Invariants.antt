use Rattle.std.proofs.Common.{◌≡◌, ◌++◌, take, drop}
use Rattle.sd_ldap.specs.Values.{search_value}
use Rattle.sd_match.specs.Answering.{found}
use Rattle.sd_places.specs.Covers.{picked}
use Rattle.sd_stub.specs.Replying.{entries_bytes}
use Rattle.sd_stub.proofs.answering.put_found.Given as goal

-- those put so far, and those that are still put
abbrev pub invariant-loop-place : goal.invariant-loop-place
invariant-loop-place l =
    l.out.items ++ entries_bytes l.id (search_value l.request) (take l.left (found (picked l.slots (drop l.place-index l.places)) (search_value l.request)))
    ≡ l.fn.out.items ++ entries_bytes l.id (search_value l.request) (take l.limit (found (picked l.slots l.places) (search_value l.request)))
