use Rattle.std.proofs.Common.{◌≡◌, ◌<◌, List, length, drop, Option}
use Rattle.sd_ldap.specs.declared.entry.DirEntry.{DirEntry}
use Rattle.sd_places.specs.Index.{with_numbers, IsIndex}
use Rattle.sd_places.proofs.index.Index.put_all.Given as goal

-- those that are left are still put, and it stays an index of what it was one of
abbrev pub invariant-loop-number : goal.invariant-loop-number
invariant-loop-number l = record {
  left : with_numbers l.self l.place (drop l.number-index l.numbers) ≡ with_numbers l.fn.self l.place l.numbers;
  still : (slots : List (Option DirEntry)) → l.place < length slots → IsIndex l.fn.self slots → IsIndex l.self slots;
}
