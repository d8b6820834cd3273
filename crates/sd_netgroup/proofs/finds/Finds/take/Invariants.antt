use Rattle.std.proofs.Common.{◌≡◌, ◌||◌, drop}
use Rattle.std.specs.List.{flat_map}
use Rattle.sd_netgroup.specs.Named.{members_of, texts_of, spelled_by}
use Rattle.sd_netgroup.specs.Order.{with_triples}
use Rattle.sd_netgroup.specs.Rounds.{with_names, called_in, is_some}
use Rattle.sd_netgroup.proofs.finds.Finds.take.Given as goal

-- the entries that are left come to the same
abbrev pub invariant-loop-entry : goal.invariant-loop-entry
invariant-loop-entry l = record {
  names : with_names l.self.names.keys (flat_map members_of (called_in l.name (drop l.entry-index l.entries))) ≡ with_names l.fn.self.names.keys (flat_map members_of (called_in l.name l.entries));
  triples : with_triples l.self.triples.keys (spelled_by (flat_map texts_of (called_in l.name (drop l.entry-index l.entries)))) ≡ with_triples l.fn.self.triples.keys (spelled_by (flat_map texts_of (called_in l.name l.entries)));
  some : (l.self.is_some || is_some (called_in l.name (drop l.entry-index l.entries))) ≡ (l.fn.self.is_some || is_some (called_in l.name l.entries));
}
