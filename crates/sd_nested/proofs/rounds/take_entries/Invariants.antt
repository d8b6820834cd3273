use Rattle.std.proofs.Common.{◌≡◌, ◌++◌, take}
use Rattle.std.specs.List.{flat_map}
use Rattle.sd_nested.specs.Directions.{kept_by, leads_by}
use Rattle.sd_nested.proofs.rounds.take_entries.Given as goal

abbrev pub invariant-loop-entry : goal.invariant-loop-entry
invariant-loop-entry l = record {
  kept : l.kept ≡ l.fn.kept ++ flat_map (kept_by l.direction) (take l.entry-index l.entries);
  onward : l.onward ≡ l.fn.onward ++ flat_map (leads_by l.direction) (take l.entry-index l.entries);
}
