use Rattle.std.proofs.Common.{◌≡◌, ◌++◌, List, take, map, Some, None}
use Rattle.std.specs.List.{flat_map}
use Rattle.sd_ldap.specs.declared.entry.DirEntry.{DirEntry}
use Rattle.sd_nested.specs.Asking.{Exchanged}
use Rattle.sd_nested.specs.Directions.{question_by, kept_by, leads_by, way_by}
use Rattle.sd_nested.proofs.rounds.ask_each.Given as goal

abbrev pub invariant-loop-dn : goal.invariant-loop-dn
invariant-loop-dn g l = record {
  tells : (told : List DirEntry) → g.S.Searcher.tells l.fn.searcher told → g.S.Searcher.tells l.searcher told;
  base : g.S.Searcher.base l.searcher ≡ g.S.Searcher.base l.fn.searcher;
  exchanged : Exchanged g.S.Searcher.went l.fn.searcher l.searcher None (Some (map (question_by l.direction) (take l.dn-index l.due)));
  kept : (told : List DirEntry) → g.S.Searcher.tells l.fn.searcher told → l.kept ≡ l.fn.kept ++ flat_map (kept_by l.direction) (flat_map (way_by told (g.S.Searcher.base l.fn.searcher) l.direction).answers (take l.dn-index l.due));
  onward : (told : List DirEntry) → g.S.Searcher.tells l.fn.searcher told → l.onward ≡ l.fn.onward ++ flat_map (leads_by l.direction) (flat_map (way_by told (g.S.Searcher.base l.fn.searcher) l.direction).answers (take l.dn-index l.due));
}
