use Rattle.std.proofs.Common.{◌≡◌, List, map, None}
use Rattle.std.specs.List.{flat_map}
use Rattle.sd_ldap.specs.declared.entry.DirEntry.{DirEntry}
use Rattle.sd_nested.specs.Asking.{ExchangedOver}
use Rattle.sd_nested.specs.Rounds.{rounds, beginning}
use Rattle.sd_nested.specs.Directions.{question_by, kept_by, way_by}
use Rattle.sd_nested.proofs.rounds.go_rounds.Given as goal

abbrev pub invariant-loop-round : goal.invariant-loop-round
invariant-loop-round g l = record {
  tells : (told : List DirEntry) → g.S.Searcher.tells l.fn.searcher told → g.S.Searcher.tells l.searcher told;
  base : g.S.Searcher.base l.searcher ≡ g.S.Searcher.base l.fn.searcher;
  exchanged : ExchangedOver g.S.Searcher.went l.fn.searcher l.searcher None (g.S.Searcher.tells l.fn.searcher) (λ told. map (question_by l.direction) (rounds (way_by told (g.S.Searcher.base l.fn.searcher) l.direction) (beginning l.fn.seen l.fn.first) l.round).asked);
  kept : (told : List DirEntry) → g.S.Searcher.tells l.fn.searcher told → l.kept ≡ flat_map (kept_by l.direction) (rounds (way_by told (g.S.Searcher.base l.fn.searcher) l.direction) (beginning l.fn.seen l.fn.first) l.round).found;
  due : (told : List DirEntry) → g.S.Searcher.tells l.fn.searcher told → l.due ≡ (rounds (way_by told (g.S.Searcher.base l.fn.searcher) l.direction) (beginning l.fn.seen l.fn.first) l.round).due;
  seen : (told : List DirEntry) → g.S.Searcher.tells l.fn.searcher told → l.seen ≡ (rounds (way_by told (g.S.Searcher.base l.fn.searcher) l.direction) (beginning l.fn.seen l.fn.first) l.round).seen;
}
