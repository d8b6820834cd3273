use Rattle.std.proofs.Common.{◌≡◌, List, take}
use Rattle.std.specs.List.{AllByRecursion}
use Rattle.sd_rules.specs.declared.events.Row.{Row}
use Rattle.sd_keeper.specs.Blobs.{AreRowsOf, IsStorable, blobs_of, version_of}
use Rattle.sd_keeper.proofs.loading.rows_in.Given as goal

-- the rows so far are those of the blobs so far
abbrev pub invariant-loop-place : goal.invariant-loop-place
invariant-loop-place l = record {
  rows : AreRowsOf (version_of l.blobs) (take l.place l.blobs) l.rows;
  back : (rows : List Row) → AllByRecursion IsStorable rows → l.blobs ≡ blobs_of rows → l.rows ≡ take l.place rows;
}
