use Rattle.std.proofs.Common.{◌≡◌, take}
use Rattle.sd_keeper.specs.Blobs.{blobs_of}
use Rattle.sd_keeper.proofs.loading.blobs_in.Given as goal

abbrev pub invariant-loop-row : goal.invariant-loop-row
invariant-loop-row l = l.blobs ≡ blobs_of (take l.row-index l.rows)
