use Rattle.std.proofs.Common.{◌≡◌, ◌+◌, [], replicate}
use Rattle.sd_places.proofs.index.Index.new.Given as goal

abbrev pub invariant-loop : goal.invariant-loop
invariant-loop l = l.buckets.items ≡ replicate (l.counter + 1) []
