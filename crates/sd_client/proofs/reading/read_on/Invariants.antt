use Rattle.std.proofs.Common.{◌≡◌, ℕ, ◌≤◌, ◌-◌, List, ◌++◌, length}
use Rattle.sd_client.specs.Deciding.{reply_at}
use Rattle.sd_client.proofs.reading.read_on.Given as goal

-- whatever comes behind the bytes, the decision is that of what stands at the place
abbrev pub invariant-loop-used : goal.invariant-loop-used
invariant-loop-used l = record {
  within : l.at ≤ length l.bytes;
  same : (more : List ℕ) → reply_at l.request l.id l.fn.found l.fn.at (l.bytes ++ more) ≡ reply_at l.request l.id l.found l.at (l.bytes ++ more);
}

abbrev pub decreases-loop-used : goal.decreases-loop-used
decreases-loop-used l = length l.bytes - l.at
