use Rattle.std.proofs.Common.{◌≡◌, ℕ, ◌≤◌, ◌-◌, List, [], ◌++◌, length}
use Rattle.sd_client.specs.Coming.{Comes}
use Rattle.sd_client.specs.Deciding.{reply_at}
use Rattle.sd_client.proofs.exchange.await_reply.Given as goal

-- Whatever comes behind the bytes, the decision from the start is that of what stands at the place.
abbrev pub invariant-loop-found : goal.invariant-loop-found
invariant-loop-found g l = record {
  came : Comes (g.L.Link.received l.fn.link) (g.L.Link.received l.link) (g.L.Link.coming l.fn.link) (g.L.Link.coming l.link) l.fn.buffer l.buffer;
  same : (more : List ℕ) → reply_at l.request l.id [] l.fn.at (l.buffer ++ more) ≡ reply_at l.request l.id l.found l.at (l.buffer ++ more);
  within : l.at ≤ length l.buffer;
  limited : length l.buffer ≤ 67108864;
  sent : g.L.Link.sent l.link ≡ g.L.Link.sent l.fn.link;
  asked : g.L.DirectoryLink.asked l.link ≡ g.L.DirectoryLink.asked l.fn.link;
  behind : g.L.DirectoryLink.behind l.link ≡ g.L.DirectoryLink.behind l.fn.link;
  later : g.L.Link.faults l.fn.link ≤ g.L.Link.faults l.link;
}

abbrev pub decreases-loop-found : goal.decreases-loop-found
decreases-loop-found g l = 67108865 - length l.buffer
