use Rattle.std.proofs.Common.{◌≡◌, ◌≤◌, ◌-◌, length}
use Rattle.std.specs.Io.KnownBytes.{append_known}
use Rattle.sd_tools.proofs.links.receive_bytes.Given as goal

-- the bytes are those received so far
abbrev pub invariant-loop-buf : goal.invariant-loop-buf
invariant-loop-buf g l =
    record {
      received : g.L.Link.received l.link ≡ append_known (g.L.Link.received l.fn.link) l.bytes.items;
      sent : g.L.Link.sent l.link ≡ g.L.Link.sent l.fn.link;
      later : g.L.Link.faults l.fn.link ≤ g.L.Link.faults l.link;
      within : length l.bytes.items ≤ l.size;
    }

abbrev pub decreases-loop-buf : goal.decreases-loop-buf
decreases-loop-buf g l = l.size - length l.bytes.items
