use Rattle.std.proofs.Common.{◌≡◌, ◌≤◌, length, take, drop}
use Rattle.std.specs.Io.KnownBytes.{append_known}
use Rattle.sd_tools.specs.Replies as replies
use Rattle.sd_tools.proofs.links.ask_all.Given as goal

-- the requests so far were answered by the texts, and those left are sound
abbrev pub invariant-loop-request : goal.invariant-loop-request
invariant-loop-request g l =
    record {
      each : length l.texts ≡ l.request-index;
      short : replies.AreShort l.texts;
      sound : replies.AreSound (drop l.request-index l.requests);
      sent : g.L.Link.sent l.link ≡ replies.with_pieces (g.L.Link.sent l.fn.link) (replies.frames_of (take l.request-index l.requests));
      received : g.L.Link.received l.link ≡ append_known (g.L.Link.received l.fn.link) (replies.replies_of l.texts);
      later : g.L.Link.faults l.fn.link ≤ g.L.Link.faults l.link;
    }
