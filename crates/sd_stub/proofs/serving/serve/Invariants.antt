use Rattle.std.proofs.Common.{◌+◌, ◌-◌, ◌≤◌, length}
use Rattle.sd_stub.specs.Passing.{Stands}
use Rattle.sd_stub.proofs.serving.serve.Given as goal

-- the messages in front of the unread bytes were answered
abbrev pub invariant-loop-unread : goal.invariant-loop-unread
invariant-loop-unread g l = record {
  stands : Stands l.directory (g.S.Source.left l.fn.source) (g.S.Source.left l.source) (g.W.Sink.held l.fn.sink) (g.W.Sink.held l.sink) l.place l.unread.items;
  within : l.place + length l.unread.items ≤ 1073741824;
  reads : g.S.Source.faults l.fn.source ≤ g.S.Source.faults l.source;
  writes : g.W.Sink.faults l.fn.sink ≤ g.W.Sink.faults l.sink;
}

abbrev pub decreases-loop-unread : goal.decreases-loop-unread
decreases-loop-unread g l = 1073741824 - (l.place + length l.unread.items)
