use Rattle.std.proofs.Common.{◌≤◌, ◌-◌, length}
use Rattle.sd_stub.specs.Passing.{Passes}
use Rattle.sd_stub.proofs.stepping.answer_all.Given as goal

-- the messages in front of the place were answered
abbrev pub invariant-loop-count : goal.invariant-loop-count
invariant-loop-count g l = record {
  passes : Passes l.directory l.bytes l.used (g.W.Sink.held l.fn.sink) (g.W.Sink.held l.sink);
  later : g.W.Sink.faults l.fn.sink ≤ g.W.Sink.faults l.sink;
}

abbrev pub decreases-loop-count : goal.decreases-loop-count
decreases-loop-count g l = length l.bytes - l.used
