use Rattle.sd_desk.specs.Desks.{IsOwn, HoldsNoTurn}
use Rattle.sd_storm.proofs.sessions.visits_of.Given as goal

abbrev pub invariant-loop-input : goal.invariant-loop-input
invariant-loop-input l = IsOwn l.desk l.seat × HoldsNoTurn l.seat
