use Rattle.sd_desk.specs.Desks.{IsOwn, HoldsNoTurn}
use Rattle.sd_company.proofs.many.welcome_all.Given as goal

abbrev pub invariant-loop-user : goal.invariant-loop-user
invariant-loop-user g l = IsOwn l.desk l.seat × HoldsNoTurn l.seat
