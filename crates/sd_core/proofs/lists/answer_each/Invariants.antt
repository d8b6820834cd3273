use Rattle.std.proofs.Common.{◌≡◌, true, ◌++◌, drop}
use Rattle.sd_core.specs.Lists as lists
use Rattle.sd_core.proofs.ListLaws.{IsFront}
use Rattle.sd_core.proofs.lists.answer_each.Given as goal

-- the steps left, over the core as it is, and those made are all steps over the core as it was
abbrev pub invariant-loop-step : goal.invariant-loop-step
invariant-loop-step g l = record {
  steppable : lists.are_steppable (g.C.Answers.daemon l.core) (drop l.step-index l.steps) ≡ true;
  made : lists.after_all (g.C.Answers.daemon l.core) (drop l.step-index l.steps) ≡ lists.after_all (g.C.Answers.daemon l.fn.core) l.steps;
  given : l.given ++ lists.all_given (g.C.Answers.daemon l.core) (drop l.step-index l.steps) ≡ lists.all_given (g.C.Answers.daemon l.fn.core) l.steps;
  front : IsFront (g.C.Answers.daemon l.fn.core) (g.C.Answers.daemon l.core) l.steps (drop l.step-index l.steps) l.given;
}
