use Rattle.sd_core.proofs.GrowthLaws.{grown_by_list, reached_by_list}
use Rattle.sd_core.proofs.lists.answer_all.Goals as goal

pub returns-clause-reached : goal.returns-clause-reached
returns-clause-reached g c =
    reached_by_list (g.C.Answers.daemon c.args.core.now) (g.C.Answers.daemon c.answer_each.new.core) c.args.steps.now c.answer_each.result
    c.answer_each.ensures.made c.answer_each.ensures.early c.requires

pub returns-clause-legal : goal.returns-clause-legal
returns-clause-legal g c =
    grown_by_list (g.C.Answers.daemon c.args.core.now) (g.C.Answers.daemon c.answer_each.new.core) c.args.steps.now c.answer_each.result
    c.answer_each.ensures.made c.answer_each.ensures.early
