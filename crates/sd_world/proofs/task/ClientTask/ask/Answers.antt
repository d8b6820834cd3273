use Rattle.sd_world.proofs.TaskLaws.{need_if, told_if, told_tied_if, stays_if, kind_if, same_if}
use Rattle.sd_world.proofs.task.ClientTask.ask.Goals as goal

pub returns-clause-need : goal.returns-clause-need
returns-clause-need c = need_if c.args.self.now c.need.result c.requires c.need.ensures.need

pub returns-clause-told : goal.returns-clause-told
returns-clause-told c = told_if c.args.self.now c.need.new.self c.need.result c.requires c.need.ensures.told

pub returns-clause-stays : goal.returns-clause-stays
returns-clause-stays c = stays_if c.args.self.now c.need.new.self c.need.result c.requires c.need.ensures.need c.need.ensures.stays

pub returns-clause-kind : goal.returns-clause-kind
returns-clause-kind c = kind_if c.args.self.now c.need.new.self c.need.result c.requires c.need.ensures.stays c.need.ensures.kind

pub returns-clause-unchanged : goal.returns-clause-unchanged
returns-clause-unchanged c = same_if c.args.self.now c.need.new.self c.need.result c.requires c.need.ensures.unchanged

pub returns-clause-tied : goal.returns-clause-tied
returns-clause-tied c = told_tied_if c.args.self.now c.need.new.self c.need.result c.requires c.need.ensures.told c.need.ensures.unchanged
