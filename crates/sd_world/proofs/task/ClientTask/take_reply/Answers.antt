use Rattle.std.proofs.Common.{◌≡◌, true, sym, subst}
use Rattle.sd_rules.specs.Scripts.{Script, need_at, key_at, awaits_reply, fits_found}
use Rattle.sd_world.proofs.TaskLaws.{replied_if, replied_tied_if, same_if}
use Rattle.sd_world.proofs.task.ClientTask.take_reply.Goals as goal

pub replied-requires-clause-awaited : goal.replied-requires-clause-awaited
replied-requires-clause-awaited c = subst (λ (s : Script). awaits_reply (need_at s) ≡ true) (sym c.requires.tied) c.requires.awaited

pub replied-requires-clause-kind : goal.replied-requires-clause-kind
replied-requires-clause-kind c = subst (λ (s : Script). fits_found (key_at s) c.args.given.found ≡ true) (sym c.requires.tied) c.requires.kind

pub returns-clause-replied : goal.returns-clause-replied
returns-clause-replied c = replied_if c.args.self.now c.replied.new.self c.args.given c.replied.result c.requires.tied c.replied.ensures.replied

pub returns-clause-unchanged : goal.returns-clause-unchanged
returns-clause-unchanged c = same_if c.args.self.now c.replied.new.self c.replied.result c.requires.tied c.replied.ensures.unchanged

pub returns-clause-tied : goal.returns-clause-tied
returns-clause-tied c = replied_tied_if c.args.self.now c.replied.new.self c.args.given c.replied.result c.requires.tied c.replied.ensures.replied c.replied.ensures.unchanged
