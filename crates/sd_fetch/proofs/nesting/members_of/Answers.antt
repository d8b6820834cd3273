use Rattle.std.proofs.Common.{sym, ap, ◌∙◌}
use Rattle.sd_dn.specs.Texts.{spelled}
use Rattle.sd_fetch.proofs.Furthers.{reads_further}
use Rattle.sd_fetch.proofs.nesting.members_of.Goals as goal

pub returns-in-Some-clause-further : goal.returns-in-Some-clause-further
returns-in-Some-clause-further g c = reads_further _ c.args.config.now c.in-Some.base c.args.group.now c.args.client.now c.read_members.new.client _ (sym c.in-Some.is ∙ (c.in_ok-base.ensures ∙ ap spelled c.bytes.ensures)) c.read_members.ensures.rounded
