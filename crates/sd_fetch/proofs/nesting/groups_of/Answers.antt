use Rattle.sd_fetch.proofs.Furthers.{holders_further}
use Rattle.sd_fetch.proofs.nesting.groups_of.Goals as goal

pub returns-clause-further : goal.returns-clause-further
returns-clause-further g c = holders_further _ c.args.config.now c.args.user.now c.args.client.now c.read_groups.new.client _ c.read_groups.ensures.rounded
