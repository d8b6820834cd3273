use Rattle.sd_sudo.proofs.Asked.{roles_by}
use Rattle.sd_sudo.proofs.roles.ask_first.Goals as goal

pub returns : goal.returns
returns c = roles_by c.args.directory.now c.args.base.now c.ask.result _ c.args.client.now c.ask.new.client c.requires.own c.requires.short c.requires.fresh c.requires.is c.ask.ensures
