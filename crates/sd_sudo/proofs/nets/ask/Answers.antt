use Rattle.std.proofs.Common.{subst}
use Rattle.sd_client.specs.Talk.{Talk}
use Rattle.sd_stub_link.specs.Standing.{Standing}
use Rattle.sd_netgroup.proofs.Looks.{IsAsked, answers}
use Rattle.sd_sudo.proofs.nets.ask.Goals as goal

pub returns : goal.returns
returns c =
    let e = c.netgroup.ensures in
    let is : IsAsked c.args.base.now c.args.net.now c.netgroup.result c.args.client.now c.netgroup.new.client = record { asked = e.asked; told = e.told } in
    answers c.netgroup.result c.args.base.now c.args.net.now c.args.directory.now c.netgroup.new.client c.requires.own c.requires.short
    (subst (λ (old : Talk Standing). IsAsked c.args.base.now c.args.net.now c.netgroup.result old c.netgroup.new.client) c.requires.fresh is)
