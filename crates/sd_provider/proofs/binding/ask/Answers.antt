use Rattle.std.proofs.Common.{subst}
use Rattle.sd_client.specs.Talk.{Talk}
use Rattle.sd_stub_link.specs.Standing.{Standing}
use Rattle.sd_provider.proofs.Binds.{IsBinding, bound_by_mode}
use Rattle.sd_provider.proofs.binding.ask.Goals as goal

pub returns : goal.returns
returns c =
    let e = c.bind.ensures in
    let is : IsBinding c.args.dn.now c.args.password.now c.bind.result c.args.client.now c.bind.new.client = record {
      used = e.used;
      no_reply = e.no_reply;
      fails = e.fails;
      cause = e.cause;
      answered = e.answered;
      told = e.told;
      ends = e.ends;
    } in
    let laws = c.decides_alone.ensures in
    bound_by_mode laws.cut laws.indefinite laws.coded c.args.directory.now c.args.mode c.args.dn.now c.args.password.now c.bind.result c.bind.new.client c.requires.takes c.requires.coded c.requires.own c.requires.short
    (subst (λ (old : Talk Standing). IsBinding c.args.dn.now c.args.password.now c.bind.result old c.bind.new.client) c.requires.fresh is)
