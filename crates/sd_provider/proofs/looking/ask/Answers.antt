use Rattle.std.proofs.Common.{subst}
use Rattle.sd_client.specs.Talk.{Talk}
use Rattle.sd_stub_link.specs.Standing.{Standing}
use Rattle.sd_provider.proofs.Lookups.{IsLookup, fetched_by_mode}
use Rattle.sd_provider.proofs.looking.ask.Goals as goal

pub returns-clause-comes : goal.returns-clause-comes
returns-clause-comes c =
    let e = c.fetch.ensures in
    let is : IsLookup c.args.config.now c.args.key.now c.fetch.result c.args.client.now c.fetch.new.client = record { looked = e.looked; told = e.told } in
    let laws = c.decides_alone.ensures in
    fetched_by_mode laws.cut laws.indefinite laws.coded c.args.directory.now c.args.mode c.args.config.now c.args.key.now c.fetch.result c.fetch.new.client c.requires.takes c.requires.coded c.requires.own c.requires.short
    (subst (λ (old : Talk Standing). IsLookup c.args.config.now c.args.key.now c.fetch.result old c.fetch.new.client) c.requires.fresh is)
