use Rattle.std.proofs.Common.{◌∙◌, ap, sym}
use Rattle.sd_table.specs.Table as table
use Rattle.sd_table.proofs.KeysApart.{open_for-own}
use Rattle.sd_table.proofs.requests.Requests.key.Goals as goal

pub returns-clause-alone : goal.returns-clause-alone
returns-clause-alone c k there =
    sym (ap (λ v. table.open_for v.requests k) c.self.view_is)
    ∙ open_for-own c.self.inside.keys.entries c.args.number k c.self.invariant.one (ap (λ v. table.at_number v.requests c.args.number) c.self.view_is ∙ there)
