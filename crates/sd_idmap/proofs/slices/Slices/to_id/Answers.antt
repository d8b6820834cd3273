use Rattle.sd_idmap.proofs.Calls.{back_of, alone_of}
use Rattle.sd_idmap.proofs.slices.Slices.to_id.Goals as goal

pub returns-clause-back : goal.returns-clause-back
returns-clause-back c = back_of c.args.self.now c.args.sid.now c.number_of.result c.number_of.ensures.value c.number_of.ensures.apart

pub returns-clause-alone : goal.returns-clause-alone
returns-clause-alone c = alone_of c.args.self.now c.args.sid.now c.number_of.result c.number_of.ensures.value c.number_of.ensures.apart
