use Rattle.std.proofs.Common.{sym}
use Rattle.sd_idmap.specs.Keeping.{divided}
use Rattle.sd_idmap.specs.Slicing.{sid_of}
use Rattle.sd_idmap.proofs.Tables.{small_none}
use Rattle.sd_idmap.proofs.Calls.{ok_value, divided_value, divided_back}
use Rattle.sd_idmap.proofs.slices.Slices.to_sid.Goals as goal

pub returns-then-id-lt-SIZE-clause-value : goal.returns-then-id-lt-SIZE-clause-value
returns-then-id-lt-SIZE-clause-value c = sym (small_none c.args.self.now c.args.id c.if-id-lt-SIZE.true)

pub returns-clause-value : goal.returns-clause-value
returns-clause-value c =
    let ps = c.self.inside.by_domain.entries in
    let es = c.self.inside.by_slice.entries in
    ok_value c.divided.result (divided es c.args.id) (sid_of c.args.self.now c.args.id) c.divided.ensures
    (divided_value ps es c.args.self.now c.args.id c.self.invariant c.self.view_is c.if-id-lt-SIZE.false)

pub returns-clause-back : goal.returns-clause-back
returns-clause-back c =
    let ps = c.self.inside.by_domain.entries in
    let es = c.self.inside.by_slice.entries in
    divided_back ps es c.args.self.now c.args.id c.self.invariant c.self.view_is c.divided.result
    (ok_value c.divided.result (divided es c.args.id) (sid_of c.args.self.now c.args.id) c.divided.ensures
    (divided_value ps es c.args.self.now c.args.id c.self.invariant c.self.view_is c.if-id-lt-SIZE.false))
