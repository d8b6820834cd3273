use Rattle.std.proofs.Common.{rules, arith}
use Rattle.std.proofs.lemmas.Grind.{common_steps}
use Rattle.sd_stub_link.specs.Standing.{answer_of}
use Rattle.sd_stub_link.specs.Telling.{coming_after, received_after}
use Rattle.sd_stub_link.proofs.link.StubLinkLink.send.Goals as goal

pub returns-clause-coming : goal.returns-clause-coming
returns-clause-coming c =
    let later = coming_after c.args.self.now c.ask.new.self c.args.bytes.now (answer_of c.args.self.now c.args.bytes.now) in
    first_of (search (rules, later), grind (arith, common_steps, later))

pub returns-clause-received : goal.returns-clause-received
returns-clause-received c =
    let later = received_after c.args.self.now c.ask.new.self c.args.bytes.now (answer_of c.args.self.now c.args.bytes.now) in
    first_of (search (rules, later), grind (arith, common_steps, later))
