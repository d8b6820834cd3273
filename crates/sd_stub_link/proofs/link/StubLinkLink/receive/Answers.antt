use Rattle.sd_stub_link.specs.Telling.{front_given, received_given}
use Rattle.sd_stub_link.proofs.link.StubLinkLink.receive.Goals as goal

pub returns-clause-coming : goal.returns-clause-coming
returns-clause-coming c = front_given c.args.self.now c.advance.new.self c.copy_front-count.result c.rest-2.result.now _ c.rest-2.ensures c.copy_front-count.ensures.front c.advance.ensures

pub returns-clause-received : goal.returns-clause-received
returns-clause-received c = received_given c.args.self.now c.advance.new.self c.copy_front-count.result c.rest-2.result.now _ c.rest-2.ensures c.copy_front-count.ensures.front c.advance.ensures
