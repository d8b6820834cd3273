use Rattle.sd_ber.proofs.Elements.{found_from, given_from}
use Rattle.sd_ber.proofs.reader.Reader.next.Goals as goal

pub returns-clause-found : goal.returns-clause-found
returns-clause-found c = found_from c.args.self.now c.advance.new.self c.advance.result c.advance.ensures.exact c.advance.ensures.after

pub returns-clause-only : goal.returns-clause-only
returns-clause-only c = given_from c.args.self.now c.advance.new.self c.advance.result c.advance.ensures.exact c.advance.ensures.after
