use Rattle.sd_match.proofs.Greedy.{none_more, one_more}
use Rattle.sd_match.specs.Matching.{has_parts}
use Rattle.sd_match.proofs.substrings.has_parts.Goals as goal

pub returns-in-None : goal.returns-in-None
returns-in-None c =
    none_more c.args.parts.now c.args.last.now c.loop-part.rest.now c.loop-part.part-index c.part-item.result c.bytes.result.now (has_parts c.args.parts.now c.args.last.now c.args.text.now)
    c.loop-part-test.true c.part-item.is c.bytes.ensures c.in-None.ensures c.loop-part.invariant

pub loop-part-preserved : goal.loop-part-preserved
loop-part-preserved c =
    one_more c.args.parts.now c.args.last.now c.loop-part.rest.now c.in-Some.behind.now c.loop-part.part-index c.part-item.result c.bytes.result.now (has_parts c.args.parts.now c.args.last.now c.args.text.now)
    c.loop-part-test.true c.part-item.is c.bytes.ensures c.in-Some.ensures c.loop-part.invariant
