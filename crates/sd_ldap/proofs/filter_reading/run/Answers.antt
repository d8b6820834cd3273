use Rattle.std.proofs.Common.{ap, ◌∙◌, length, List, ℕ, Option}
use Rattle.sd_ldap.specs.FilterReading.{run_in}
use Rattle.sd_ldap.proofs.Runs.{stops, goes_on, last}
use Rattle.sd_ldap.proofs.filter_reading.run.Goals as goal

pub returns-in-None : goal.returns-in-None
returns-in-None c =
    stops c.args.tag c.loop.texts (length c.rest-count.result.now) c.loop.counter c.loop.reader c.optional.new.reader (run_in c.args.tag (length c.args.reader.now.rest) c.args.reader.now) c.loop-test.true
    (c.in_ok-text.ensures ∙ ap (λ (found : Option (List ℕ)). (found, c.optional.new.reader)) c.in-None.is) c.loop.invariant

pub loop-preserved : goal.loop-preserved
loop-preserved c =
    rw c.in_ok-push-in-Some.ensures.ok
    (goes_on c.args.tag c.loop.texts c.in-Some.text (length c.rest-count.result.now) c.loop.counter c.loop.reader c.optional.new.reader (run_in c.args.tag (length c.args.reader.now.rest) c.args.reader.now) c.loop-test.true
    (c.in_ok-text.ensures ∙ ap (λ (found : Option (List ℕ)). (found, c.optional.new.reader)) c.in-Some.is) c.loop.invariant)

pub returns : goal.returns
returns c = last c.args.tag c.loop.texts (length c.rest-count.result.now) c.loop.counter c.loop.reader (run_in c.args.tag (length c.args.reader.now.rest) c.args.reader.now) c.loop-test.false c.loop.invariant
