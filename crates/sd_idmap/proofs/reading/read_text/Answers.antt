use Rattle.std.proofs.Common.{ap, ◌∙◌, Option}
use Rattle.std.specs.Option.{option_map}
use Rattle.sd_idmap.specs.declared.reading.Stage.{Stage}
use Rattle.sd_idmap.specs.Reading.{at, start, step}
use Rattle.sd_pieces.proofs.StepLaws.{further}
use Rattle.sd_idmap.proofs.Walk.{stopped, ended_short}
use Rattle.sd_idmap.proofs.reading.read_text.Goals as goal

pub loop-place-preserved : goal.loop-place-preserved
loop-place-preserved c =
    further step start c.args.text.now c.loop-place.place (at c.loop-place.whole c.loop-place.stage) (at c.step.new.whole c.in-Some.reached)
    c.loop-place-test.true c.loop-place.invariant
    (c.in_ok-reached.ensures ∙ ap (λ (o : Option Stage). option_map (λ s. at c.step.new.whole s) o) c.in-Some.is)

pub returns-in-None-clause-bad : goal.returns-in-None-clause-bad
returns-in-None-clause-bad c =
    stopped c.args.text.now c.loop-place.place (at c.loop-place.whole c.loop-place.stage) c.loop-place-test.true c.loop-place.invariant
    (c.in_ok-reached.ensures ∙ ap (λ (o : Option Stage). option_map (λ s. at c.step.new.whole s) o) c.in-None.is)

pub returns-in-None-ended-clause-bad : goal.returns-in-None-ended-clause-bad
returns-in-None-ended-clause-bad c =
    ended_short c.args.text.now c.loop-place.place c.loop-place.whole c.loop-place.stage c.loop-place-test.false c.loop-place.invariant c.in-None-ended.ensures
