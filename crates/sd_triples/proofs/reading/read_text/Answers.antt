use Rattle.std.proofs.Common.{Bool, cond, Some, None, ap, sym, ◌∙◌}
use Rattle.sd_triples.specs.Reading.{progress, start, step}
use Rattle.sd_pieces.proofs.StepLaws.{further}
use Rattle.sd_triples.proofs.Walk.{stopped, ended_short}
use Rattle.sd_triples.proofs.reading.read_text.Goals as goal

pub loop-place-preserved : goal.loop-place-preserved
loop-place-preserved c =
    further step start c.args.text.now c.loop-place.place (progress c.loop-place.reader) (progress c.take.new.self) c.loop-place-test.true c.loop-place.invariant
    (c.in_ok-goes.ensures ∙ ap (λ (b : Bool). cond b (Some (progress c.take.new.self)) None) c.if-not-goes.false)

pub returns-then-not-goes-clause-bad : goal.returns-then-not-goes-clause-bad
returns-then-not-goes-clause-bad c =
    stopped c.args.text.now c.loop-place.place (progress c.loop-place.reader) c.loop-place-test.true c.loop-place.invariant
    (c.in_ok-goes.ensures ∙ ap (λ (b : Bool). cond b (Some (progress c.take.new.self)) None) c.if-not-goes.true)

pub returns-clause-bad : goal.returns-clause-bad
returns-clause-bad c =
    ended_short c.args.text.now c.loop-place.place (progress c.loop-place.reader) c.loop-place-test.false c.loop-place.invariant
    (sym c.in-None.is ∙ c.in_ok-ended.ensures)
