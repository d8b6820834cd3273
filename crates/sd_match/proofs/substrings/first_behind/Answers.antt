use Rattle.std.proofs.Common.{sym, ◌∙◌}
use Rattle.sd_match.proofs.Greedy.{found_at, missed_at}
use Rattle.sd_match.proofs.substrings.first_behind.Goals as goal

pub returns-then-begins_with : goal.returns-then-begins_with
returns-then-begins_with c = found_at c.args.part.now c.args.text.now c.loop-place.place (sym c.begins_with.ensures ∙ c.if-begins_with.true) c.loop-place.invariant

pub loop-place-preserved : goal.loop-place-preserved
loop-place-preserved c = missed_at c.args.part.now c.args.text.now c.loop-place.place c.loop-place-test.true (sym c.begins_with.ensures ∙ c.if-begins_with.false) c.loop-place.invariant
