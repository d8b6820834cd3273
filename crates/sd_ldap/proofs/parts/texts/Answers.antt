use Rattle.std.proofs.Common.{length, ap, sym, ◌∙◌}
use Rattle.std.proofs.lemmas.Result.{err_from_is_err_and}
use Rattle.sd_ldap.specs.Parts.{text_in, texts_in}
use Rattle.sd_ldap.proofs.Loops.{starts, goes_on, stops, fails, last_ok, last_err}
use Rattle.sd_ldap.proofs.parts.texts.Goals as goal

pub loop-init : goal.loop-init
unfolding texts_in
loop-init c = rw c.new-texts.ensures (starts (text_in 4) c.args.reader (length c.rest-count.result.now) (ap length c.rest-count.ensures))

pub returns-then-is_empty : goal.returns-then-is_empty
returns-then-is_empty c = stops (text_in 4) c.loop.texts _ c.loop.reader (texts_in c.args.reader) (sym c.is_empty.ensures ∙ c.if-is_empty.true) c.loop.invariant

pub returns-in_err-text : goal.returns-in_err-text
returns-in_err-text c =
    let p = err_from_is_err_and c.from_residual.result c.from_residual.ensures.1 in
    rw (p.1, p.2) (fails (text_in 4) c.in_err-text.field-0.0 c.loop.texts (length c.rest-count.result.now) c.loop.counter c.loop.reader (texts_in c.args.reader) c.loop-test.true (sym c.is_empty.ensures ∙ c.if-is_empty.false) c.in_err-text.ensures c.loop.invariant)

pub loop-preserved : goal.loop-preserved
loop-preserved c = rw c.in_ok-push.ensures.ok (goes_on (text_in 4) c.loop.texts (length c.rest-count.result.now) c.loop.counter c.loop.reader c.in_ok-text.field-0 c.text.new.reader (texts_in c.args.reader) c.loop-test.true (sym c.is_empty.ensures ∙ c.if-is_empty.false) c.in_ok-text.ensures c.loop.invariant)

pub returns-in_err-end : goal.returns-in_err-end
returns-in_err-end c =
    let p = err_from_is_err_and c.from_residual-in_err-end.result c.from_residual-in_err-end.ensures.1 in
    rw (p.1, p.2) (last_err (text_in 4) c.in_err-end.field-0.0 c.loop.texts (length c.rest-count.result.now) c.loop.counter c.loop.reader (texts_in c.args.reader) c.loop-test.false c.loop.invariant c.in_err-end.ensures)

pub returns : goal.returns
returns c = last_ok (text_in 4) c.loop.texts (length c.rest-count.result.now) c.loop.counter c.loop.reader (texts_in c.args.reader) c.loop-test.false c.loop.invariant c.in_ok-end.ensures
