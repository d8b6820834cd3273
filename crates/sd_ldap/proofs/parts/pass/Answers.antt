use Rattle.std.proofs.Common.{length, ap, sym, ◌∙◌, [], ◌++◌, ◌∷◌}
use Rattle.std.proofs.lemmas.Result.{err_from_is_err_and}
use Rattle.sd_ldap.specs.Parts.{tag_in, passed}
use Rattle.sd_ldap.proofs.Loops.{starts, goes_on, stops, fails, passes_ok, passes_end}
use Rattle.sd_ldap.proofs.parts.pass.Goals as goal

pub loop-init : goal.loop-init
unfolding passed
loop-init c = ([], starts tag_in c.args.reader.now (length c.rest-count.result.now) (ap length c.rest-count.ensures))

pub returns-then-is_empty : goal.returns-then-is_empty
returns-then-is_empty c =
    let i = c.loop.invariant in
    passes_ok i.0 (passed c.args.reader.now) (stops tag_in i.0 _ c.loop.reader (passed c.args.reader.now) (sym c.is_empty.ensures ∙ c.if-is_empty.true) i.1)

pub returns-in_err-skip : goal.returns-in_err-skip
returns-in_err-skip c =
    let p = err_from_is_err_and c.from_residual.result c.from_residual.ensures.1 in
    let i = c.loop.invariant in
    rw (p.1, p.2) (fails tag_in c.in_err-skip.field-0.0 i.0 (length c.rest-count.result.now) c.loop.counter c.loop.reader (passed c.args.reader.now) c.loop-test.true (sym c.is_empty.ensures ∙ c.if-is_empty.false) c.in_err-skip.ensures i.1)

pub loop-preserved : goal.loop-preserved
loop-preserved c =
    let i = c.loop.invariant in
    (i.0 ++ c.in_ok-skip.field-0 ∷ [], goes_on tag_in i.0 (length c.rest-count.result.now) c.loop.counter c.loop.reader c.in_ok-skip.field-0 c.skip.new.reader (passed c.args.reader.now) c.loop-test.true (sym c.is_empty.ensures ∙ c.if-is_empty.false) c.in_ok-skip.ensures i.1)

pub returns : goal.returns
returns c =
    let i = c.loop.invariant in
    passes_end tag_in c.end.result i.0 (length c.rest-count.result.now) c.loop.counter c.loop.reader (passed c.args.reader.now) c.loop-test.false i.1 c.end.ensures
