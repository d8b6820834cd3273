use Rattle.std.proofs.Common.{arith}
use Rattle.sd_stub.proofs.Passing.{passes_more, passed_some}
use Rattle.sd_stub.proofs.stepping.answer_all.Goals as goal

pub overflow_add-used : goal.overflow_add-used
overflow_add-used g c =
    let passed = passes_more c.args.directory.now c.args.bytes.now c.split_at.result.1.now c.loop-count.used c.in-Passed.count _ _ _ c.split_at.ensures.back c.loop-count.invariant.passes c.in-Passed.ensures.goes in
    omega (arith, passed.within)

pub loop-count-smaller : goal.loop-count-smaller
loop-count-smaller g c =
    let passed = passes_more c.args.directory.now c.args.bytes.now c.split_at.result.1.now c.loop-count.used c.in-Passed.count _ _ _ c.split_at.ensures.back c.loop-count.invariant.passes c.in-Passed.ensures.goes in
    let some = passed_some c.args.directory.now c.split_at.result.1.now c.in-Passed.count _ _ c.in-Passed.ensures.goes in
    omega (arith, passed.within, some)

pub loop-count-preserved : goal.loop-count-preserved
loop-count-preserved g c = record {
  passes = passes_more c.args.directory.now c.args.bytes.now c.split_at.result.1.now c.loop-count.used c.in-Passed.count _ _ _ c.split_at.ensures.back c.loop-count.invariant.passes c.in-Passed.ensures.goes;
  later = omega (arith, c.loop-count.invariant.later, c.answer_front.ensures.later);
}
