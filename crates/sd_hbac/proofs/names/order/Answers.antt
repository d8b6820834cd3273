use Rattle.std.proofs.Common.{◌∙◌, sym, arith}
use Rattle.sd_hbac.proofs.Lowering.{order_at_end}
use Rattle.sd_hbac.proofs.names.order.Goals as goal

pub returns : goal.returns
returns c =
    c.cmp.ensures
    ∙ (sym (order_at_end c.args.lowered.now c.args.name.now c.loop-place.place (omega (arith, c.loop-place-test.false, c.loop-place.auto.place-end, c.min-place-end.ensures))) ∙ c.loop-place.invariant)
