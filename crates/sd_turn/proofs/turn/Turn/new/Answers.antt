use Rattle.std.proofs.Common.{sym, ap, ◌∙◌, subst, Some, ◌∷◌, ◌++◌, [], List, ◌-◌, arith}
use Rattle.std.specs.Prelude.{Option}
use Rattle.atomic_table.specs.Table.{opening}
use Rattle.sd_turn.specs.Views.{newcomer}
use Rattle.sd_turn.specs.Rule.{Kept}
use Rattle.sd_turn.proofs.Closing.{opens}
use Rattle.sd_turn.proofs.turn.Turn.new.Goals as goal

pub new-requires : goal.new-requires
new-requires g c = let n = c.next_number-next.ensures in let items = c.in_ok-push.ensures.items ∙ ap (λ z. z ++ Some c.args.value ∷ []) c.new-slots.ensures.items in let same = c.of-about.ensures in
    let up = n.above in let is = n.number in
    subst (λ (z : List (Option g.row.V.Denot) × g.row.V.Denot). Kept g.V.Chronicle z.1 (opening (0 ∷ (c.next_number-next.result - 1) ∷ []) z.0 (newcomer g.V.Chronicle z.1))) (λ i. (sym items i, sym same i))
    (opens g.V.Chronicle c.args.value (c.next_number-next.result - 1) g.met.V.Chronicle.follows_itself n.fits (omega arith))
