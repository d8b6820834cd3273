use Rattle.std.proofs.Common.{arith, ◌≡◌, ◌∙◌, ◌++◌, ◌+◌, ap, sym, drop, length, ◌-◌}
use Rattle.sd_turn.specs.Histories.{with_entries}
use Rattle.sd_turn.specs.Seats.{mine, history_now}
use Rattle.sd_turn.proofs.Lists.{last_alone}
use Rattle.sd_turn.proofs.turn.Turn.append.Goals as goal

pub count-requires-clause-grown : goal.count-requires-clause-grown
count-requires-clause-grown g c = let t = c.requires.grown in let n = c.next_number.ensures.number in let small = c.next_number.type_inv in let up : (g.V.Chronicle.history c.args.held.now.value).next ≡ (history_now c.args.seat.now).next + 1 = ap (λ z. z.next) t.1 in
    (t.0, ap (λ z. drop (length z.entries - 1) z.entries) t.1 ∙ last_alone (history_now c.args.seat.now).entries t.0, t.2, omega arith)

pub returns-clause-mine : goal.returns-clause-mine
returns-clause-mine g c e is = c.count.ensures.mine ∙ ap (λ es. mine c.args.seat.now ++ es) (ap (λ z. drop (length z.entries - 1) z.entries) is ∙ last_alone (history_now c.args.seat.now).entries e)

pub returns-clause-now : goal.returns-clause-now
returns-clause-now g c = let t = c.requires.grown in
    c.count.ensures.now ∙ (ap (with_entries (history_now c.args.seat.now)) (ap (λ z. drop (length z.entries - 1) z.entries) t.1 ∙ last_alone (history_now c.args.seat.now).entries t.0) ∙ sym t.1)
