use Rattle.std.proofs.Common.{rules, ◌≡◌, ◌∷◌, sym, ap, ◌∙◌, subst, Some}
use Rattle.atomic_table.specs.Table.{rest}
use Rattle.sd_turn.specs.Seats.{opening, front}
use Rattle.sd_turn.proofs.Taking.{takes_turn}
use Rattle.sd_turn.proofs.turn.Turn.try_take.Goals as goal

pub compare_exchange-requires : goal.compare_exchange-requires
compare_exchange-requires g c = (c.requires.own.0, search rules, takes_turn g.V.Chronicle (opening c.args.self.now) _ _ _ _ c.requires.own.1 c.requires.free.0)

pub exchange-requires : goal.exchange-requires
exchange-requires g c = let taken = c.compare_exchange.ensures.2.1 c.if-compare_exchange-ne-FREE.false in let e = ap (λ m. m.1) taken.2 in
    (search rules, (Some taken.0, e ∙ ap (λ cs. (0, Some taken.0) ∷ rest cs) (sym e)))

pub returns-clause-setting : goal.returns-clause-setting
returns-clause-setting g c = let taken = c.compare_exchange.ensures.2.1 c.if-compare_exchange-ne-FREE.false in
    let same : taken.0 ≡ c.unwrap-value.result = search rules in
    ap g.V.Chronicle.setting (sym same) ∙ (taken.3 _ c.requires.own.1).0

pub returns-clause-follows : goal.returns-clause-follows
returns-clause-follows g c = let taken = c.compare_exchange.ensures.2.1 c.if-compare_exchange-ne-FREE.false in
    let same : taken.0 ≡ c.unwrap-value.result = search rules in
    subst (λ v. g.V.Chronicle.follows (g.V.Chronicle.setting (opening c.args.self.now)) (front c.args.seat.now) (g.V.Chronicle.history v)) same (taken.3 _ c.requires.own.1).1
