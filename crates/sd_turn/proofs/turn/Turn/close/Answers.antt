use Rattle.std.proofs.Common.{rules, ◌≡◌, refl, sym, ap, ◌∙◌, subst, Some}
use Rattle.std.specs.Prelude.{IsSome}
use mathlib.Core.Option.{some, some-injective}
use Rattle.sd_turn.specs.Seats.{opening, front}
use Rattle.sd_turn.proofs.Lists.{get_or_at}
use Rattle.sd_turn.proofs.Closing.{closes}
use Rattle.sd_turn.proofs.turn.Turn.close.Goals as goal

pub unwrap-requires : goal.unwrap-requires
unwrap-requires g c = let t = closes g.V.Chronicle (opening c.args.self) _ _ _ _ _ c.requires.own.1 c.requires.free.0 c.close_with-closed.ensures.values.2 in
    let v = t.value (get_or_at _ 0 _ 0 c.word-found.ensures ∙ c.if-found-ne-FREE.false) in subst IsSome (some-injective _ _ (sym v.1 ∙ c.take-slot.ensures.value)) refl

pub returns-clause-setting : goal.returns-clause-setting
returns-clause-setting g c = let t = closes g.V.Chronicle (opening c.args.self) _ _ _ _ _ c.requires.own.1 c.requires.free.0 c.close_with-closed.ensures.values.2 in
    let v = t.value (get_or_at _ 0 _ 0 c.word-found.ensures ∙ c.if-found-ne-FREE.false) in
    let same : v.0 ≡ c.unwrap.result = search (rules, some-injective (Some v.0) c.take-slot.result (sym v.1 ∙ c.take-slot.ensures.value)) in
    ap g.V.Chronicle.setting (sym same) ∙ v.2

pub returns-clause-follows : goal.returns-clause-follows
returns-clause-follows g c = let t = closes g.V.Chronicle (opening c.args.self) _ _ _ _ _ c.requires.own.1 c.requires.free.0 c.close_with-closed.ensures.values.2 in
    let v = t.value (get_or_at _ 0 _ 0 c.word-found.ensures ∙ c.if-found-ne-FREE.false) in
    let same : v.0 ≡ c.unwrap.result = search (rules, some-injective (Some v.0) c.take-slot.result (sym v.1 ∙ c.take-slot.ensures.value)) in
    subst (λ x. g.V.Chronicle.follows (g.V.Chronicle.setting (opening c.args.self)) (front c.args.seat) (g.V.Chronicle.history x)) same v.3

pub returns-clause-fits : goal.returns-clause-fits
returns-clause-fits g c = let t = closes g.V.Chronicle (opening c.args.self) _ _ _ _ _ c.requires.own.1 c.requires.free.0 c.close_with-closed.ensures.values.2 in
    let v = t.value (get_or_at _ 0 _ 0 c.word-found.ensures ∙ c.if-found-ne-FREE.false) in
    let same : v.0 ≡ c.unwrap.result = search (rules, some-injective (Some v.0) c.take-slot.result (sym v.1 ∙ c.take-slot.ensures.value)) in
    subst (λ x. g.V.Chronicle.fits (g.V.Chronicle.setting (opening c.args.self)) (g.V.Chronicle.history x)) same v.4

pub returns-clause-all : goal.returns-clause-all
returns-clause-all g c first none_out = let t = closes g.V.Chronicle (opening c.args.self) _ _ _ _ _ c.requires.own.1 c.requires.free.0 c.close_with-closed.ensures.values.2 in
    t.all first none_out c.unwrap.result (c.take-slot.ensures.value ∙ ap some c.unwrap.ensures)

pub returns-then-found-ne-FREE-clause-held : goal.returns-then-found-ne-FREE-clause-held
returns-then-found-ne-FREE-clause-held g c = let t = closes g.V.Chronicle (opening c.args.self) _ _ _ _ _ c.requires.own.1 c.requires.free.0 c.close_with-closed.ensures.values.2 in
    let is = get_or_at _ 0 _ 0 c.word-found.ensures in sym is ∙ t.held (λ z. c.if-found-ne-FREE.true (sym is ∙ z))

pub returns-then-found-ne-FREE-clause-first : goal.returns-then-found-ne-FREE-clause-first
returns-then-found-ne-FREE-clause-first g c first none_out = let t = closes g.V.Chronicle (opening c.args.self) _ _ _ _ _ c.requires.own.1 c.requires.free.0 c.close_with-closed.ensures.values.2 in
    absurd (c.if-found-ne-FREE.true (sym (get_or_at _ 0 _ 0 c.word-found.ensures) ∙ t.first first none_out))
