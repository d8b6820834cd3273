use Rattle.std.proofs.Common.{rules, ◌∷◌, ap, ◌∙◌, subst, Some}
use Rattle.atomic_table.specs.Table.{rest}
use Rattle.sd_turn.specs.Seats.{opening}
use Rattle.sd_turn.proofs.Keeping.{held_is}
use Rattle.sd_turn.proofs.Giving.{gives_turn}
use Rattle.sd_turn.proofs.turn.Turn.give.Goals as goal

pub store-requires : goal.store-requires
store-requires g c = let exchanged = c.exchange.ensures.3 in let same = ap (λ m. m.0) exchanged in let x = c.args.held.value in let v = c.args.seat.now.seat.me.0 in (
  search rules,
  search rules,
  gives_turn g.V.Chronicle (opening c.args.self.now) g.met.V.Chronicle.follows_itself g.met.V.Chronicle.follows_through _ _ _ x _ _ _ _
      (ap (λ v. v.setting) same ∙ c.requires.own.1) (ap (λ v. v.stage) same ∙ held_is v.front v.stage c.requires.holds.0) (ap (λ m. m.1) exchanged ∙ ap (λ cs. (0, Some x) ∷ rest cs) c.requires.holds.1) c.requires.follows c.requires.next c.requires.setting
      (subst (λ d. g.V.Chronicle.fits d (g.V.Chronicle.history x)) c.requires.setting c.next_number-next.ensures.fits),
)
