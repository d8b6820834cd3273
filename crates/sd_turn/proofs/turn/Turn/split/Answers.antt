use Rattle.std.proofs.Common.{rules, ℕ, List, Contains, sym, ap, subst}
use Rattle.std.proofs.lemmas.List.Elements.{Contains-push}
use Rattle.sd_turn.specs.Names.{child_name}
use Rattle.sd_turn.specs.Seats.{opening, view_of}
use Rattle.sd_turn.proofs.Splitting.{splits_seat}
use Rattle.sd_turn.proofs.turn.Turn.split.Goals as goal

pub split_seat-requires : goal.split_seat-requires
split_seat-requires g c = (search rules, search rules, splits_seat g.V.Chronicle (opening c.args.self.now) _ _ _ c.requires.own.1)

pub returns-clause-out : goal.returns-clause-out
returns-clause-out g c = let v = view_of c.args.seat.now in let s = c.split_seat.ensures in
    subst (λ (z : List (List ℕ) × List ℕ). Contains z.0 z.1) (λ i. (sym (ap (λ m. m.0.out) s.2) i, sym (ap (λ m. m.0.name) s.4) i)) (Contains-push v.out (child_name v.name v.splits))
