-- Reaching holds of a journal with itself and passes through a third.
use Rattle.std.proofs.Common.{◌≡◌, Bool, true, false, ◌&&◌, List, [], ◌∷◌, ◌++◌, refl, ap, ◌∙◌}
use Rattle.sd_rules.specs.Steps.{Daemon}
use Rattle.sd_rules.specs.Reaching.{Move, Reaches, after_move, after_moves, can_move, can_make}

-- a journal reaches itself
pub reaches_self : (d : Daemon) → Reaches d d
reaches_self d = record { moves = []; can = refl; reached = refl }

-- moves after moves lead on from where the first led
after_both : (d : Daemon) (first others : List Move) →
    after_moves d (first ++ others) ≡ after_moves (after_moves d first) others
after_both d [] others = refl
after_both d (move ∷ first) others = after_both (after_move d move) first others

with_rest : (a b c : Bool) → a && b ≡ true → (b ≡ true → c ≡ true) → a && c ≡ true
with_rest true b c h f = f h
with_rest false b c h f = h

can_both : (d : Daemon) (first others : List Move) → can_make d first ≡ true →
    can_make (after_moves d first) others ≡ true → can_make d (first ++ others) ≡ true
can_both d [] others h i = i
can_both d (move ∷ first) others h i =
    with_rest (can_move d move) (can_make (after_move d move) first) (can_make (after_move d move) (first ++ others)) h
    (λ rest. can_both (after_move d move) first others rest i)

-- what one journal reaches, and a third reaches from there, it reaches too
pub reaches_through : (f g h : Daemon) → Reaches f g → Reaches g h → Reaches f h
reaches_through f g h first others = record {
  moves = first.moves ++ others.moves;
  can = can_both f first.moves others.moves first.can
      (ap (λ d. can_make d others.moves) first.reached ∙ others.can);
  reached = after_both f first.moves others.moves
      ∙ (ap (λ d. after_moves d others.moves) first.reached ∙ others.reached);
}
