-- Reaching: what a journal can become by steps and by forgetting.
use Rattle.std.specs.Prelude.{◌≡◌, ◌⊎◌, ℕ, Bool, true, ◌&&◌, List, [], ◌∷◌}
use Rattle.sd_rules.specs.declared.events.Event.{Event}
use Rattle.sd_rules.specs.Steps.{Daemon, after, is_steppable}
use Rattle.sd_rules.specs.Needed.{needed}

-- A move is the step of an event at a moment handed in, or a forget.
pub data Move : Type 0 where
  Append : ℕ → Event → Move
  Forget : Move

-- a forget leaves the entries that are needed
abbrev pub after_forget : Daemon → Daemon
after_forget d = record d { past = needed d.past }

abbrev pub after_move : Daemon → Move → Daemon
after_move d (Append t event) = after d t event
after_move d Forget = after_forget d

-- a daemon after moves, the first first
abbrev pub after_moves : Daemon → List Move → Daemon
after_moves d [] = d
after_moves d (move ∷ moves) = after_moves (after_move d move) moves

abbrev pub can_move : Daemon → Move → Bool
can_move d (Append t event) = is_steppable d.past event
can_move d Forget = true

-- each event can be stepped when its turn comes
abbrev pub can_make : Daemon → List Move → Bool
can_make d [] = true
can_make d (move ∷ moves) = can_move d move && can_make (after_move d move) moves

-- one journal reaches another where some moves lead from it to the other
pub record Reaches (f g : Daemon) : Type 0 where
  pub moves : List Move
  pub can : can_make f moves ≡ true
  pub reached : after_moves f moves ≡ g

-- two journals agree where one reaches the other
abbrev pub Agree : Daemon → Daemon → Type 0
Agree f g = Reaches f g ⊎ Reaches g f
