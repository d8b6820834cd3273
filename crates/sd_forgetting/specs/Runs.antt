-- Runs of steps with forgets at any places, and what forgetting leaves as it is.
use Rattle.std.specs.Prelude.{Bool, true, not, ◌≡◌, ◌&&◌, List, [], ◌∷◌}
use Rattle.sd_rules.specs.declared.events.Event.{Event}
use Rattle.sd_rules.specs.declared.replies.Given.{Given}
use Rattle.sd_rules.specs.Reaching.{Move, Append, Forget, after_forget, after_moves, can_make}
use Rattle.sd_rules.specs.Steps.{Daemon, after, given, is_full}
use Rattle.sd_forgetting.specs.Kept.{Keeps}

-- the steps alone
abbrev pub without_forgets : List Move → List Move
without_forgets [] = []
without_forgets (Append t event ∷ moves) = Append t event ∷ without_forgets moves
without_forgets (Forget ∷ moves) = without_forgets moves

-- what each step gives
abbrev pub moves_given : Daemon → List Move → List Given
moves_given d [] = []
moves_given d (Append t event ∷ moves) = given d t event ∷ moves_given (after d t event) moves
moves_given d (Forget ∷ moves) = moves_given (after_forget d) moves

-- each step has room
abbrev pub moves_have_room : Daemon → List Move → Bool
moves_have_room d [] = true
moves_have_room d (Append t event ∷ moves) = not (is_full d event) && moves_have_room (after d t event) moves
moves_have_room d (Forget ∷ moves) = moves_have_room (after_forget d) moves

-- Forgetting changes nothing: with the forgets each step gives what it gives without them, and can be stepped and has room where it can
-- and has without them; what is left then shows all that the whole journal shows; and the next step is full only where it is full
-- without them.
pub record ForgetsNothing (d : Daemon) (moves : List Move) : Type 0 where
  pub given : moves_given d moves ≡ moves_given d (without_forgets moves)
  pub can : can_make d moves ≡ true
  pub room : moves_have_room d (without_forgets moves) ≡ true → moves_have_room d moves ≡ true
  pub keeps : Keeps (after_moves d (without_forgets moves)) (after_moves d moves)
  pub full : (event : Event) → is_full (after_moves d moves) event ≡ true → is_full (after_moves d (without_forgets moves)) event ≡ true
