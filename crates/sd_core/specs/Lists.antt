-- Lists of steps: the daemon after them, what they give, and where one is refused.
use Rattle.std.specs.Prelude.{◌≡◌, ℕ, Bool, true, not, ◌&&◌, List, [], ◌∷◌, ◌++◌}
use Rattle.sd_rules.specs.declared.replies.Given.{Given}
use Rattle.sd_rules.specs.declared.replies.Refused.{Refused}
use Rattle.sd_rules.specs.declared.replies.StepFault.TheVariants.{JournalFull}
use Rattle.sd_rules.specs.Steps.{Daemon, after, given, is_steppable, is_full, full_count}
use Rattle.sd_core.specs.declared.lists.ListFault.{ListFault}
use Rattle.sd_core.specs.declared.lists.ListFault.TheVariants as faults
use Rattle.sd_core.specs.declared.lists.Step.{Step}

-- each event can be stepped over the daemon that the steps before it leave
abbrev pub are_steppable : Daemon → List Step → Bool
are_steppable d [] = true
are_steppable d (s ∷ steps) = is_steppable d.past s.event && are_steppable (after d s.now s.event) steps

-- each step has room over the daemon that the steps before it leave
abbrev pub have_room : Daemon → List Step → Bool
have_room d [] = true
have_room d (s ∷ steps) = not (is_full d s.event) && have_room (after d s.now s.event) steps

-- the daemon after a list of steps
abbrev pub after_all : Daemon → List Step → Daemon
after_all d [] = d
after_all d (s ∷ steps) = after_all (after d s.now s.event) steps

-- what each step of a list gives
abbrev pub all_given : Daemon → List Step → List Given
all_given d [] = []
all_given d (s ∷ steps) = given d s.now s.event ∷ all_given (after d s.now s.event) steps

-- Some first steps of a list were made, each with room, and lead from one daemon to the other.
pub record LeadsTo (d e : Daemon) (steps : List Step) : Type 0 where
  pub first : List Step
  pub others : List Step
  pub whole : first ++ others ≡ steps
  pub room : have_room d first ≡ true
  pub reached : after_all d first ≡ e

-- A step of a list was refused: those before it were made, each with room, and gave what is handed back; its event is handed back,
-- and it counts as full only where it has no room, with the daemon's count.
pub record StopsAt (d e : Daemon) (steps : List Step) (gave : List Given) (refused : Refused) : Type 0 where
  pub first : List Step
  pub step : Step
  pub others : List Step
  pub whole : first ++ step ∷ others ≡ steps
  pub room : have_room d first ≡ true
  pub reached : after_all d first ≡ e
  pub answers : all_given d first ≡ gave
  pub event : refused.event ≡ step.event
  pub full : (n : ℕ) → refused.fault ≡ JournalFull n → (is_full e step.event ≡ true) × (n ≡ full_count e)

-- how a list of steps ends before its end
abbrev pub EndsEarly : Daemon → Daemon → List Step → ListFault → Type 0
EndsEarly d e steps (faults.Refused gave refused) = StopsAt d e steps gave refused
EndsEarly d e steps faults.Memory = LeadsTo d e steps
