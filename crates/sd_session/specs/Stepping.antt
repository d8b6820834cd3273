-- What a step at a reading of the clock comes to.
use Rattle.std.specs.Prelude.{◌≡◌, ℕ, ◌++◌, true, false, [], ◌∷◌}
use Rattle.sd_rules.specs.declared.events.Event.{Event}
use Rattle.sd_rules.specs.declared.replies.Given.{Given}
use Rattle.sd_rules.specs.declared.replies.StepFault.{StepFault}
use Rattle.sd_rules.specs.declared.replies.StepFault.TheVariants as faults
use Rattle.sd_rules.specs.Steps.{Daemon, after, entry_made, given, is_full, full_count}
use Rattle.sd_clock.specs.Readings.{FollowsOn}
use Rattle.sd_core.specs.Laws.{IsKept}
use Rattle.sd_core.specs.Sound.{found_fits}
use Rattle.sd_engine.specs.declared.ending.SessionEnd.{SessionEnd}
use Rattle.sd_engine.specs.declared.ending.SessionEnd.TheVariants as ends
use Rattle.sd_session.specs.Sessions.{Company, Trace}

-- the step was made at a reading, over the daemon that was found, and gave what that gives; its entry is an own one
pub record IsMade (w : Company) (old : Daemon) (event : Event) (gave : Given) (new : Daemon) (before later : Trace) : Type 0 where
  pub found : Daemon
  pub others : w.others old found
  pub now : ℕ
  pub read : FollowsOn before.readings now later.readings
  pub made : new ≡ after found now event
  pub gives : gave ≡ given found now event
  pub fits : found_fits found.past event gave.found ≡ true
  pub kept : IsKept found
  pub room : is_full found event ≡ false
  pub ready : w.ready found event
  pub entries : later.entries ≡ before.entries ++ entry_made found now event ∷ []

-- the end of a session whose step was refused
abbrev pub end_of : StepFault → SessionEnd
end_of (faults.JournalFull count) = ends.JournalFull count
end_of faults.Memory = ends.Memory

-- a step is refused as full where the daemon has no room for it, and else for want of memory
abbrev pub RefusedAs : Daemon → Event → SessionEnd → Type 0
RefusedAs old event (ends.JournalFull count) = (is_full old event ≡ true) × (count ≡ full_count old)
RefusedAs old event ends.Memory = Unit {0}
RefusedAs old event _ = ⊥

-- the step was refused at a reading, over the daemon that was found; it made no entry
pub record IsRefused (w : Company) (old : Daemon) (event : Event) (ending : SessionEnd) (new : Daemon) (before later : Trace) : Type 0 where
  pub others : w.others old new
  pub now : ℕ
  pub read : FollowsOn before.readings now later.readings
  pub entries : later.entries ≡ before.entries
  pub why : RefusedAs new event ending

-- the clock was read and no step made, over the daemon that was found
pub record IsWaited (w : Company) (old new : Daemon) (before later : Trace) : Type 0 where
  pub others : w.others old new
  pub now : ℕ
  pub read : FollowsOn before.readings now later.readings
  pub entries : later.entries ≡ before.entries
