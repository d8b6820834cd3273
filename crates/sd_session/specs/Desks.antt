-- A session at a desk, where others move the daemon on.
use Rattle.std.specs.Prelude.{ℕ, List, Option}
use Rattle.sd_base.specs.declared.io.Sink as sinks
use Rattle.sd_base.specs.declared.io.Source as sources
use Rattle.sd_rules.specs.declared.events.Event.{Event}
use Rattle.sd_rules.specs.declared.events.Event.TheVariants.{Collect}
use Rattle.sd_rules.specs.declared.replies.Given.{Given}
use Rattle.sd_rules.specs.Reaching.{Reaches}
use Rattle.sd_rules.specs.Steps.{Daemon}
use Rattle.sd_conf.specs.declared.config.Config.{Config}
use Rattle.sd_clock.specs.declared.clock.Clock as clocks
use Rattle.sd_dial.specs.declared.dialer.Dialer as dialers
use Rattle.sd_desk.specs.declared.desk.Desk.{Desk}
use Rattle.sd_desk.specs.declared.seat.DeskSeat.{DeskSeat}
use Rattle.sd_desk.specs.Desks.{config_of, front, mine, salts_of}
use Rattle.sd_desk.specs.Steps.{FullAfterForget, IsPending}
use Rattle.sd_engine.specs.declared.ending.SessionEnd.{SessionEnd}
use Rattle.sd_engine.specs.Engines.{Engine}
use Rattle.sd_session.specs.Closing.{HasLeft}
use Rattle.sd_session.specs.Headline as headline
use Rattle.sd_session.specs.Running as running
use Rattle.sd_session.specs.Sessions.{Company, Trace}
use Rattle.sd_session.specs.Stepping as stepping
use Rattle.sd_session.specs.Withdrawing as withdrawing

-- No ticket is collected over a journal in which its request is open, so nobody polls through the journal.
abbrev pub IsReady : Daemon → Event → Type 0
IsReady d (Collect ticket) = (request : ℕ) → IsPending d.past ticket request → ⊥
IsReady d _ = Unit {0}

-- a ticket is collected without a look at its request only where it waits no more
abbrev pub MayCollect : Daemon → Event → Type 0
MayCollect d (Collect ticket) = HasLeft ticket d
MayCollect d _ = Unit {0}

-- Others make of the daemon what is reached from it. A journal is full for a session only where it forgot once since its last own
-- entry, and the journal has no room after that either.
abbrev pub at_desk : Company
at_desk = record { others = λ d e. Reaches d e; ready = IsReady; full = λ s event count. FullAfterForget s.own_end s.daemon event count }

-- of a seat its own entries are told
abbrev pub trace_at : Option (List ℕ) → DeskSeat → Trace
trace_at readings seat = record { readings = readings; entries = mine seat }

-- ---- what a seat does, at a clock that tells k

module _ {C : Type 0} (k : clocks.Ghosts C) (desk : Desk) where
  -- a step was made at a reading of the clock, over the daemon that the seat found, and gave this
  abbrev pub MakesStep : Event → Given → DeskSeat → C → DeskSeat → C → Type 0
  MakesStep event gave seat clock seat' clock' =
      stepping.IsMade at_desk (front desk seat) event gave (front desk seat') (trace_at (k.readings clock) seat) (trace_at (k.readings clock') seat')

  -- a step was refused at a reading of the clock, over the daemon that the seat found, with this end
  abbrev pub RefusesStep : Event → SessionEnd → DeskSeat → C → DeskSeat → C → Type 0
  RefusesStep event ending seat clock seat' clock' =
      stepping.IsRefused at_desk (front desk seat) event ending (front desk seat') (trace_at (k.readings clock) seat) (trace_at (k.readings clock') seat')

  -- the clock was read, and the seat made no step
  abbrev pub MakesNoStep : DeskSeat → C → DeskSeat → C → Type 0
  MakesNoStep seat clock seat' clock' = stepping.IsWaited at_desk (front desk seat) (front desk seat') (trace_at (k.readings clock) seat) (trace_at (k.readings clock') seat')

  -- the seat's steps go on, or end the session
  abbrev pub StepsOn : Option SessionEnd → Engine → DeskSeat → C → Engine → DeskSeat → C → Type 0
  StepsOn ending e seat clock f seat' clock' =
      running.TurnedBySteps at_desk ending e (front desk seat) (trace_at (k.readings clock) seat) f (front desk seat') (trace_at (k.readings clock') seat')

  -- at an end that leaves something, these are given up
  abbrev pub MayTry : SessionEnd → List Event → DeskSeat → C → DeskSeat → C → Type 0
  MayTry ending events seat clock seat' clock' =
      withdrawing.MayTry at_desk (withdrawing.is_abrupt ending) events (front desk seat) (front desk seat') (trace_at (k.readings clock) seat) (trace_at (k.readings clock') seat')

-- ---- sessions over a source, a sink, a dialer and a clock, which tell r, w, t and k

-- what is told of the outside of a session at a desk
abbrev pub outside : {S W D Line C : Type 0} → sources.Ghosts S → sinks.Ghosts W → dialers.Ghosts D Line → clocks.Ghosts C → DeskSeat → S → W → D → C → running.Outside
outside r w t k seat source sink dialer clock = running.outside_of r w t source sink dialer (trace_at (k.readings clock) seat)

module _ {S W D Line C : Type 0} (r : sources.Ghosts S) (w : sinks.Ghosts W) (t : dialers.Ghosts D Line) (k : clocks.Ghosts C) (desk : Desk) where
  -- a turn goes on, or ends the session
  abbrev pub Turned : List ℕ → Config → Option SessionEnd → Engine → DeskSeat → S → W → D → C → Engine → DeskSeat → S → W → D → C → Type 0
  Turned seed config ending e seat source sink dialer clock f seat' source' sink' dialer' clock' =
      running.Turned at_desk seed config ending e (front desk seat) (outside r w t k seat source sink dialer clock) f (front desk seat') (outside r w t k seat' source' sink' dialer' clock')

  -- a session ran to its end, and what its engine then leads
  abbrev pub RanTo : List ℕ → Config → SessionEnd → DeskSeat → S → W → D → C → Engine → DeskSeat → S → W → D → C → Type 0
  RanTo seed config ending seat source sink dialer clock engine seat' source' sink' dialer' clock' =
      running.RanTo at_desk seed config (front desk seat) (outside r w t k seat source sink dialer clock) ending engine (front desk seat') (outside r w t k seat' source' sink' dialer' clock')

  -- a whole session, with the salts and the configuration of the desk
  abbrev pub Session : SessionEnd → DeskSeat → S → W → D → C → DeskSeat → S → W → D → C → Type 0
  Session ending seat source sink dialer clock seat' source' sink' dialer' clock' =
      withdrawing.Session at_desk (salts_of desk) (config_of desk) (front desk seat) (outside r w t k seat source sink dialer clock) ending
      (front desk seat') (outside r w t k seat' source' sink' dialer' clock')

  -- the headline of a session at a desk
  abbrev pub Headline : DeskSeat → S → W → D → C → DeskSeat → S → W → D → C → Type 0
  Headline seat source sink dialer clock seat' source' sink' dialer' clock' =
      headline.Headline at_desk (salts_of desk) (config_of desk) (front desk seat) (outside r w t k seat source sink dialer clock)
      (front desk seat') (outside r w t k seat' source' sink' dialer' clock')
