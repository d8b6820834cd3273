-- A session over a core of its own, which nobody else moves on.
use Rattle.std.specs.Prelude.{ℕ, List, Option}
use Rattle.sd_base.specs.declared.io.Sink as sinks
use Rattle.sd_base.specs.declared.io.Source as sources
use Rattle.sd_rules.specs.declared.events.Event.{Event}
use Rattle.sd_rules.specs.Steps.{Daemon}
use Rattle.sd_conf.specs.declared.config.Config.{Config}
use Rattle.sd_clock.specs.declared.clock.Clock as clocks
use Rattle.sd_dial.specs.declared.dialer.Dialer as dialers
use Rattle.sd_engine.specs.declared.ending.SessionEnd.{SessionEnd}
use Rattle.sd_engine.specs.Engines.{Engine}
use Rattle.sd_session.specs.Running as running
use Rattle.sd_session.specs.Sessions.{alone, trace_of}
use Rattle.sd_session.specs.Withdrawing as withdrawing

-- ---- what a session does, at a clock that tells k

module _ {C : Type 0} (k : clocks.Ghosts C) where
  -- the session's steps go on, or end it
  abbrev pub StepsOn : Option SessionEnd → Engine → Daemon → C → Engine → Daemon → C → Type 0
  StepsOn ending e core clock f core' clock' = running.TurnedBySteps alone ending e core (trace_of (k.readings clock) core) f core' (trace_of (k.readings clock') core')

  -- at an end that leaves something, these are given up
  abbrev pub MayTry : SessionEnd → List Event → Daemon → C → Daemon → C → Type 0
  MayTry ending events core clock core' clock' =
      withdrawing.MayTry alone (withdrawing.is_abrupt ending) events core core' (trace_of (k.readings clock) core) (trace_of (k.readings clock') core')

-- ---- sessions over a source, a sink, a dialer and a clock, which tell r, w, t and k

-- what is told of the outside of a session over this core
abbrev pub outside : {S W D Line C : Type 0} → sources.Ghosts S → sinks.Ghosts W → dialers.Ghosts D Line → clocks.Ghosts C → Daemon → S → W → D → C → running.Outside
outside r w t k core source sink dialer clock = running.outside_of r w t source sink dialer (trace_of (k.readings clock) core)

module _ {S W D Line C : Type 0} (r : sources.Ghosts S) (w : sinks.Ghosts W) (t : dialers.Ghosts D Line) (k : clocks.Ghosts C) where
  -- a turn goes on, or ends the session
  abbrev pub Turned : List ℕ → Config → Option SessionEnd → Engine → Daemon → S → W → D → C → Engine → Daemon → S → W → D → C → Type 0
  Turned seed config ending e core source sink dialer clock f core' source' sink' dialer' clock' =
      running.Turned alone seed config ending e core (outside r w t k core source sink dialer clock) f core' (outside r w t k core' source' sink' dialer' clock')

  -- a session ran to its end, and what its engine then leads
  abbrev pub RanTo : List ℕ → Config → SessionEnd → Daemon → S → W → D → C → Engine → Daemon → S → W → D → C → Type 0
  RanTo seed config ending core source sink dialer clock engine core' source' sink' dialer' clock' =
      running.RanTo alone seed config core (outside r w t k core source sink dialer clock) ending engine core' (outside r w t k core' source' sink' dialer' clock')

  -- a whole session
  abbrev pub Session : List ℕ → Config → SessionEnd → Daemon → S → W → D → C → Daemon → S → W → D → C → Type 0
  Session seed config ending core source sink dialer clock core' source' sink' dialer' clock' =
      withdrawing.Session alone seed config core (outside r w t k core source sink dialer clock) ending core' (outside r w t k core' source' sink' dialer' clock')
