-- The headline of a session, phrase by phrase: every reply that the session writes is the abstract daemon's reply, at the session's own
-- entry, in the one journal, after all that the session had seen, whatever others do meanwhile; and it leaves nothing open.
use Rattle.std.specs.Prelude.{◌≡◌, ℕ, List, [], ◌∷◌}
use Rattle.std.specs.Io.KnownBytes.{Appends}
use Rattle.sd_rules.specs.declared.events.Event.{Event}
use Rattle.sd_rules.specs.Reaching.{Reaches}
use Rattle.sd_rules.specs.Steps.{Daemon, entry_made, given}
use Rattle.sd_conf.specs.declared.config.Config.{Config}
use Rattle.sd_session.specs.Closing.{NoneReserved}
use Rattle.sd_session.specs.Running.{Outside}
use Rattle.sd_session.specs.Sessions.{Company, Move, Steps, Stand, Trace, AllMay, TracesOn, stand_after}

-- an own step gives what the abstract daemon replies at its entry, over a journal that came of all that the session had seen
pub record IsOwnReply (s : Stand) (now : ℕ) (event : Event) : Type 0 where
  pub at_its_entry : (given s.daemon now event).reply ≡ (entry_made s.daemon now event).reply
  pub after_all_seen : Reaches s.own_end s.daemon

-- the same of each own step
abbrev pub AreOwnReplies : List ℕ → Config → Daemon → List Move → Type 0
AreOwnReplies seed config d [] = Unit {0}
AreOwnReplies seed config d (Steps now event ∷ moves) = IsOwnReply (stand_after seed config d moves) now event × AreOwnReplies seed config d moves
AreOwnReplies seed config d (move ∷ moves) = AreOwnReplies seed config d moves

-- The moves say what is written: each reply is what a script says by the replies to its own events so far.
pub record Headline (w : Company) (seed : List ℕ) (config : Config) (d : Daemon) (before : Outside) (daemon : Daemon) (now : Outside) : Type 0 where
  pub moves : List Move
  pub every_reply_written : Appends before.held now.held (stand_after seed config d moves).written
  pub the_daemons_reply_after_all_seen : AreOwnReplies seed config d moves
  pub answered : Trace
  pub at_own_entries : TracesOn before.trace (stand_after seed config d moves) answered
  pub in_the_one_journal : Reaches d daemon
  pub whatever_others_do : AllMay w seed config before.dialling.behind d moves
  pub nothing_left_open : NoneReserved daemon (stand_after seed config d moves).own
