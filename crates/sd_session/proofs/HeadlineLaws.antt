-- The headline of a session, by what is said of the session.
use Rattle.std.proofs.Common.{◌≡◌, ℕ, List, [], ◌∷◌, Option, refl}
use Rattle.sd_rules.specs.Steps.{Daemon}
use Rattle.sd_conf.specs.declared.config.Config.{Config}
use Rattle.sd_dial.specs.Entries.{Behind}
use Rattle.sd_engine.specs.declared.ending.SessionEnd.{SessionEnd}
use Rattle.sd_session.specs.Desks.{at_desk}
use Rattle.sd_session.specs.Headline.{AreOwnReplies, Headline}
use Rattle.sd_session.specs.Running.{Outside}
use Rattle.sd_session.specs.Sessions.{Move, Finds, Hears, Steps, Refuses, Fetches, Binds, Tells, Breaks, Finishes, AllMay}
use Rattle.sd_session.specs.Withdrawing.{Session}
use Rattle.sd_session.proofs.Sharing.{own_reaches, session_reaches}

own_replies : (seed : List ℕ) (config : Config) (behind : ℕ → Option Behind) (d : Daemon) (moves : List Move) → AllMay at_desk seed config behind d moves → AreOwnReplies seed config d moves
own_replies seed config behind d [] may = tt
own_replies seed config behind d (Steps now event ∷ moves) may = (record { at_its_entry = refl; after_all_seen = own_reaches seed config behind d moves may.1 }, own_replies seed config behind d moves may.1)
own_replies seed config behind d (Finds found ∷ moves) may = own_replies seed config behind d moves may.1
own_replies seed config behind d (Hears request ∷ moves) may = own_replies seed config behind d moves may.1
own_replies seed config behind d (Refuses now ∷ moves) may = own_replies seed config behind d moves may.1
own_replies seed config behind d (Fetches fetched operations lines fell ∷ moves) may = own_replies seed config behind d moves may.1
own_replies seed config behind d (Binds bound operations lines fell ∷ moves) may = own_replies seed config behind d moves may.1
own_replies seed config behind d (Tells said ∷ moves) may = own_replies seed config behind d moves may.1
own_replies seed config behind d (Breaks said count ∷ moves) may = own_replies seed config behind d moves may.1
own_replies seed config behind d (Finishes ∷ moves) may = own_replies seed config behind d moves may.1

pub headline_of : (seed : List ℕ) (config : Config) (d : Daemon) (before : Outside) (ending : SessionEnd) (daemon : Daemon) (now : Outside) → Session at_desk seed config d before ending daemon now → Headline at_desk seed config d before daemon now
headline_of seed config d before ending daemon now s = record {
  moves = s.ran.moves;
  every_reply_written = s.ran.written;
  the_daemons_reply_after_all_seen = own_replies seed config before.dialling.behind d s.ran.moves s.ran.may;
  answered = s.trace;
  at_own_entries = s.ran.trace;
  in_the_one_journal = session_reaches seed config d before ending daemon now s;
  whatever_others_do = s.ran.may;
  nothing_left_open = s.closed;
}
