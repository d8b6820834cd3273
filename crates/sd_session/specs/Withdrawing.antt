-- What a session gives up at its end: it abandons what it leads, and its ticket leaves.
use Rattle.std.specs.Prelude.{◌≡◌, ℕ, Bool, true, false, List, [], ◌∷◌, ◌++◌, map, Option, Some, None, if◌then◌else◌}
use Rattle.sd_rules.specs.declared.events.Event.{Event}
use Rattle.sd_rules.specs.declared.events.Event.TheVariants.{Abandon, Leave}
use Rattle.sd_rules.specs.declared.replies.Entry.{Entry}
use Rattle.sd_rules.specs.Steps.{Daemon, after, entry_made}
use Rattle.sd_conf.specs.declared.config.Config.{Config}
use Rattle.sd_engine.specs.declared.ending.SessionEnd.{SessionEnd}
use Rattle.sd_engine.specs.declared.ending.SessionEnd.TheVariants as ends
use Rattle.sd_session.specs.Closing.{AreOwn, NoneReserved}
use Rattle.sd_session.specs.Sessions.{Company, Trace, ReadsOn, stand_after}
use Rattle.sd_session.specs.Running.{Outside, Ran, tracing}

-- An event at a moment handed in, over the daemon that was found, and whether its step was made.
pub record Try : Type 0 where
  pub found : Daemon
  pub now : ℕ
  pub event : Event
  pub is_made : Bool

-- the daemon after tries, the newest first
abbrev pub after_tries : Daemon → List Try → Daemon
after_tries d [] = d
after_tries d (t ∷ tries) = if t.is_made then after t.found t.now t.event else t.found

abbrev pub moments_of : List Try → List ℕ
moments_of [] = []
moments_of (t ∷ tries) = moments_of tries ++ t.now ∷ []

-- the events tried, the first first
abbrev pub events_of : List Try → List Event
events_of [] = []
events_of (t ∷ tries) = events_of tries ++ t.event ∷ []

-- requests and attempts are abandoned, each once, and then a ticket leaves
abbrev pub abandoning : List ℕ → List Event
abandoning numbers = map Abandon numbers

abbrev pub leaving : Option ℕ → List Event
leaving None = []
leaving (Some ticket) = Leave ticket ∷ []

abbrev pub giving_up : List ℕ → Option ℕ → List Event
giving_up leads ticket = abandoning leads ++ leaving ticket

-- a request or attempt is abandoned, or a ticket leaves
abbrev pub gives_up : Event → Bool
gives_up (Abandon n) = true
gives_up (Leave ticket) = true
gives_up _ = false

-- the entries of the steps that were made
abbrev pub entries_of : List Try → List Entry
entries_of [] = []
entries_of (t ∷ tries) = if t.is_made then entries_of tries ++ entry_made t.found t.now t.event ∷ [] else entries_of tries

-- each try gives something up, over a daemon that others may have made of the one before
abbrev pub AllGiveUp : Company → Daemon → List Try → Type 0
AllGiveUp w d [] = Unit {0}
AllGiveUp w d (t ∷ tries) = (gives_up t.event ≡ true) × w.others (after_tries d tries) t.found × AllGiveUp w d tries

-- these events are tried, one after the other
pub record Withdraws (w : Company) (events : List Event) (d daemon : Daemon) (before now : Trace) : Type 0 where
  pub tries : List Try
  pub give_up : AllGiveUp w d tries
  pub are : events_of tries ≡ events
  pub given_up : daemon ≡ after_tries d tries
  pub read : ReadsOn before.readings (moments_of tries) now.readings
  pub entries : now.entries ≡ before.entries ++ entries_of tries

abbrev pub is_abrupt : SessionEnd → Bool
is_abrupt (ends.JournalFull count) = true
is_abrupt ends.Memory = true
is_abrupt _ = false

-- they are tried where an end leaves something to give up
abbrev pub MayTry : Company → Bool → List Event → Daemon → Daemon → Trace → Trace → Type 0
MayTry w true events d daemon before now = Withdraws w events d daemon before now
MayTry w false events d daemon before now = (daemon ≡ d) × (now ≡ before)

-- What is given up are numbers of own entries, each once.
pub record WithdrawsOwn (w : Company) (own : List Entry) (d daemon : Daemon) (before now : Trace) : Type 0 where
  pub leads : List ℕ
  pub ticket : Option ℕ
  pub are_own : AreOwn leads ticket own
  pub withdraws : Withdraws w (giving_up leads ticket) d daemon before now

-- only a full journal and want of memory leave something to give up
abbrev pub MayWithdraw : Company → Bool → List Entry → Daemon → Daemon → Trace → Trace → Type 0
MayWithdraw w true own d daemon before now = WithdrawsOwn w own d daemon before now
MayWithdraw w false own d daemon before now = (daemon ≡ d) × (now ≡ before)

-- A whole session from the daemon d on: it runs to its end, and then gives up what it has to, which is its own. Nothing that its own
-- entries opened is open then, and no ticket that they gave waits.
pub record Session (w : Company) (seed : List ℕ) (config : Config) (d : Daemon) (before : Outside) (ending : SessionEnd) (daemon : Daemon) (now : Outside) : Type 0 where
  pub between : Daemon
  pub trace : Trace
  pub ran : Ran w seed config d before ending between (tracing now trace)
  pub withdraws : MayWithdraw w (is_abrupt ending) (stand_after seed config d ran.moves).own between daemon trace now.trace
  pub closed : NoneReserved daemon (stand_after seed config d ran.moves).own
