-- Where a session stands between its turns, and how it ends.
use Rattle.std.specs.Prelude.{◌≡◌, ◌≢◌, ◌⊎◌, ℕ, ◌+◌, ◌≤◌, Bool, true, false, List, [], ◌++◌, length, Option, Some, None, IfSome}
use Rattle.std.specs.Io.KnownBytes.{Appends, Consumes, IsAtEnd}
use Rattle.sd_base.specs.Causes.{Rose}
use Rattle.sd_base.specs.declared.io.Sink as sinks
use Rattle.sd_base.specs.declared.io.Source as sources
use Rattle.sd_rules.specs.declared.events.Event.{Event}
use Rattle.sd_rules.specs.declared.replies.Entry.{Entry}
use Rattle.sd_rules.specs.declared.replies.Given.{Given}
use Rattle.sd_rules.specs.Steps.{Daemon, is_full, full_count}
use Rattle.sd_conf.specs.declared.config.Config.{Config}
use Rattle.sd_dial.specs.Operations.{Operation}
use Rattle.sd_dial.specs.declared.dialer.Dialer as dialers
use Rattle.sd_engine.specs.Counting.{HasNotFallen}
use Rattle.sd_rules.specs.declared.keys.Key.{Key}
use Rattle.sd_rules.specs.declared.tasks.Bound.TheVariants as bounds
use Rattle.sd_rules.specs.declared.tasks.Fetched.TheVariants as fetches
use Rattle.sd_rules.specs.declared.tasks.Need.TheVariants as needs
use Rattle.sd_engine.specs.Binds.{BindOperations}
use Rattle.sd_engine.specs.Lookups.{LookupOperations, with_operations}
use Rattle.sd_engine.specs.Received.{with_lines}
use Rattle.sd_wire.specs.Frames.{IsCut, IsBad}
use Rattle.sd_rules.specs.Scripts.{event_of, is_need_of_kind, key_at}
use Rattle.sd_engine.specs.Courses.{Client, need_of, script_at}
use Rattle.sd_session.specs.Spoken.{IsSpoken}
use Rattle.sd_engine.specs.declared.ending.SessionEnd.{SessionEnd}
use Rattle.sd_engine.specs.declared.ending.SessionEnd.TheVariants as ends
use Rattle.sd_engine.specs.Engines.{Engine, replied}
use Rattle.sd_engine.specs.Leading.{about, leads_after, ticket_after}
use Rattle.sd_engine.specs.Turns.{Dialling, dialling_of}
use Rattle.sd_session.specs.Holding.{is_told}
use Rattle.sd_session.specs.Picking.{AsksBehindPick, IsBehindPick}
use Rattle.sd_session.specs.Closing.{Accounts, AreLed, AreOwn, NoneReserved}
use Rattle.sd_session.specs.Sessions.{Company, Move, Stand, Trace, AllMay, IsListening, TracesOn, stand_after, frames_of, last_stops, CountsFalls, count_of}

-- What is told of the outside at a moment: the bytes left, the bytes held, the session's own steps, the counts of faults of source and
-- sink, and what the dialer tells.
pub record Outside : Type 0 where
  pub left : Option (List ℕ)
  pub held : Option (List ℕ)
  pub trace : Trace
  pub reads : ℕ
  pub writes : ℕ
  pub dialling : Dialling

-- the request in hand has the salts of the session, and the journal knows what it names
pub record IsInHand (seed : List ℕ) (daemon : Daemon) (client : Client) : Type 0 where
  pub salted : client.seed ≡ seed
  pub known : IsSpoken daemon client.course

-- the bytes taken are the frames of the requests heard, and those that were not heard yet
pub record IsHeardTo (s : Stand) (engine : Engine) (before now : Outside) : Type 0 where
  pub consumed : Consumes before.left now.left (frames_of s.requests ++ engine.inbox.bytes)
  pub place : engine.inbox.place ≡ length (frames_of s.requests)
  pub stops : engine.stops ≡ last_stops s.requests
  pub reads : before.reads ≤ now.reads

-- where an answer could not be written whole, its client counts as told
abbrev pub WasTold : Bool → Option Client → Type 0
WasTold false client = Unit {0}
WasTold true None = ⊥
WasTold true (Some client) = is_told client.course ≡ true

-- the bytes written are those told; where the last answer could not be written whole, the sink has failed
pub record IsWrittenTo (s : Stand) (engine : Engine) (before now : Outside) : Type 0 where
  pub written : Appends before.held now.held s.written
  pub broken : engine.has_failed ≡ s.broken
  pub told : WasTold engine.has_failed engine.client
  pub failed : s.broken ≡ true → Rose before.writes now.writes
  pub writes : before.writes ≤ now.writes

-- the operations asked, the bytes received on each line, and the falls counted; the directories stay
pub record IsAskedTo (s : Stand) (before now : Dialling) : Type 0 where
  pub operations : now.operations ≡ with_operations before.operations s.operations
  pub received : now.received ≡ with_lines before.received s.received
  pub behind : (i : ℕ) → now.behind i ≡ before.behind i
  pub falls : CountsFalls before.faults s.falls now.faults
  pub later : HasNotFallen before.faults now.faults

-- the request in hand; without one the session was not told to stop; a server that it asks was picked
pub record HasInHand (seed : List ℕ) (s : Stand) (engine : Engine) (daemon : Daemon) : Type 0 where
  pub same : daemon ≡ s.daemon
  pub client : engine.client ≡ s.client
  pub in_hand : IfSome engine.client (IsInHand seed daemon)
  pub going : engine.client ≡ None → engine.stops ≡ false
  pub picked : IsBehindPick engine.client s.own

-- Between two turns: the moves so far, each of which the session might make, led from the daemon d to this one and to the request in
-- hand; and what the outside tells is by these moves.
pub record Stands (w : Company) (seed : List ℕ) (config : Config) (d : Daemon) (before : Outside) (engine : Engine) (daemon : Daemon) (now : Outside) : Type 0 where
  pub moves : List Move
  pub may : AllMay w seed config before.dialling.behind d moves
  pub hand : HasInHand seed (stand_after seed config d moves) engine daemon
  pub heard : IsHeardTo (stand_after seed config d moves) engine before now
  pub written : IsWrittenTo (stand_after seed config d moves) engine before now
  pub trace : TracesOn before.trace (stand_after seed config d moves) now.trace
  pub asked : IsAskedTo (stand_after seed config d moves) before.dialling now.dialling
  pub account : Accounts daemon engine.leads engine.ticket engine.client (stand_after seed config d moves).own

-- ---- ends

-- the bytes taken are the frames heard and these
abbrev pub Took : Stand → List ℕ → Outside → Outside → Type 0
Took s rest before now = Consumes before.left now.left (frames_of s.requests ++ rest)

-- some bytes behind the frames heard were taken
pub record TookMore (s : Stand) (before now : Outside) : Type 0 where
  pub rest : List ℕ
  pub taken : Took s rest before now

-- the input ended inside a frame
pub record IsCutOff (s : Stand) (before now : Outside) : Type 0 where
  pub rest : List ℕ
  pub some : rest ≢ []
  pub cut : IsCut rest
  pub taken : Took s rest before now
  pub at_end : IsAtEnd now.left

-- bytes behind the frames heard begin no frame, from this place of the input on
pub record IsBadAt (at : ℕ) (s : Stand) (before now : Outside) : Type 0 where
  pub rest : List ℕ
  pub bad : IsBad rest
  pub place : at ≡ length (frames_of s.requests)
  pub taken : Took s rest before now

-- so many bytes, 1 GiB, were read, with no whole frame behind those heard, and one more came
pub record IsTooLong (count : ℕ) (s : Stand) (before now : Outside) : Type 0 where
  pub rest : List ℕ
  pub piece : List ℕ
  pub limit : count ≡ 1073741824
  pub read : length (frames_of s.requests ++ rest) ≡ 1073741824
  pub one : length piece ≡ 1
  pub cut : IsCut rest
  pub taken : Took s (rest ++ piece) before now

-- the source failed, and no whole frame is behind those heard
pub record IsUnread (s : Stand) (before now : Outside) : Type 0 where
  pub rest : List ℕ
  pub cut : IsCut rest
  pub taken : Took s rest before now
  pub failed : Rose before.reads now.reads

-- the daemon has no room for the event that the request in hand needs
pub record IsFullFor (w : Company) (count : ℕ) (s : Stand) : Type 0 where
  pub client : Client
  pub in_hand : s.client ≡ Some client
  pub event : Event
  pub needed : event_of (need_of client) ≡ Some event
  pub full : is_full s.daemon event ≡ true
  pub counted : count ≡ full_count s.daemon
  pub forgot : w.full s event count

-- Why a session ended where it stood. But for a fault of the sink, a full journal and want of memory, each request that was heard is
-- carried out, and its answer was written whole. Behind the answer to a stop the session ends as stopped.
abbrev pub EndsAs : Company → SessionEnd → Stand → Outside → Outside → Type 0
EndsAs w ends.Closed s before now = IsListening s × Took s [] before now × IsAtEnd now.left
EndsAs w ends.Stopped s before now = (s.client ≡ None) × (s.broken ≡ false) × (last_stops s.requests ≡ true) × TookMore s before now
EndsAs w ends.ReadFault s before now = IsListening s × IsUnread s before now
EndsAs w ends.WriteFault s before now = (s.client ≡ None) × (s.broken ≡ true) × TookMore s before now
EndsAs w (ends.BadFrame at) s before now = IsListening s × IsBadAt at s before now
EndsAs w ends.Cut s before now = IsListening s × IsCutOff s before now
EndsAs w (ends.Long count) s before now = IsListening s × IsTooLong count s before now
EndsAs w (ends.JournalFull count) s before now = IsFullFor w count s × TookMore s before now
EndsAs w ends.Memory s before now = TookMore s before now

-- the operations, and the bytes received, of the lookup that the request in hand needed, for which memory was wanting
pub record LookedLast (config : Config) (s : Stand) (more : List Operation) (lines : List (List ℕ)) (fell : Bool) : Type 0 where
  pub client : Client
  pub in_hand : s.client ≡ Some client
  pub server : ℕ
  pub key : Key
  pub needed : need_of client ≡ needs.Fetch server key
  pub asked : LookupOperations config key server fetches.Memory (fell ≡ true) more lines

-- the same of a bind
pub record BoundLast (s : Stand) (more : List Operation) (lines : List (List ℕ)) (fell : Bool) : Type 0 where
  pub client : Client
  pub in_hand : s.client ≡ Some client
  pub server : ℕ
  pub dn : List ℕ
  pub password : List ℕ
  pub needed : need_of client ≡ needs.Bind server dn password
  pub asked : BindOperations dn password server bounds.Memory (fell ≡ true) more lines

abbrev pub AskedLast : Config → Stand → List Operation → List (List ℕ) → Bool → Type 0
AskedLast config s more lines fell = ((more ≡ []) × (lines ≡ [])) ⊎ (LookedLast config s more lines fell ⊎ BoundLast s more lines fell)

-- what a lookup or a bind asked for which memory was then wanting, and whether it counted a fall of its link
pub record AskedMore (config : Config) (s : Stand) (before now : Outside) : Type 0 where
  pub more : List Operation
  pub lines : List (List ℕ)
  pub fell : Bool
  pub last : AskedLast config s more lines fell
  pub falls : CountsFalls before.dialling.faults (s.falls + count_of fell) now.dialling.faults
  pub told : now.dialling.operations ≡ with_operations before.dialling.operations (s.operations ++ more)
  pub received : now.dialling.received ≡ with_lines before.dialling.received (s.received ++ lines)

-- all that was asked and received is of the moves
pub record AskedAll (s : Stand) (before now : Dialling) : Type 0 where
  pub operations : now.operations ≡ with_operations before.operations s.operations
  pub received : now.received ≡ with_lines before.received s.received

-- The operations asked, and the bytes received, are those of the moves; where memory was wanting, the last lookup or bind is no move.
abbrev pub Asked : Config → SessionEnd → Stand → Outside → Outside → Type 0
Asked config ends.Memory s before now = AskedMore config s before now
Asked config _ s before now = AskedAll s before.dialling now.dialling

-- A session from the daemon d on: its moves, and why it ended there. By the scripts a server is asked only behind a Pick, and nothing is
-- asked for a fresh hit or a Join.
pub record Ran (w : Company) (seed : List ℕ) (config : Config) (d : Daemon) (before : Outside) (ending : SessionEnd) (daemon : Daemon) (now : Outside) : Type 0 where
  pub moves : List Move
  pub may : AllMay w seed config before.dialling.behind d moves
  pub stepped : daemon ≡ (stand_after seed config d moves).daemon
  pub written : Appends before.held now.held (stand_after seed config d moves).written
  pub trace : TracesOn before.trace (stand_after seed config d moves) now.trace
  pub operations : Asked config ending (stand_after seed config d moves) before now
  pub falls : CountsFalls before.dialling.faults (stand_after seed config d moves).falls now.dialling.faults
  pub why : EndsAs w ending (stand_after seed config d moves) before now
  pub asks : AsksBehindPick
  pub failed : (stand_after seed config d moves).broken ≡ true → Rose before.writes now.writes
  pub reads : before.reads ≤ now.reads
  pub writes : before.writes ≤ now.writes

-- all that own entries opened is led, where it is open, and nothing else is led
pub record IsLeft (d : Daemon) (engine : Engine) (own : List Entry) : Type 0 where
  pub led : AreLed d engine.leads engine.ticket own
  pub are_own : AreOwn engine.leads engine.ticket own

-- What is open of what own entries opened: only a full journal and want of memory leave something, which the session leads.
abbrev pub Unfinished : SessionEnd → Daemon → Engine → List Entry → Type 0
Unfinished (ends.JournalFull count) d engine own = IsLeft d engine own
Unfinished ends.Memory d engine own = IsLeft d engine own
Unfinished _ d engine own = NoneReserved d own

-- a session that ran to its end, and what its engine then leads
pub record RanTo (w : Company) (seed : List ℕ) (config : Config) (d : Daemon) (before : Outside) (ending : SessionEnd) (engine : Engine) (daemon : Daemon) (now : Outside) : Type 0 where
  pub ran : Ran w seed config d before ending daemon now
  pub unfinished : Unfinished ending daemon engine (stand_after seed config d ran.moves).own

-- ---- parts of a turn

-- the outside at a moment
abbrev pub outside_at : Option (List ℕ) → Option (List ℕ) → Trace → ℕ → ℕ → Dialling → Outside
outside_at left held trace reads writes dialling = record { left = left; held = held; trace = trace; reads = reads; writes = writes; dialling = dialling }

-- the outside of a session over a source, a sink and a dialer that has made these own steps
abbrev pub outside_of : {S W D Line : Type 0} → sources.Ghosts S → sinks.Ghosts W → dialers.Ghosts D Line → S → W → D → Trace → Outside
outside_of r w t source sink dialer trace = outside_at (r.left source) (w.held sink) trace (r.faults source) (w.faults sink) (dialling_of t dialer)

-- the same with other own steps
abbrev pub tracing : Outside → Trace → Outside
tracing o trace = record { left = o.left; held = o.held; trace = trace; reads = o.reads; writes = o.writes; dialling = o.dialling }

-- an engine whose request in hand needs an event, which it named
pub record Awaits (daemon : Daemon) (engine : Engine) (event : Event) : Type 0 where
  pub client : Client
  pub is : engine.client ≡ Some client
  pub needed : event_of (need_of client) ≡ Some event
  pub kind : is_need_of_kind (key_at (script_at client)) (need_of client) ≡ true
  pub known : IsSpoken daemon client.course
  pub ready : engine.is_ready ≡ true
  pub about_it : engine.about ≡ about event

-- what is led and waited with is by the reply
pub record LeadsOn (old : Engine) (gave : Given) (new : Engine) : Type 0 where
  pub leads : new.leads ≡ leads_after old.leads old.about gave.reply
  pub ticket : new.ticket ≡ ticket_after old.ticket gave.reply

-- what a step gave was told to the engine, or memory was wanting
abbrev pub TellsOf : Option SessionEnd → Engine → Given → Engine → Type 0
TellsOf None old gave new = IfSome old.client (λ c. new ≡ replied old c gave)
TellsOf (Some ending) old gave new = (ending ≡ ends.Memory) × LeadsOn old gave new

-- what goes on: wherever the session stood before, it stands after
abbrev pub GoesOn : Company → List ℕ → Config → Engine → Daemon → Outside → Engine → Daemon → Outside → Type 0
GoesOn w seed config e daemon o f daemon' p = (d : Daemon) (before : Outside) → Stands w seed config d before e daemon o → Stands w seed config d before f daemon' p

-- what ends: wherever the session stood before, it ran from there to this end
abbrev pub EndsIn : Company → List ℕ → Config → SessionEnd → Engine → Daemon → Outside → Engine → Daemon → Outside → Type 0
EndsIn w seed config ending e daemon o f daemon' p = (d : Daemon) (before : Outside) → Stands w seed config d before e daemon o → RanTo w seed config d before ending f daemon' p

-- a turn goes on, or ends the session
abbrev pub Turned : Company → List ℕ → Config → Option SessionEnd → Engine → Daemon → Outside → Engine → Daemon → Outside → Type 0
Turned w seed config None e daemon o f daemon' p = GoesOn w seed config e daemon o f daemon' p
Turned w seed config (Some ending) e daemon o f daemon' p = EndsIn w seed config ending e daemon o f daemon' p

-- own steps go on, or end the session, whatever else is told of the outside
abbrev pub TurnedBySteps : Company → Option SessionEnd → Engine → Daemon → Trace → Engine → Daemon → Trace → Type 0
TurnedBySteps w ending e daemon trace f daemon' trace' =
    (seed : List ℕ) (config : Config) (o : Outside) → Turned w seed config ending e daemon (tracing o trace) f daemon' (tracing o trace')
