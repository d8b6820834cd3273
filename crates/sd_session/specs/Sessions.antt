-- A session: the moves that the scripts of its requests call for, over a daemon that others may move on in between.
use Rattle.std.specs.Prelude.{◌≡◌, ℕ, ◌+◌, ◌^◌, ◌-◌, ◌≤◌, min, Bool, true, false, List, [], ◌∷◌, ◌++◌, reverse, take, Option, Some, None}
use Rattle.std.specs.Option.{option_map}
use Rattle.sd_base.specs.declared.Why.TheVariants as whys
use Rattle.sd_rules.specs.declared.keys.Key.{Key}
use Rattle.sd_rules.specs.declared.events.Event.{Event}
use Rattle.sd_rules.specs.declared.replies.Entry.{Entry}
use Rattle.sd_rules.specs.declared.tasks.Bound.{Bound}
use Rattle.sd_rules.specs.declared.tasks.Bound.TheVariants as bounds
use Rattle.sd_rules.specs.declared.tasks.Fetched.{Fetched}
use Rattle.sd_rules.specs.declared.tasks.Fetched.TheVariants as fetches
use Rattle.sd_rules.specs.declared.tasks.Need.TheVariants as needs
use Rattle.sd_rules.specs.declared.tasks.Said.{Said}
use Rattle.sd_rules.specs.Steps.{Daemon, after, entry_made, given, is_full, is_steppable}
use Rattle.sd_rules.specs.Scripts.{event_of, is_out_of_memory, is_bind_out_of_memory}
use Rattle.sd_conf.specs.declared.config.Config.{Config}
use Rattle.sd_dial.specs.Entries.{Behind}
use Rattle.sd_dial.specs.Operations.{Operation}
use Rattle.sd_asking.specs.Binding.{told_bind, IsToldBind}
use Rattle.sd_fetch.specs.Lookup.{looked_up}
use Rattle.sd_fetch.specs.Told.{searches_of, first_failure}
use Rattle.sd_engine.specs.Lookups.{LookupOperations, IsToldFetch}
use Rattle.sd_engine.specs.Binds.{BindOperations}
use Rattle.sd_wire.specs.declared.requests.Request.{Request}
use Rattle.sd_wire.specs.Frames.{IsCarried, frame_of}
use Rattle.sd_engine.specs.Courses.{Client, need_of, client_told, client_replied, client_fetched, client_bound}
use Rattle.sd_engine.specs.Answering.{reply_of}
use Rattle.sd_engine.specs.Engines.{client_of, is_stop}
use Rattle.sd_session.specs.Picking.{IsPicked}

-- What a session does: it finds the daemon as others have moved it on; it hears the request of a frame; the event that the request in
-- hand needs is stepped at a moment handed in, or is not; a server is asked for a key, or asked to bind, with these operations and the
-- bytes received on the line, of which there is none where the dial failed, and a fall of the link is counted or is not; the client is told, or so many bytes of its reply are written
-- where the sink fails; the request in hand is carried out.
pub data Move : Type 0 where
  Finds : Daemon → Move
  Hears : Request → Move
  Steps : ℕ → Event → Move
  Refuses : ℕ → Move
  Fetches : Fetched → List Operation → List (List ℕ) → Bool → Move
  Binds : Bound → List Operation → List (List ℕ) → Bool → Move
  Tells : Said → Move
  Breaks : Said → ℕ → Move
  Finishes : Move

-- Where a session stands: the daemon; the one that its last own step made, at first the one that it began with; the request in hand;
-- the requests heard, the newest first; the bytes written; the own entries, the moments handed in, the operations asked and the bytes
-- received on each line, the first first; how many falls of links were counted; and whether an answer could not be written whole.
pub record Stand : Type 0 where
  pub daemon : Daemon
  pub own_end : Daemon
  pub client : Option Client
  pub requests : List Request
  pub written : List ℕ
  pub own : List Entry
  pub moments : List ℕ
  pub operations : List Operation
  pub received : List (List ℕ)
  pub falls : ℕ
  pub broken : Bool

abbrev pub begun : Daemon → Stand
begun d = record { daemon = d; own_end = d; client = None; requests = []; written = []; own = []; moments = []; operations = []; received = []; falls = 0; broken = false }

abbrev pub count_of : Bool → ℕ
count_of true = 1
count_of false = 0

abbrev pub moved : List ℕ → Config → Stand → Move → Stand
moved seed config s (Finds found) = record s { daemon = found }
moved seed config s (Hears request) = record s { client = Some (client_of seed config.settings request); requests = request ∷ s.requests }
moved seed config s (Steps now event) = record s {
  daemon = after s.daemon now event;
  own_end = after s.daemon now event;
  own = s.own ++ entry_made s.daemon now event ∷ [];
  client = option_map (λ c. client_replied c (given s.daemon now event)) s.client;
  moments = s.moments ++ now ∷ [];
}
moved seed config s (Refuses now) = record s { moments = s.moments ++ now ∷ [] }
moved seed config s (Fetches fetched operations lines fell) = record s {
  client = option_map (λ c. client_fetched c fetched) s.client;
  operations = s.operations ++ operations;
  received = s.received ++ lines;
  falls = s.falls + count_of fell;
}
moved seed config s (Binds bound operations lines fell) = record s {
  client = option_map (λ c. client_bound c bound) s.client;
  operations = s.operations ++ operations;
  received = s.received ++ lines;
  falls = s.falls + count_of fell;
}
moved seed config s (Tells said) = record s { client = option_map client_told s.client; written = s.written ++ reply_of config.pwfield said }
moved seed config s (Breaks said count) = record s { client = option_map client_told s.client; written = s.written ++ take count (reply_of config.pwfield said); broken = true }
moved seed config s Finishes = record s { client = None }

-- where a session stands after moves, the newest first
abbrev pub stand_after : List ℕ → Config → Daemon → List Move → Stand
stand_after seed config d [] = begun d
stand_after seed config d (move ∷ moves) = moved seed config (stand_after seed config d moves) move

-- ---- which moves a session may make

-- The company that a session has at its daemon: what others may make of the daemon between two moves, over which daemon the session may
-- step an event, and what besides the want of room is so where the session ends with a full journal.
pub record Company : Type 1 where
  pub others : Daemon → Daemon → Type 0
  pub ready : Daemon → Event → Type 0
  pub full : Stand → Event → ℕ → Type 0

-- nobody else: the daemon stays
abbrev pub alone : Company
alone = record { others = λ d e. e ≡ d; ready = λ d event. Unit {0}; full = λ s event count. Unit {0} }

-- the event that the request in hand needs, which the daemon has room for
pub record NeedsStep (w : Company) (s : Stand) (event : Event) : Type 0 where
  pub client : Client
  pub in_hand : s.client ≡ Some client
  pub needed : event_of (need_of client) ≡ Some event
  pub steppable : is_steppable s.daemon.past event ≡ true
  pub room : is_full s.daemon event ≡ false
  pub ready : w.ready s.daemon event

-- The server that the last own entry picked is asked for the key of the request in hand, and the bytes received on the line decide. Where the directory
-- behind the server is told, its entries decide. A link that fell is counted, also where the unbind was not sent. A lookup for which memory was wanting is no move: it ends the session.
pub record NeedsFetch (config : Config) (behind : ℕ → Option Behind) (s : Stand) (fetched : Fetched) (operations : List Operation) (lines : List (List ℕ)) (fell : Bool) : Type 0 where
  pub client : Client
  pub in_hand : s.client ≡ Some client
  pub server : ℕ
  pub key : Key
  pub needed : need_of client ≡ needs.Fetch server key
  pub picked : IsPicked server s.own
  pub memory : is_out_of_memory fetched ≡ false
  pub asked : LookupOperations config key server fetched (fell ≡ true) operations lines
  pub fallen : fetched ≡ fetches.Failed whys.Link → fell ≡ true
  pub told : (b : Behind) → behind server ≡ Some b → IsToldFetch fetched (first_failure b 0 1 (searches_of config b.entries key)) (looked_up config b.entries key)

pub record NeedsBind (behind : ℕ → Option Behind) (s : Stand) (bound : Bound) (operations : List Operation) (lines : List (List ℕ)) (fell : Bool) : Type 0 where
  pub client : Client
  pub in_hand : s.client ≡ Some client
  pub server : ℕ
  pub dn : List ℕ
  pub password : List ℕ
  pub needed : need_of client ≡ needs.Bind server dn password
  pub picked : IsPicked server s.own
  pub memory : is_bind_out_of_memory bound ≡ false
  pub asked : BindOperations dn password server bound (fell ≡ true) operations lines
  pub fallen : bound ≡ bounds.Failed whys.Link → fell ≡ true
  pub told : (b : Behind) → behind server ≡ Some b → IsToldBind bound (told_bind b 0 1 dn password)

-- the client is told; nothing is told after an answer that could not be written whole
pub record NeedsSay (s : Stand) (said : Said) : Type 0 where
  pub client : Client
  pub in_hand : s.client ≡ Some client
  pub needed : need_of client ≡ needs.Say said
  pub whole : s.broken ≡ false

-- the last request heard is the operator's stop
abbrev pub last_stops : List Request → Bool
last_stops [] = false
last_stops (request ∷ requests) = is_stop request

-- The session listens: no request is in hand, all answers before were written whole, and the last was none to the operator's stop.
pub record IsListening (s : Stand) : Type 0 where
  pub none : s.client ≡ None
  pub whole : s.broken ≡ false
  pub going : last_stops s.requests ≡ false

-- a request is heard where the session listens, and it is one that the frames can carry
pub record MayHear (s : Stand) (request : Request) : Type 0 where
  pub listens : IsListening s
  pub carried : IsCarried request

pub record NeedsNothing (s : Stand) : Type 0 where
  pub client : Client
  pub in_hand : s.client ≡ Some client
  pub needed : need_of client ≡ needs.End

abbrev pub May : Company → Config → (ℕ → Option Behind) → Stand → Move → Type 0
May w config behind s (Finds found) = w.others s.daemon found
May w config behind s (Hears request) = MayHear s request
May w config behind s (Steps now event) = NeedsStep w s event
May w config behind s (Refuses now) = Unit {0}
May w config behind s (Fetches fetched operations lines fell) = NeedsFetch config behind s fetched operations lines fell
May w config behind s (Binds bound operations lines fell) = NeedsBind behind s bound operations lines fell
May w config behind s (Tells said) = NeedsSay s said
May w config behind s (Breaks said count) = NeedsSay s said
May w config behind s Finishes = NeedsNothing s

-- each move is one that the session may make where it stands
abbrev pub AllMay : Company → List ℕ → Config → (ℕ → Option Behind) → Daemon → List Move → Type 0
AllMay w seed config behind d [] = Unit {0}
AllMay w seed config behind d (move ∷ moves) = May w config behind (stand_after seed config d moves) move × AllMay w seed config behind d moves

-- ---- the input

-- the frames of requests, of which the newest is listed first
abbrev pub frames_of : List Request → List ℕ
frames_of [] = []
frames_of (request ∷ requests) = frames_of requests ++ frame_of request

-- a clock that tells its readings told some readings more
abbrev pub ReadsOn : Option (List ℕ) → List ℕ → Option (List ℕ) → Type 0
ReadsOn before moments None = Unit {0}
ReadsOn None moments (Some readings) = ⊥
ReadsOn (Some earlier) moments (Some readings) = readings ≡ earlier ++ moments

-- What is told of a session's own steps: the readings of its clock, and the entries that it made.
pub record Trace : Type 0 where
  pub readings : Option (List ℕ)
  pub entries : List Entry

-- of a core all entries are told
abbrev pub trace_of : Option (List ℕ) → Daemon → Trace
trace_of readings d = record { readings = readings; entries = reverse d.past }

-- the moments of a session were read, and its entries made
abbrev pub TracesOn : Trace → Stand → Trace → Type 0
TracesOn before s now = ReadsOn before.readings s.moments now.readings × (now.entries ≡ before.entries ++ s.own)

-- so many faults were counted, unless the count is at its end
abbrev pub CountsFalls : ℕ → ℕ → ℕ → Type 0
CountsFalls before falls now = min (before + falls) (2 ^ 64 - 1) ≤ now
