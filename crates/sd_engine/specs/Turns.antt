-- What a turn of an engine does.
use Rattle.std.specs.Prelude.{◌≡◌, ℕ, ◌≤◌, ◌⊎◌, true, false, List, [], Option, Some, None}
use Rattle.sd_base.specs.Causes.{Rose}
use Rattle.sd_base.specs.declared.Why.TheVariants as whys
use Rattle.sd_base.specs.declared.io.Sink as sinks
use Rattle.sd_rules.specs.declared.keys.Key.{Key}
use Rattle.sd_rules.specs.declared.events.Event.{Event}
use Rattle.sd_rules.specs.declared.settings.Settings.{Settings}
use Rattle.sd_rules.specs.declared.tasks.Bound.{Bound}
use Rattle.sd_rules.specs.declared.tasks.Bound.TheVariants as bounds
use Rattle.sd_rules.specs.declared.tasks.Fetched.{Fetched}
use Rattle.sd_rules.specs.declared.tasks.Fetched.TheVariants as fetches
use Rattle.sd_rules.specs.declared.tasks.Need.{Need}
use Rattle.sd_rules.specs.declared.tasks.Need.TheVariants as needs
use Rattle.sd_rules.specs.declared.tasks.Said.{Said}
use Rattle.sd_rules.specs.Lookups.{is_fetched_of_kind}
use Rattle.sd_rules.specs.Scripts.{is_need_of_kind, is_out_of_memory, is_bind_out_of_memory, key_at}
use Rattle.sd_conf.specs.declared.config.Config.{Config}
use Rattle.sd_dial.specs.Entries.{Behind}
use Rattle.sd_dial.specs.Operations.{Operation}
use Rattle.sd_dial.specs.declared.dialer.Dialer as dialers
use Rattle.sd_asking.specs.Binding.{told_bind, IsToldBind}
use Rattle.sd_fetch.specs.Lookup.{looked_up}
use Rattle.sd_fetch.specs.Told.{searches_of, first_failure}
use Rattle.sd_engine.specs.Counting.{HasNotFallen}
use Rattle.sd_engine.specs.Lookups.{AsksLookup, IsToldFetch}
use Rattle.sd_engine.specs.Binds.{AsksBind}
use Rattle.sd_inbox.specs.Taking.{Unread}
use Rattle.sd_wire.specs.declared.requests.Request.{Request}
use Rattle.sd_engine.specs.Courses.{Client, need_of, script_at, client_told, client_fetched, client_bound}
use Rattle.sd_engine.specs.declared.ending.SessionEnd.{SessionEnd}
use Rattle.sd_engine.specs.declared.ending.SessionEnd.TheVariants as ends
use Rattle.sd_engine.specs.declared.engine.Turn.{Turn}
use Rattle.sd_engine.specs.declared.engine.Turn.TheVariants.{Again, Step, Collect, Ended}
use Rattle.sd_engine.specs.Answering.{reply_of}
use Rattle.sd_engine.specs.Engines.{Engine, heard, with_inbox, with_client, awaiting, failing, done}
use Rattle.sd_engine.specs.Leading.{about}
use Rattle.sd_engine.specs.Listening.{EndsBy, IsHeardFrame, IsTaken}
use Rattle.sd_base.specs.Written.{AppendsFront}
use Rattle.std.specs.Io.KnownBytes.{Appends}

-- ---- without a request in hand

-- the frame of a request was in front
pub record HearsRequest (seed : List ℕ) (settings : Settings) (old new : Engine) (left left' : Option (List ℕ)) : Type 0 where
  pub request : Request
  pub inbox : Unread
  pub frame : IsHeardFrame request old.inbox inbox
  pub quiet : left' ≡ left
  pub after : new ≡ heard seed settings old inbox request

-- bytes came
pub record HearsBytes (old new : Engine) (left left' : Option (List ℕ)) : Type 0 where
  pub inbox : Unread
  pub taken : IsTaken old.inbox inbox left left'
  pub after : new ≡ with_inbox old inbox

abbrev pub Hears : List ℕ → Settings → Turn → Engine → Engine → Option (List ℕ) → Option (List ℕ) → Type 0 → Type 0
Hears seed settings Again old new left left' reads = HearsRequest seed settings old new left left' ⊎ HearsBytes old new left left'
Hears seed settings (Ended ending) old new left left' reads = EndsBy ending old.inbox left left' reads × (new ≡ old)
Hears seed settings (Step event) old new left left' reads = ⊥
Hears seed settings (Collect ticket) old new left left' reads = ⊥

-- ---- with a request in hand

-- What a dialer tells at a moment: the operations asked, the bytes received on each line given back, its count of faults, and the
-- directories behind its servers.
pub record Dialling : Type 0 where
  pub operations : Option (List Operation)
  pub received : Option (List (List ℕ))
  pub faults : ℕ
  pub behind : ℕ → Option Behind

-- what a dialer tells at a moment, where dialers of its kind tell this
abbrev pub dialling_of : {D Line : Type 0} → dialers.Ghosts D Line → D → Dialling
dialling_of t dialer = record { operations = t.operations dialer; received = t.received dialer; faults = t.faults dialer; behind = t.behind dialer }

-- the lookup of a key at a server came to this
pub record Fetches (config : Config) (key : Key) (server : ℕ) (fetched : Fetched) (d e : Dialling) : Type 0 where
  pub kind : is_fetched_of_kind key fetched ≡ true
  pub asked : AsksLookup config key server fetched (Rose d.faults e.faults) d.operations e.operations d.received e.received
  pub fallen : fetched ≡ fetches.Failed whys.Link → Rose d.faults e.faults
  pub later : HasNotFallen d.faults e.faults
  pub told : (b : Behind) → d.behind server ≡ Some b → IsToldFetch fetched (first_failure b 0 1 (searches_of config b.entries key)) (looked_up config b.entries key)
  pub behind : (i : ℕ) → e.behind i ≡ d.behind i

-- the bind at a server came to this
pub record Binds (server : ℕ) (dn password : List ℕ) (bound : Bound) (d e : Dialling) : Type 0 where
  pub asked : AsksBind dn password server bound (Rose d.faults e.faults) d.operations e.operations d.received e.received
  pub fallen : bound ≡ bounds.Failed whys.Link → Rose d.faults e.faults
  pub later : HasNotFallen d.faults e.faults
  pub told : (b : Behind) → d.behind server ≡ Some b → IsToldBind bound (told_bind b 0 1 dn password)
  pub behind : (i : ℕ) → e.behind i ≡ d.behind i

-- a request went on by what a search at a server gave
pub record GoesByFetch (config : Config) (server : ℕ) (key : Key) (old : Engine) (client : Client) (new : Engine) (d e : Dialling) : Type 0 where
  pub fetched : Fetched
  pub memory : is_out_of_memory fetched ≡ false
  pub lookup : Fetches config key server fetched d e
  pub after : new ≡ with_client old (client_fetched client fetched)

pub record GoesByBind (server : ℕ) (dn password : List ℕ) (old : Engine) (client : Client) (new : Engine) (d e : Dialling) : Type 0 where
  pub bound : Bound
  pub memory : is_bind_out_of_memory bound ≡ false
  pub bind : Binds server dn password bound d e
  pub after : new ≡ with_client old (client_bound client bound)

-- a client was told, or its answer could not be written whole
pub record IsTold (pwfield : List ℕ) (said : Said) (old : Engine) (client : Client) (new : Engine) (held held' : Option (List ℕ)) : Type 0 where
  pub written : Appends held held' (reply_of pwfield said)
  pub after : new ≡ with_client old client

pub record IsUntold (pwfield : List ℕ) (said : Said) (old : Engine) (client : Client) (new : Engine) (held held' : Option (List ℕ)) (writes : Type 0) : Type 0 where
  pub written : AppendsFront held held' (reply_of pwfield said)
  pub fault : writes
  pub after : new ≡ failing old client

-- want of memory: what is led and waited with stays
pub record KeepsLeads (old new : Engine) : Type 0 where
  pub leads : new.leads ≡ old.leads
  pub ticket : new.ticket ≡ old.ticket

-- the answer to a client, who counts as told
abbrev pub Says : Turn → List ℕ → Said → Engine → Client → Engine → Option (List ℕ) → Option (List ℕ) → Type 0 → Type 0
Says Again pwfield said old client new held held' writes = IsTold pwfield said old client new held held' ⊎ IsUntold pwfield said old client new held held' writes
Says (Ended ends.Memory) pwfield said old client new held held' writes = KeepsLeads old new × (held' ≡ held)
Says _ pwfield said old client new held held' writes = ⊥

-- the event, or the ticket, that a request in hand needs is named
abbrev pub IsNamed : Turn → Turn → Engine → Client → Option ℕ → Engine → Type 0
IsNamed Again named old client about new = ⊥
IsNamed (Step event) named old client about new = (Step event ≡ named) × (new ≡ awaiting old client about)
IsNamed (Collect ticket) named old client about new = (Collect ticket ≡ named) × (new ≡ awaiting old client about)
IsNamed (Ended ends.Memory) named old client about new = KeepsLeads old new
IsNamed (Ended _) named old client about new = ⊥

-- a request in hand goes on by what a server said
abbrev pub LooksUp : Turn → Config → ℕ → Key → Engine → Client → Engine → Dialling → Dialling → Type 0
LooksUp Again config server key old client new d e = GoesByFetch config server key old client new d e
LooksUp (Ended ends.Memory) config server key old client new d e = KeepsLeads old new × Fetches config key server fetches.Memory d e
LooksUp _ config server key old client new d e = ⊥

abbrev pub BindsAt : Turn → ℕ → List ℕ → List ℕ → Engine → Client → Engine → Dialling → Dialling → Type 0
BindsAt Again server dn password old client new d e = GoesByBind server dn password old client new d e
BindsAt (Ended ends.Memory) server dn password old client new d e = KeepsLeads old new × Binds server dn password bounds.Memory d e
BindsAt _ server dn password old client new d e = ⊥

-- a request that is carried out ends the session where it is the operator's stop, or where its answer could not be written
abbrev pub IsFinished : Turn → Engine → Engine → Type 0
IsFinished Again old new = (old.stops ≡ false) × (old.has_failed ≡ false) × (new ≡ done old)
IsFinished (Ended ends.Stopped) old new = (old.stops ≡ true) × (old.has_failed ≡ false) × (new ≡ done old)
IsFinished (Ended ends.WriteFault) old new = (old.has_failed ≡ true) × (new ≡ done old)
IsFinished _ old new = ⊥

-- What a request in hand needs, where that is nothing to tell, is named, or done at once: a server is asked, outside any step.
abbrev pub Acts : Turn → Config → Need → Engine → Client → Engine → Dialling → Dialling → Type 0
Acts turn config (needs.Step event) old client new d e = IsNamed turn (Step event) old client (about event) new × (e ≡ d)
Acts turn config (needs.Await ticket) old client new d e = IsNamed turn (Collect ticket) old client None new × (e ≡ d)
Acts turn config (needs.Fetch server key) old client new d e = LooksUp turn config server key old client new d e
Acts turn config (needs.Bind server dn password) old client new d e = BindsAt turn server dn password old client new d e
Acts turn config (needs.Say said) old client new d e = ⊥
Acts turn config needs.End old client new d e = IsFinished turn old new × (e ≡ d)

-- memory was wanting before anything was done
pub record IsIdle (turn : Turn) (old new : Engine) (held held' : Option (List ℕ)) (d e : Dialling) : Type 0 where
  pub ended : turn ≡ Ended ends.Memory
  pub leads : KeepsLeads old new
  pub written : held' ≡ held
  pub asked : e ≡ d

-- what a need comes to, where a client that is told counts as told already
abbrev pub GoesBy : List ℕ → Config → Turn → Need → Engine → Client → Engine → Option (List ℕ) → Option (List ℕ) → Type 0 → Dialling → Dialling → Type 0
GoesBy pwfield config turn (needs.Say said) old client new held held' writes d e = Says turn pwfield said old client new held held' writes × (e ≡ d)
GoesBy pwfield config turn need old client new held held' writes d e = Acts turn config need old client new d e × (held' ≡ held)

-- the same over a sink and a dialer
abbrev pub GoesOver : {W D Line : Type 0} → sinks.Ghosts W → dialers.Ghosts D Line → Config → Turn → Need → Engine → Client → Engine → W → W → D → D → Type 0
GoesOver w t config turn need old client new sink sink' dialer dialer' =
    GoesBy config.pwfield config turn need old client new (w.held sink) (w.held sink') (Rose (w.faults sink) (w.faults sink')) (dialling_of t dialer) (dialling_of t dialer')

-- What a request in hand needs, where it is something to tell, is told; what the request leads goes on after that, also where the
-- answer could not be written.
abbrev pub ServesBy : List ℕ → Config → Turn → Need → Engine → Client → Engine → Option (List ℕ) → Option (List ℕ) → Type 0 → Dialling → Dialling → Type 0
ServesBy pwfield config turn (needs.Say said) old client new held held' writes d e = Says turn pwfield said old (client_told client) new held held' writes × (e ≡ d)
ServesBy pwfield config turn need old client new held held' writes d e = Acts turn config need old client new d e × (held' ≡ held)

abbrev pub Serves : Config → Turn → Engine → Client → Engine → Option (List ℕ) → Option (List ℕ) → Type 0 → Dialling → Dialling → Type 0
Serves config turn old client new held held' writes d e =
    ServesBy config.pwfield config turn (need_of client) old client new held held' writes d e ⊎ IsIdle turn old new held held' d e

-- the same over a sink and a dialer
abbrev pub ServesOver : {W D Line : Type 0} → sinks.Ghosts W → dialers.Ghosts D Line → Config → Turn → Engine → Client → Engine → W → W → D → D → Type 0
ServesOver w t config turn old client new sink sink' dialer dialer' =
    Serves config turn old client new (w.held sink) (w.held sink') (Rose (w.faults sink) (w.faults sink')) (dialling_of t dialer) (dialling_of t dialer')

-- an event that is named is one that the script of the request may need
abbrev pub IsOfKind : Turn → Client → Type 0
IsOfKind (Step event) client = is_need_of_kind (key_at (script_at client)) (needs.Step event) ≡ true
IsOfKind _ client = Unit {0}
