-- A turn of the engine, by what it says of itself.
use Rattle.std.proofs.Common.{◌≡◌, ◌∙◌, ℕ, ◌≤◌, Bool, true, false, List, [], Option, Some, None, refl, sym, ap, subst, inl, inr, append-nil, arith}
use Rattle.std.specs.Prelude.{IfSome, IsSome, is_some}
use Rattle.sd_base.specs.Causes.{Rose}
use Rattle.sd_rules.specs.declared.events.Event.{Event}
use Rattle.sd_rules.specs.declared.events.Event.TheVariants as events
use Rattle.sd_rules.specs.declared.keys.Key.{Key}
use Rattle.sd_rules.specs.declared.tasks.Bound.TheVariants as bounds
use Rattle.sd_rules.specs.declared.tasks.Fetched.TheVariants as fetches
use Rattle.sd_rules.specs.declared.tasks.Need.{Need}
use Rattle.sd_rules.specs.declared.tasks.Need.TheVariants as needs
use Rattle.sd_rules.specs.Scripts.{event_of, is_need_of_kind, key_at}
use Rattle.sd_rules.specs.Steps.{Daemon}
use Rattle.sd_conf.specs.declared.config.Config.{Config}
use Rattle.sd_dial.specs.Entries.{Behind}
use Rattle.sd_dial.specs.Operations.{Operation}
use Rattle.sd_engine.specs.Counting.{HasNotFallen}
use Rattle.sd_engine.specs.Lookups.{with_operations}
use Rattle.sd_engine.specs.Received.{with_lines}
use Rattle.sd_engine.proofs.Asking.{lookup_operations_on, bind_operations_on}
use Rattle.sd_engine.specs.Courses.{Client, need_of, script_at}
use Rattle.sd_session.specs.Sessions.{Company, Trace, stand_after}
use Rattle.sd_session.specs.Spoken.{IsSpoken}
use Rattle.sd_engine.specs.declared.ending.SessionEnd.{SessionEnd}
use Rattle.sd_engine.specs.declared.ending.SessionEnd.TheVariants as ends
use Rattle.sd_engine.specs.declared.engine.Turn.{Turn}
use Rattle.sd_engine.specs.declared.engine.Turn.TheVariants.{Again, Step, Collect, Ended}
use Rattle.sd_engine.specs.Engines.{Engine, awaiting, done}
use Rattle.sd_engine.specs.Leading.{about}
use Rattle.sd_engine.specs.Turns.{Dialling, KeepsLeads, Hears, Serves, ServesBy, IsOfKind}
use Rattle.sd_session.specs.Running.{AskedLast, Stands, Outside, Awaits, GoesOn, EndsIn, Turned, outside_at}
use Rattle.sd_session.specs.Desks.{MayCollect}
use Rattle.sd_session.proofs.CollectLaws.{step_uncollects, may_collect}
use Rattle.sd_session.proofs.HoldingLaws.{untrue}
use Rattle.sd_session.proofs.Standing.{has_risen, risen, rose_by, Quiet, stands_hears, stands_takes, stands_named, stands_fetches, stands_binds, stands_tells, stands_breaks, stands_finishes}
use Rattle.sd_session.proofs.Ending.{Leaves, same_lines, ran_hearing, ran_stopped, ran_write_fault, ran_starved}

-- What a turn leaves outside: without a request in hand nothing is written or asked, with one in hand nothing is taken; the clock is not
-- read.
pub record Outer (e : Engine) (o p : Outside) : Type 0 where
  pub mute : e.client ≡ None → (p.held ≡ o.held) × (p.dialling ≡ o.dialling)
  pub deaf : (c : Client) → e.client ≡ Some c → (p.left ≡ o.left) × (p.reads ≡ o.reads)
  pub trace : p.trace ≡ o.trace
  pub reads : o.reads ≤ p.reads
  pub writes : o.writes ≤ p.writes

quiet_by : (e : Engine) (o p : Outside) (c : Client) → e.client ≡ Some c → Outer e o p → Quiet o p
quiet_by e o p c is outer = record { left = (outer.deaf c is).0; reads = (outer.deaf c is).1; trace = outer.trace }

-- a turn that goes on
pub again_hears : (w : Company) (seed : List ℕ) (config : Config) (e f : Engine) (daemon : Daemon) (o p : Outside) → e.client ≡ None → Hears seed config.settings Again e f o.left p.left (Rose o.reads p.reads) → Outer e o p → GoesOn w seed config e daemon o f daemon p
again_hears w seed config e f daemon o p none h outer = λ d before s.
    let m = outer.mute none in
    elim h [
      | inl heard ↦ stands_hears w seed config d before e f daemon o p s none heard outer.reads m.0 outer.writes outer.trace m.1
      | inr taken ↦ stands_takes w seed config d before e f daemon o p s taken outer.reads m.0 outer.writes outer.trace m.1
    ]

by_need : (w : Company) (seed : List ℕ) (config : Config) (e f : Engine) (daemon : Daemon) (o p : Outside) (c : Client) (need : Need) → e.client ≡ Some c → need_of c ≡ need
    → ServesBy config.pwfield config Again need (done e) c f o.held p.held (Rose o.writes p.writes) o.dialling p.dialling → Quiet o p → o.writes ≤ p.writes → GoesOn w seed config e daemon o f daemon p
by_need w seed config e f daemon o p c (needs.Say said) is n h quiet writes = λ d before s. elim h.0 [
  | inl told ↦ stands_tells w seed config d before e f daemon o p c said s is n told quiet writes h.1
  | inr untold ↦ stands_breaks w seed config d before e f daemon o p c said s is n untold quiet writes h.1
]
by_need w seed config e f daemon o p c (needs.Fetch server key) is n h quiet writes = λ d before s. stands_fetches w seed config d before e f daemon o p c server key s is n h.0 quiet h.1 writes
by_need w seed config e f daemon o p c (needs.Bind server dn password) is n h quiet writes = λ d before s. stands_binds w seed config d before e f daemon o p c server dn password s is n h.0 quiet h.1 writes
by_need w seed config e f daemon o p c needs.End is n h quiet writes = λ d before s. stands_finishes w seed config d before e f daemon o p c s is n h.0.0.0 h.0.0.1 h.0.0.2 quiet h.1 writes h.0.1
by_need w seed config e f daemon o p c (needs.Step event) is n h quiet writes = absurd h.0.0
by_need w seed config e f daemon o p c (needs.Await ticket) is n h quiet writes = absurd h.0.0

pub again_serves : (w : Company) (seed : List ℕ) (config : Config) (e f : Engine) (daemon : Daemon) (o p : Outside) (c : Client) → e.client ≡ Some c → Serves config Again (done e) c f o.held p.held (Rose o.writes p.writes) o.dialling p.dialling → Outer e o p
    → GoesOn w seed config e daemon o f daemon p
again_serves w seed config e f daemon o p c is h outer = elim h [
  | inl served ↦ by_need w seed config e f daemon o p c (need_of c) is refl served (quiet_by e o p c is outer) outer.writes
  | inr idle ↦ absurd (not_ended idle.ended)
]
  where
    not_ended : Again ≡ Ended ends.Memory → ⊥
    not_ended e = cc

-- a turn that ends the session

leaves_by : (e : Engine) (o p : Outside) → p.held ≡ o.held → Outer e o p → Leaves o p
leaves_by e o p held outer = record { held = held; trace = outer.trace; reads = outer.reads; writes = outer.writes }

pub ended_hears : (w : Company) (seed : List ℕ) (config : Config) (ending : SessionEnd) (e f : Engine) (daemon : Daemon) (o p : Outside) → e.client ≡ None → Hears seed config.settings (Ended ending) e f o.left p.left (Rose o.reads p.reads) → Outer e o p
    → EndsIn w seed config ending e daemon o f daemon p
ended_hears w seed config ending e f daemon o p none h outer = λ d before s.
    let m = outer.mute none in
    ran_hearing w seed config d before ending e f daemon o p s none h.1 (leaves_by e o p m.0 outer) m.1 h.0

pub nothing_more : (known : Option (List Operation)) → known ≡ with_operations known []
nothing_more None = refl
nothing_more (Some operations) = ap Some (sym (append-nil operations))

same_end : (d e : Dialling) → e ≡ d → HasNotFallen d.faults e.faults
same_end d e same = subst (λ (x : Dialling). HasNotFallen d.faults x.faults) (sym same) (omega arith)

same_asked : (d e : Dialling) → e ≡ d → e.operations ≡ with_operations d.operations []
same_asked d e same = ap (λ (x : Dialling). x.operations) same ∙ nothing_more d.operations

same_received : (d e : Dialling) → e ≡ d → e.received ≡ with_lines d.received []
same_received d e same = ap (λ (x : Dialling). x.received) same ∙ same_lines d.received

starved : (w : Company) (seed : List ℕ) (config : Config) (e f : Engine) (daemon : Daemon) (o p : Outside) (more : List Operation) (lines : List (List ℕ)) (fell : Bool) → ((d : Daemon) (before : Outside) (s : Stands w seed config d before e daemon o) → AskedLast config (stand_after seed config d s.moves) more lines fell) → (fell ≡ true → Rose o.dialling.faults p.dialling.faults) → KeepsLeads (done e) f → p.held ≡ o.held → Quiet o p → Outer e o p → HasNotFallen o.dialling.faults p.dialling.faults
    → p.dialling.operations ≡ with_operations o.dialling.operations more → p.dialling.received ≡ with_lines o.dialling.received lines → EndsIn w seed config ends.Memory e daemon o f daemon p
starved w seed config e f daemon o p more lines fell last rose keeps held quiet outer later asked received = λ d before s.
    ran_starved w seed config d before e f daemon o p more lines fell s (last d before s) rose keeps.leads keeps.ticket (leaves_by e o p held outer) quiet.left later asked received

starved_idle : (w : Company) (seed : List ℕ) (config : Config) (e f : Engine) (daemon : Daemon) (o p : Outside) → KeepsLeads (done e) f → p.held ≡ o.held → p.dialling ≡ o.dialling → Quiet o p → Outer e o p → EndsIn w seed config ends.Memory e daemon o f daemon p
starved_idle w seed config e f daemon o p keeps held dialling quiet outer =
    starved w seed config e f daemon o p [] [] false (λ d before s. inl (refl, refl)) (λ fell. untrue fell) keeps held quiet outer (same_end o.dialling p.dialling dialling) (same_asked o.dialling p.dialling dialling) (same_received o.dialling p.dialling dialling)

ended_by : (w : Company) (seed : List ℕ) (config : Config) (ending : SessionEnd) (e f : Engine) (daemon : Daemon) (o p : Outside) (c : Client) (need : Need) → e.client ≡ Some c → need_of c ≡ need
    → ServesBy config.pwfield config (Ended ending) need (done e) c f o.held p.held (Rose o.writes p.writes) o.dialling p.dialling → Quiet o p → Outer e o p → EndsIn w seed config ending e daemon o f daemon p
ended_by w seed config ends.Memory e f daemon o p c (needs.Say said) is n h quiet outer = starved_idle w seed config e f daemon o p h.0.0 h.0.1 h.1 quiet outer
ended_by w seed config ends.Memory e f daemon o p c (needs.Step event) is n h quiet outer = starved_idle w seed config e f daemon o p h.0.0 h.1 h.0.1 quiet outer
ended_by w seed config ends.Memory e f daemon o p c (needs.Await ticket) is n h quiet outer = starved_idle w seed config e f daemon o p h.0.0 h.1 h.0.1 quiet outer
ended_by w seed config ends.Memory e f daemon o p c (needs.Fetch server key) is n h quiet outer =
    starved w seed config e f daemon o p h.0.1.asked.operations h.0.1.asked.lines (has_risen o.dialling.faults p.dialling.faults)
    (λ d before s. inr (inl (record { client = c; in_hand = sym s.hand.client ∙ is; server = server; key = key; needed = n; asked = lookup_operations_on config key server fetches.Memory _ _ h.0.1.asked.operations h.0.1.asked.lines (risen o.dialling.faults p.dialling.faults) h.0.1.asked.are })))
    (rose_by o.dialling.faults p.dialling.faults) h.0.0 h.1 quiet outer h.0.1.later h.0.1.asked.told h.0.1.asked.received
ended_by w seed config ends.Memory e f daemon o p c (needs.Bind server dn password) is n h quiet outer =
    starved w seed config e f daemon o p h.0.1.asked.operations h.0.1.asked.lines (has_risen o.dialling.faults p.dialling.faults)
    (λ d before s. inr (inr (record { client = c; in_hand = sym s.hand.client ∙ is; server = server; dn = dn; password = password; needed = n; asked = bind_operations_on dn password server bounds.Memory _ _ h.0.1.asked.operations h.0.1.asked.lines (risen o.dialling.faults p.dialling.faults) h.0.1.asked.are })))
    (rose_by o.dialling.faults p.dialling.faults) h.0.0 h.1 quiet outer h.0.1.later h.0.1.asked.told h.0.1.asked.received
ended_by w seed config ends.Memory e f daemon o p c needs.End is n h quiet outer = absurd h.0.0
ended_by w seed config ends.Stopped e f daemon o p c needs.End is n h quiet outer = λ d before s.
    ran_stopped w seed config d before e f daemon o p c s is n h.0.0.0 h.0.0.1 h.0.0.2 (leaves_by e o p h.1 outer) quiet.left h.0.1
ended_by w seed config ends.WriteFault e f daemon o p c needs.End is n h quiet outer = λ d before s.
    ran_write_fault w seed config d before e f daemon o p c s is n h.0.0.0 h.0.0.1 (leaves_by e o p h.1 outer) quiet.left h.0.1
ended_by w seed config ends.Stopped e f daemon o p c (needs.Say said) is n h quiet outer = absurd h.0
ended_by w seed config ends.Stopped e f daemon o p c (needs.Step event) is n h quiet outer = absurd h.0.0
ended_by w seed config ends.Stopped e f daemon o p c (needs.Await ticket) is n h quiet outer = absurd h.0.0
ended_by w seed config ends.Stopped e f daemon o p c (needs.Fetch server key) is n h quiet outer = absurd h.0
ended_by w seed config ends.Stopped e f daemon o p c (needs.Bind server dn password) is n h quiet outer = absurd h.0
ended_by w seed config ends.WriteFault e f daemon o p c (needs.Say said) is n h quiet outer = absurd h.0
ended_by w seed config ends.WriteFault e f daemon o p c (needs.Step event) is n h quiet outer = absurd h.0.0
ended_by w seed config ends.WriteFault e f daemon o p c (needs.Await ticket) is n h quiet outer = absurd h.0.0
ended_by w seed config ends.WriteFault e f daemon o p c (needs.Fetch server key) is n h quiet outer = absurd h.0
ended_by w seed config ends.WriteFault e f daemon o p c (needs.Bind server dn password) is n h quiet outer = absurd h.0
ended_by w seed config ends.Closed e f daemon o p c (needs.Say said) is n h quiet outer = absurd h.0
ended_by w seed config ends.Closed e f daemon o p c (needs.Step event) is n h quiet outer = absurd h.0.0
ended_by w seed config ends.Closed e f daemon o p c (needs.Await ticket) is n h quiet outer = absurd h.0.0
ended_by w seed config ends.Closed e f daemon o p c (needs.Fetch server key) is n h quiet outer = absurd h.0
ended_by w seed config ends.Closed e f daemon o p c (needs.Bind server dn password) is n h quiet outer = absurd h.0
ended_by w seed config ends.Closed e f daemon o p c needs.End is n h quiet outer = absurd h.0.0
ended_by w seed config ends.ReadFault e f daemon o p c (needs.Say said) is n h quiet outer = absurd h.0
ended_by w seed config ends.ReadFault e f daemon o p c (needs.Step event) is n h quiet outer = absurd h.0.0
ended_by w seed config ends.ReadFault e f daemon o p c (needs.Await ticket) is n h quiet outer = absurd h.0.0
ended_by w seed config ends.ReadFault e f daemon o p c (needs.Fetch server key) is n h quiet outer = absurd h.0
ended_by w seed config ends.ReadFault e f daemon o p c (needs.Bind server dn password) is n h quiet outer = absurd h.0
ended_by w seed config ends.ReadFault e f daemon o p c needs.End is n h quiet outer = absurd h.0.0
ended_by w seed config (ends.BadFrame at) e f daemon o p c (needs.Say said) is n h quiet outer = absurd h.0
ended_by w seed config (ends.BadFrame at) e f daemon o p c (needs.Step event) is n h quiet outer = absurd h.0.0
ended_by w seed config (ends.BadFrame at) e f daemon o p c (needs.Await ticket) is n h quiet outer = absurd h.0.0
ended_by w seed config (ends.BadFrame at) e f daemon o p c (needs.Fetch server key) is n h quiet outer = absurd h.0
ended_by w seed config (ends.BadFrame at) e f daemon o p c (needs.Bind server dn password) is n h quiet outer = absurd h.0
ended_by w seed config (ends.BadFrame at) e f daemon o p c needs.End is n h quiet outer = absurd h.0.0
ended_by w seed config ends.Cut e f daemon o p c (needs.Say said) is n h quiet outer = absurd h.0
ended_by w seed config ends.Cut e f daemon o p c (needs.Step event) is n h quiet outer = absurd h.0.0
ended_by w seed config ends.Cut e f daemon o p c (needs.Await ticket) is n h quiet outer = absurd h.0.0
ended_by w seed config ends.Cut e f daemon o p c (needs.Fetch server key) is n h quiet outer = absurd h.0
ended_by w seed config ends.Cut e f daemon o p c (needs.Bind server dn password) is n h quiet outer = absurd h.0
ended_by w seed config ends.Cut e f daemon o p c needs.End is n h quiet outer = absurd h.0.0
ended_by w seed config (ends.Long count) e f daemon o p c (needs.Say said) is n h quiet outer = absurd h.0
ended_by w seed config (ends.Long count) e f daemon o p c (needs.Step event) is n h quiet outer = absurd h.0.0
ended_by w seed config (ends.Long count) e f daemon o p c (needs.Await ticket) is n h quiet outer = absurd h.0.0
ended_by w seed config (ends.Long count) e f daemon o p c (needs.Fetch server key) is n h quiet outer = absurd h.0
ended_by w seed config (ends.Long count) e f daemon o p c (needs.Bind server dn password) is n h quiet outer = absurd h.0
ended_by w seed config (ends.Long count) e f daemon o p c needs.End is n h quiet outer = absurd h.0.0
ended_by w seed config (ends.JournalFull count) e f daemon o p c (needs.Say said) is n h quiet outer = absurd h.0
ended_by w seed config (ends.JournalFull count) e f daemon o p c (needs.Step event) is n h quiet outer = absurd h.0.0
ended_by w seed config (ends.JournalFull count) e f daemon o p c (needs.Await ticket) is n h quiet outer = absurd h.0.0
ended_by w seed config (ends.JournalFull count) e f daemon o p c (needs.Fetch server key) is n h quiet outer = absurd h.0
ended_by w seed config (ends.JournalFull count) e f daemon o p c (needs.Bind server dn password) is n h quiet outer = absurd h.0
ended_by w seed config (ends.JournalFull count) e f daemon o p c needs.End is n h quiet outer = absurd h.0.0

pub ended_serves : (w : Company) (seed : List ℕ) (config : Config) (ending : SessionEnd) (e f : Engine) (daemon : Daemon) (o p : Outside) (c : Client) → e.client ≡ Some c → Serves config (Ended ending) (done e) c f o.held p.held (Rose o.writes p.writes) o.dialling p.dialling
    → Outer e o p → EndsIn w seed config ending e daemon o f daemon p
ended_serves w seed config ending e f daemon o p c is h outer = elim h [
  | inl served ↦ ended_by w seed config ending e f daemon o p c (need_of c) is refl served (quiet_by e o p c is outer) outer
  | inr idle ↦
      let memory : ends.Memory ≡ ending = same_ending ending idle.ended in
      subst (λ (end : SessionEnd). EndsIn w seed config end e daemon o f daemon p) memory
      (starved_idle w seed config e f daemon o p idle.leads idle.written idle.asked (quiet_by e o p c is outer) outer)
]
  where
    same_ending : (end : SessionEnd) → Ended end ≡ Ended ends.Memory → ends.Memory ≡ end
    same_ending end e = cc

-- ---- a turn that names an event

-- where the session stands once an event was named, and what is known of it
pub record Named (w : Company) (seed : List ℕ) (config : Config) (e f : Engine) (daemon : Daemon) (o p : Outside) (event : Event) : Type 0 where
  pub goes_on : GoesOn w seed config e daemon o f daemon p
  pub awaits : Awaits daemon f event

named_by : (w : Company) (seed : List ℕ) (config : Config) (e f : Engine) (daemon : Daemon) (o p : Outside) (c : Client) (number : Option ℕ) (event : Event) → e.client ≡ Some c → event_of (need_of c) ≡ Some event
    → is_need_of_kind (key_at (script_at c)) (need_of c) ≡ true → IsSpoken daemon c.course → f ≡ awaiting e c number → number ≡ about event → Quiet o p → p.held ≡ o.held → o.writes ≤ p.writes → p.dialling ≡ o.dialling → Named w seed config e f daemon o p event
named_by w seed config e f daemon o p c number event is needed kind known new of quiet held writes dialling = record {
  goes_on = λ d before s. stands_named w seed config d before e f daemon o p c number s is new quiet held writes dialling;
  awaits = record {
    client = c;
    is = ap (λ (x : Engine). x.client) new;
    needed = needed;
    kind = kind;
    known = known;
    ready = ap (λ (x : Engine). x.is_ready) new;
    about_it = ap (λ (x : Engine). x.about) new ∙ of;
  };
}

same_event : (a b : Event) → Step a ≡ Step b → a ≡ b
same_event a b e = cc

same_ticket : (a b : ℕ) → Collect a ≡ Collect b → a ≡ b
same_ticket a b e = cc

no_step : (event : Event) (ticket : ℕ) → Step event ≡ Collect ticket → ⊥
no_step event ticket e = cc

no_collect : (event : Event) (ticket : ℕ) → Collect ticket ≡ Step event → ⊥
no_collect event ticket e = cc

step_by : (w : Company) (seed : List ℕ) (config : Config) (e f : Engine) (daemon : Daemon) (o p : Outside) (c : Client) (event : Event) (need : Need) → e.client ≡ Some c → need_of c ≡ need
    → ServesBy config.pwfield config (Step event) need (done e) c f o.held p.held (Rose o.writes p.writes) o.dialling p.dialling → is_need_of_kind (key_at (script_at c)) (needs.Step event) ≡ true → IsSpoken daemon c.course → Outer e o p
    → Named w seed config e f daemon o p event
step_by w seed config e f daemon o p c event (needs.Step other) is n h kind known outer =
    let same : event ≡ other = same_event event other h.0.0.0 in
    let needed : need_of c ≡ needs.Step event = n ∙ ap needs.Step (sym same) in
    named_by w seed config e f daemon o p c (about other) event is (ap event_of needed) (subst (λ (m : Need). is_need_of_kind (key_at (script_at c)) m ≡ true) (sym needed) kind) known h.0.0.1 (ap about (sym same)) (quiet_by e o p c is outer) h.1 outer.writes h.0.1
step_by w seed config e f daemon o p c event (needs.Await ticket) is n h kind known outer = absurd (no_step event ticket h.0.0.0)
step_by w seed config e f daemon o p c event (needs.Fetch server key) is n h kind known outer = absurd h.0
step_by w seed config e f daemon o p c event (needs.Bind server dn password) is n h kind known outer = absurd h.0
step_by w seed config e f daemon o p c event (needs.Say said) is n h kind known outer = absurd h.0
step_by w seed config e f daemon o p c event needs.End is n h kind known outer = absurd h.0.0

waits_of_kind : (key : Option Key) (ticket : ℕ) → is_need_of_kind key (needs.Await ticket) ≡ true
waits_of_kind None ticket = refl
waits_of_kind (Some key) ticket = refl

collect_by : (w : Company) (seed : List ℕ) (config : Config) (e f : Engine) (daemon : Daemon) (o p : Outside) (c : Client) (ticket : ℕ) (need : Need) → e.client ≡ Some c → need_of c ≡ need
    → ServesBy config.pwfield config (Collect ticket) need (done e) c f o.held p.held (Rose o.writes p.writes) o.dialling p.dialling → IsSpoken daemon c.course → Outer e o p → Named w seed config e f daemon o p (events.Collect ticket)
collect_by w seed config e f daemon o p c ticket (needs.Await other) is n h known outer =
    let same : ticket ≡ other = same_ticket ticket other h.0.0.0 in
    let needed : need_of c ≡ needs.Await ticket = n ∙ ap needs.Await (sym same) in
    named_by w seed config e f daemon o p c None (events.Collect ticket) is (ap event_of needed)
    (subst (λ (m : Need). is_need_of_kind (key_at (script_at c)) m ≡ true) (sym needed) (waits_of_kind (key_at (script_at c)) ticket)) known h.0.0.1 refl (quiet_by e o p c is outer) h.1 outer.writes h.0.1
collect_by w seed config e f daemon o p c ticket (needs.Step event) is n h known outer = absurd (no_collect event ticket h.0.0.0)
collect_by w seed config e f daemon o p c ticket (needs.Fetch server key) is n h known outer = absurd h.0
collect_by w seed config e f daemon o p c ticket (needs.Bind server dn password) is n h known outer = absurd h.0
collect_by w seed config e f daemon o p c ticket (needs.Say said) is n h known outer = absurd h.0
collect_by w seed config e f daemon o p c ticket needs.End is n h known outer = absurd h.0.0

not_idle_step : (event : Event) → Step event ≡ Ended ends.Memory → ⊥
not_idle_step event e = cc

not_idle_collect : (ticket : ℕ) → Collect ticket ≡ Ended ends.Memory → ⊥
not_idle_collect ticket e = cc

-- ---- a whole turn

-- by whether a request is in hand
by_client : (e : Engine) (P : Option Client → Type 0) (Q : Type 0) → P e.client → (e.client ≡ None → P None → Q) → ((c : Client) → e.client ≡ Some c → P (Some c) → Q) → Q
by_client e P Q h none some = by_option e.client refl
  where
    by_option : (x : Option Client) → e.client ≡ x → Q
    by_option None is = none is (subst P is h)
    by_option (Some c) is = some c is (subst P is h)

-- what a turn says of itself
pub record Told (seed : List ℕ) (config : Config) (turn : Turn) (e f : Engine) (o p : Outside) : Type 0 where
  pub hears : e.client ≡ None → Hears seed config.settings turn e f o.left p.left (Rose o.reads p.reads)
  pub serves : IfSome e.client (λ c. Serves config turn (done e) c f o.held p.held (Rose o.writes p.writes) o.dialling p.dialling)
  pub kind : IfSome e.client (λ c. IsOfKind turn c)
  pub outer : Outer e o p

pub turn_again : (w : Company) (seed : List ℕ) (config : Config) (e f : Engine) (daemon : Daemon) (o p : Outside) → Told seed config Again e f o p → GoesOn w seed config e daemon o f daemon p
turn_again w seed config e f daemon o p t =
    by_client e (λ x. IfSome x (λ c. Serves config Again (done e) c f o.held p.held (Rose o.writes p.writes) o.dialling p.dialling)) (GoesOn w seed config e daemon o f daemon p) t.serves
    (λ none h. again_hears w seed config e f daemon o p none (t.hears none) t.outer)
    (λ c is h. again_serves w seed config e f daemon o p c is h t.outer)

pub turn_ended : (w : Company) (seed : List ℕ) (config : Config) (ending : SessionEnd) (e f : Engine) (daemon : Daemon) (o p : Outside) → Told seed config (Ended ending) e f o p → EndsIn w seed config ending e daemon o f daemon p
turn_ended w seed config ending e f daemon o p t =
    by_client e (λ x. IfSome x (λ c. Serves config (Ended ending) (done e) c f o.held p.held (Rose o.writes p.writes) o.dialling p.dialling)) (EndsIn w seed config ending e daemon o f daemon p) t.serves
    (λ none h. ended_hears w seed config ending e f daemon o p none (t.hears none) t.outer)
    (λ c is h. ended_serves w seed config ending e f daemon o p c is h t.outer)

kind_at : (e : Engine) (turn : Turn) (c : Client) → e.client ≡ Some c → IfSome e.client (λ x. IsOfKind turn x) → IsOfKind turn c
kind_at e turn c is h = subst (λ (x : Option Client). IfSome x (λ y. IsOfKind turn y)) is h

pub turn_step : (w : Company) (seed : List ℕ) (config : Config) (event : Event) (e f : Engine) (daemon : Daemon) (o p : Outside) → ((c : Client) → e.client ≡ Some c → IsSpoken daemon c.course) → Told seed config (Step event) e f o p → Named w seed config e f daemon o p event
turn_step w seed config event e f daemon o p known t =
    by_client e (λ x. IfSome x (λ c. Serves config (Step event) (done e) c f o.held p.held (Rose o.writes p.writes) o.dialling p.dialling)) (Named w seed config e f daemon o p event) t.serves
    (λ none h. absurd (t.hears none))
    (λ c is h. elim h [
      | inl served ↦ step_by w seed config e f daemon o p c event (need_of c) is refl served (kind_at e (Step event) c is t.kind) (known c is) t.outer
      | inr idle ↦ absurd (not_idle_step event idle.ended)
    ])

-- an event that a script steps itself is no Collect
collects_by : (config : Config) (e f : Engine) (daemon : Daemon) (o p : Outside) (c : Client) (event : Event) (need : Need) → need_of c ≡ need
    → ServesBy config.pwfield config (Step event) need (done e) c f o.held p.held (Rose o.writes p.writes) o.dialling p.dialling → IsSpoken daemon c.course → MayCollect daemon event
collects_by config e f daemon o p c event (needs.Step other) n h known =
    let same : event ≡ other = same_event event other h.0.0.0 in
    may_collect daemon event (step_uncollects c.seed daemon c.course event (n ∙ ap needs.Step (sym same)) known)
collects_by config e f daemon o p c event (needs.Await ticket) n h known = absurd (no_step event ticket h.0.0.0)
collects_by config e f daemon o p c event (needs.Fetch server key) n h known = absurd h.0
collects_by config e f daemon o p c event (needs.Bind server dn password) n h known = absurd h.0
collects_by config e f daemon o p c event (needs.Say said) n h known = absurd h.0
collects_by config e f daemon o p c event needs.End n h known = absurd h.0.0

pub step_collects : (seed : List ℕ) (config : Config) (event : Event) (e f : Engine) (daemon : Daemon) (o p : Outside) → ((c : Client) → e.client ≡ Some c → IsSpoken daemon c.course) → Told seed config (Step event) e f o p → MayCollect daemon event
step_collects seed config event e f daemon o p known t =
    by_client e (λ x. IfSome x (λ c. Serves config (Step event) (done e) c f o.held p.held (Rose o.writes p.writes) o.dialling p.dialling)) (MayCollect daemon event) t.serves
    (λ none h. absurd (t.hears none))
    (λ c is h. elim h [
      | inl served ↦ collects_by config e f daemon o p c event (need_of c) refl served (known c is)
      | inr idle ↦ absurd (not_idle_step event idle.ended)
    ])

pub turn_collect : (w : Company) (seed : List ℕ) (config : Config) (ticket : ℕ) (e f : Engine) (daemon : Daemon) (o p : Outside) → ((c : Client) → e.client ≡ Some c → IsSpoken daemon c.course) → Told seed config (Collect ticket) e f o p
    → Named w seed config e f daemon o p (events.Collect ticket)
turn_collect w seed config ticket e f daemon o p known t =
    by_client e (λ x. IfSome x (λ c. Serves config (Collect ticket) (done e) c f o.held p.held (Rose o.writes p.writes) o.dialling p.dialling)) (Named w seed config e f daemon o p (events.Collect ticket)) t.serves
    (λ none h. absurd (t.hears none))
    (λ c is h. elim h [
      | inl served ↦ collect_by w seed config e f daemon o p c ticket (need_of c) is refl served (known c is) t.outer
      | inr idle ↦ absurd (not_idle_collect ticket idle.ended)
    ])

-- what follows a turn that named an event
pub turned_on : (w : Company) (seed : List ℕ) (config : Config) (r : Option SessionEnd) (e f h : Engine) (daemon mid daemon' : Daemon) (o p q : Outside) → GoesOn w seed config e daemon o f mid p → Turned w seed config r f mid p h daemon' q → Turned w seed config r e daemon o h daemon' q
turned_on w seed config None e f h daemon mid daemon' o p q goes turned = λ d before s. turned d before (goes d before s)
turned_on w seed config (Some ending) e f h daemon mid daemon' o p q goes turned = λ d before s. turned d before (goes d before s)

some_is : (e : Engine) (c : Client) → e.client ≡ Some c → IsSome e.client
some_is e c is = ap is_some is

-- what a turn leaves outside, by what it says of the objects that it works on
pub outer_by : {S W D : Type 0} (left : S → Option (List ℕ)) (reads : S → ℕ) (held : W → Option (List ℕ)) (writes : W → ℕ) (operations : D → Option (List Operation)) (received : D → Option (List (List ℕ))) (faults : D → ℕ) (behind : D → ℕ → Option Behind)
    (e : Engine) (s s' : S) (w w' : W) (d d' : D) (trace : Trace) → (e.client ≡ None → (w' ≡ w) × (d' ≡ d)) → (IsSome e.client → s' ≡ s) → reads s ≤ reads s' → writes w ≤ writes w'
    → Outer e (outside_at (left s) (held w) trace (reads s) (writes w) (record { operations = operations d; received = received d; faults = faults d; behind = behind d }))
    (outside_at (left s') (held w') trace (reads s') (writes w') (record { operations = operations d'; received = received d'; faults = faults d'; behind = behind d' }))
outer_by {S} {W} {D} left reads held writes operations received faults behind e s s' w w' d d' trace mute deaf reads_later writes_later = record {
  mute = λ none. (ap held (mute none).0, ap told (mute none).1);
  deaf = λ c is. (ap left (deaf (some_is e c is)), ap reads (deaf (some_is e c is)));
  trace = refl;
  reads = reads_later;
  writes = writes_later;
}
  where
    told : D → Dialling
    told x = record { operations = operations x; received = received x; faults = faults x; behind = behind x }
