-- How a session ends where it stands.
use Rattle.std.proofs.Common.{◌≡◌, ◌∙◌, inl, ℕ, ◌+◌, ◌≤◌, Bool, true, false, List, [], ◌∷◌, ◌++◌, length, Option, Some, None, refl, sym, ap, subst, append_assoc, append-nil, length-append, arith}
use Rattle.std.specs.Io.KnownBytes.{Appends, Consumes}
use Rattle.std.proofs.KnownBytes.{Consumes-trans}
use Rattle.sd_base.specs.Causes.{Rose}
use Rattle.sd_rules.specs.declared.events.Event.{Event}
use Rattle.sd_rules.specs.declared.replies.Given.{Given}
use Rattle.sd_rules.specs.declared.tasks.Need.TheVariants as needs
use Rattle.sd_rules.specs.declared.replies.Entry.{Entry}
use Rattle.sd_rules.specs.Reaching.{Reaches}
use Rattle.sd_rules.specs.Steps.{Daemon, entry_made, given, is_steppable}
use Rattle.sd_rules.specs.Scripts.{event_of}
use Rattle.sd_conf.specs.declared.config.Config.{Config}
use Rattle.sd_dial.specs.Operations.{Operation}
use Rattle.sd_engine.specs.Counting.{HasNotFallen}
use Rattle.sd_engine.specs.Lookups.{with_operations}
use Rattle.sd_engine.specs.Received.{with_lines}
use Rattle.sd_engine.specs.Courses.{Client, need_of, client_replied}
use Rattle.sd_engine.specs.declared.ending.SessionEnd.{SessionEnd}
use Rattle.sd_engine.specs.declared.ending.SessionEnd.TheVariants as ends
use Rattle.sd_engine.specs.Engines.{Engine, done}
use Rattle.sd_engine.specs.Listening.{EndsBy}
use Rattle.sd_engine.specs.Leading.{about}
use Rattle.sd_engine.specs.Turns.{Dialling}
use Rattle.sd_session.specs.Sessions.{Company, Finds, Finishes, Refuses, Steps, Stand, IsListening, moved, stand_after, frames_of, TracesOn, CountsFalls}
use Rattle.sd_session.specs.Closing.{Accounts, NoneReserved}
use Rattle.sd_session.specs.Running.{AskedAll, AskedLast, IsAskedTo, IsLeft, LeadsOn, RanTo, Unfinished, Outside, Stands, Took, TookMore, EndsAs, Asked}
use Rattle.sd_session.specs.Stepping.{IsMade, IsRefused, RefusedAs}
use Rattle.sd_session.proofs.Accounting.{account_over, account_reached, none_reserved}
use Rattle.sd_session.proofs.HeldLaws.{over_holds_nothing}
use Rattle.sd_session.proofs.HoldingLaws.{untrue}
use Rattle.sd_session.proofs.PickingLaws.{asks_behind_pick}
use Rattle.sd_session.proofs.Standing.{falls_by, falls_none, more_operations, more_lines, reads_more, may_step_on, traces_step, listens_by, account_by, in_hand_as, step_account, led_by_step}

operations_same : (known now : Option (List Operation)) (all : List Operation) → now ≡ with_operations known all → now ≡ with_operations known (all ++ [])
operations_same known now all e = e ∙ ap (with_operations known) (sym (append-nil all))

lines_same : (known now : Option (List (List ℕ))) (all : List (List ℕ)) → now ≡ with_lines known all → now ≡ with_lines known (all ++ [])
lines_same known now all e = e ∙ ap (with_lines known) (sym (append-nil all))

-- all that was asked and received
all_asked : (s t : Stand) (before d e : Dialling) → t.operations ≡ s.operations → t.received ≡ s.received → e ≡ d → IsAskedTo s before d → AskedAll t before e
all_asked s t before d e operations received same asked = record {
  operations = ap (λ (x : Dialling). x.operations) same ∙ asked.operations ∙ ap (with_operations before.operations) (sym operations);
  received = ap (λ (x : Dialling). x.received) same ∙ asked.received ∙ ap (with_lines before.received) (sym received);
}

-- the same, where no lookup was cut short
asked_as : (config : Config) (ending : SessionEnd) (s : Stand) (before p : Outside) → CountsFalls before.dialling.faults s.falls p.dialling.faults → AskedAll s before.dialling p.dialling → Asked config ending s before p
asked_as config ends.Closed s before p counted e = e
asked_as config ends.Stopped s before p counted e = e
asked_as config ends.ReadFault s before p counted e = e
asked_as config ends.WriteFault s before p counted e = e
asked_as config (ends.BadFrame at) s before p counted e = e
asked_as config ends.Cut s before p counted e = e
asked_as config (ends.Long count) s before p counted e = e
asked_as config (ends.JournalFull count) s before p counted e = e
asked_as config ends.Memory s before p counted e = record {
  more = [];
  lines = [];
  fell = false;
  last = inl (refl, refl);
  falls = falls_none before.dialling.faults s.falls p.dialling.faults counted;
  told = operations_same before.dialling.operations p.dialling.operations s.operations e.operations;
  received = lines_same before.dialling.received p.dialling.received s.received e.received;
}

-- what a turn that ends the session leaves outside
pub record Leaves (o p : Outside) : Type 0 where
  pub held : p.held ≡ o.held
  pub trace : p.trace ≡ o.trace
  pub reads : o.reads ≤ p.reads
  pub writes : o.writes ≤ p.writes

-- what is open where a session ended
idle_unfinished : (ending : SessionEnd) (d : Daemon) (e : Engine) (own : List Entry) → IsLeft d e own → NoneReserved d own → Unfinished ending d e own
idle_unfinished (ends.JournalFull count) d e own led none = led
idle_unfinished ends.Memory d e own led none = led
idle_unfinished ends.Closed d e own led none = none
idle_unfinished ends.Stopped d e own led none = none
idle_unfinished ends.ReadFault d e own led none = none
idle_unfinished ends.WriteFault d e own led none = none
idle_unfinished (ends.BadFrame at) d e own led none = none
idle_unfinished ends.Cut d e own led none = none
idle_unfinished (ends.Long count) d e own led none = none

-- without a request in hand that is nothing, but what the engine still lists
pub idle : (ending : SessionEnd) (d : Daemon) (e : Engine) (own : List Entry) → e.client ≡ None → Accounts d e.leads e.ticket e.client own → Unfinished ending d e own
idle ending d e own none a =
    let b : Accounts d e.leads e.ticket None own = subst (λ (x : Option Client). Accounts d e.leads e.ticket x own) none a in
    idle_unfinished ending d e own (record { led = b.led; are_own = b.are_own }) (none_reserved d own b.held)

left_as : (d : Daemon) (e f : Engine) (client : Option Client) (own : List Entry) → f.leads ≡ e.leads → f.ticket ≡ e.ticket → Accounts d e.leads e.ticket client own → IsLeft d f own
left_as d e f client own leads ticket a =
    let b : Accounts d f.leads f.ticket client own = account_by d e f client own leads ticket a in
    record { led = b.led; are_own = b.are_own }

pub ran_as : (w : Company) (seed : List ℕ) (config : Config) (d : Daemon) (before : Outside) (ending : SessionEnd) (e f : Engine) (daemon : Daemon) (o p : Outside) → (s : Stands w seed config d before e daemon o) → Leaves o p → HasNotFallen o.dialling.faults p.dialling.faults
    → Asked config ending (stand_after seed config d s.moves) before p → EndsAs w ending (stand_after seed config d s.moves) before p → Unfinished ending daemon f (stand_after seed config d s.moves).own → RanTo w seed config d before ending f daemon p
ran_as w seed config d before ending e f daemon o p s l later asked why unfinished =
    let s0 : Stand = stand_after seed config d s.moves in
    record {
      ran = record {
        moves = s.moves;
        may = s.may;
        stepped = s.hand.same;
        written = subst (λ (x : Option (List ℕ)). Appends before.held x s0.written) (sym l.held) s.written.written;
        trace = subst (TracesOn before.trace s0) (sym l.trace) s.trace;
        operations = asked;
        falls = let counted = s.asked.falls in omega (arith, counted, later);
        why = why;
        asks = asks_behind_pick;
        failed = λ b. let rose = s.written.failed b in omega (arith, rose, l.writes);
        reads = omega (arith, s.heard.reads, l.reads);
        writes = omega (arith, s.written.writes, l.writes);
      };
      unfinished = unfinished;
    }

-- ---- ends without a request in hand

took_nothing : (a b c : Option (List ℕ)) (bytes : List ℕ) → Consumes a b bytes → Consumes b c [] → Consumes a c bytes
took_nothing a b c bytes first none = subst (Consumes a c) (append-nil bytes) (Consumes-trans a b c bytes [] first none)

took_more : (a b c : Option (List ℕ)) (frames bytes piece : List ℕ) → Consumes a b (frames ++ bytes) → Consumes b c piece → Consumes a c (frames ++ (bytes ++ piece))
took_more a b c frames bytes piece first more = subst (Consumes a c) (append_assoc frames bytes piece) (Consumes-trans a b c (frames ++ bytes) piece first more)

size_read : (frames bytes : List ℕ) (place : ℕ) → place ≡ length frames → place + length bytes ≡ 1073741824 → length (frames ++ bytes) ≡ 1073741824
size_read frames bytes place e f = omega (arith, e, f, length-append frames bytes)

pub heard_ends : (w : Company) (ending : SessionEnd) (s : Stand) (e : Engine) (before o p : Outside) → IsListening s → Consumes before.left o.left (frames_of s.requests ++ e.inbox.bytes) → e.inbox.place ≡ length (frames_of s.requests) → before.reads ≤ o.reads
    → EndsBy ending e.inbox o.left p.left (Rose o.reads p.reads) → EndsAs w ending s before p
heard_ends w ends.Closed s e before o p listens consumed place reads h =
    let all : Took s e.inbox.bytes before p = took_nothing _ _ _ _ consumed h.2 in
    (listens, subst (λ (rest : List ℕ). Took s rest before p) h.0 all, h.1)
heard_ends w ends.Cut s e before o p listens consumed place reads h =
    (listens, record { rest = e.inbox.bytes; some = h.0; cut = h.1; taken = took_nothing _ _ _ _ consumed h.3; at_end = h.2 })
heard_ends w (ends.BadFrame at) s e before o p listens consumed place reads h =
    (listens, record { rest = e.inbox.bytes; bad = h.1; place = h.0 ∙ place; taken = subst (λ (l : Option (List ℕ)). Consumes before.left l (frames_of s.requests ++ e.inbox.bytes)) (sym h.2) consumed })
heard_ends w (ends.Long count) s e before o p listens consumed place reads h = (
  listens,
  record {
    rest = e.inbox.bytes;
    piece = h.piece;
    limit = h.all;
    read = size_read (frames_of s.requests) e.inbox.bytes e.inbox.place place h.read;
    one = h.one;
    cut = h.cut;
    taken = took_more _ _ _ (frames_of s.requests) e.inbox.bytes h.piece consumed h.consumed;
  },
)
heard_ends w ends.ReadFault s e before o p listens consumed place reads h =
    (listens, record { rest = e.inbox.bytes; cut = h.1; taken = took_nothing _ _ _ _ consumed h.2; failed = let rose = h.0 in omega (arith, reads, rose) })
heard_ends w ends.Memory s e before o p listens consumed place reads h =
    record { rest = e.inbox.bytes ++ h.piece; taken = took_more _ _ _ (frames_of s.requests) e.inbox.bytes h.piece consumed h.consumed }
heard_ends w ends.Stopped s e before o p listens consumed place reads h = absurd h
heard_ends w ends.WriteFault s e before o p listens consumed place reads h = absurd h
heard_ends w (ends.JournalFull count) s e before o p listens consumed place reads h = absurd h

pub ran_hearing : (w : Company) (seed : List ℕ) (config : Config) (d : Daemon) (before : Outside) (ending : SessionEnd) (e f : Engine) (daemon : Daemon) (o p : Outside) → Stands w seed config d before e daemon o → e.client ≡ None → f ≡ e → Leaves o p → p.dialling ≡ o.dialling
    → EndsBy ending e.inbox o.left p.left (Rose o.reads p.reads) → RanTo w seed config d before ending f daemon p
ran_hearing w seed config d before ending e f daemon o p s none same l dialling h =
    let s0 : Stand = stand_after seed config d s.moves in
    subst (λ (x : Engine). RanTo w seed config d before ending x daemon p) (sym same)
    (ran_as w seed config d before ending e e daemon o p s l (subst (λ (x : Dialling). HasNotFallen o.dialling.faults x.faults) (sym dialling) (omega arith))
    (asked_as config ending s0 before p (subst (λ (x : Dialling). CountsFalls before.dialling.faults s0.falls x.faults) (sym dialling) s.asked.falls) (all_asked s0 s0 before.dialling o.dialling p.dialling refl refl dialling s.asked))
    (heard_ends w ending s0 e before o p (listens_by w seed config d before e daemon o s none) s.heard.consumed s.heard.place s.heard.reads h)
    (idle ending daemon e s0.own none s.account))

-- ---- ends with a request that is carried out, or for want of memory

took_unread : (s : Stand) (e : Engine) (before o p : Outside) → p.left ≡ o.left → Consumes before.left o.left (frames_of s.requests ++ e.inbox.bytes) → TookMore s before p
took_unread s e before o p left consumed = record { rest = e.inbox.bytes; taken = subst (λ (l : Option (List ℕ)). Consumes before.left l (frames_of s.requests ++ e.inbox.bytes)) (sym left) consumed }

-- the request in hand is carried out, and that ends the session
ran_finished : (w : Company) (seed : List ℕ) (config : Config) (d : Daemon) (before : Outside) (ending : SessionEnd) (e f : Engine) (daemon : Daemon) (o p : Outside) (c : Client) → (s : Stands w seed config d before e daemon o) → e.client ≡ Some c → need_of c ≡ needs.End → f ≡ done e
    → Leaves o p → p.dialling ≡ o.dialling → EndsAs w ending (moved seed config (stand_after seed config d s.moves) Finishes) before p → RanTo w seed config d before ending f daemon p
ran_finished w seed config d before ending e f daemon o p c s is needed new l dialling why =
    let s0 : Stand = stand_after seed config d s.moves in
    let t : Stand = moved seed config s0 Finishes in
    record {
      ran = record {
        moves = Finishes ∷ s.moves;
        may = (record { client = c; in_hand = sym s.hand.client ∙ is; needed = needed }, s.may);
        stepped = s.hand.same;
        written = subst (λ (x : Option (List ℕ)). Appends before.held x s0.written) (sym l.held) s.written.written;
        trace = subst (TracesOn before.trace s0) (sym l.trace) s.trace;
        operations = asked_as config ending t before p (subst (λ (x : Dialling). CountsFalls before.dialling.faults s0.falls x.faults) (sym dialling) s.asked.falls) (all_asked s0 t before.dialling o.dialling p.dialling refl refl dialling s.asked);
        falls = subst (λ (x : Dialling). CountsFalls before.dialling.faults s0.falls x.faults) (sym dialling) s.asked.falls;
        why = why;
        asks = asks_behind_pick;
        failed = λ b. let rose = s.written.failed b in omega (arith, rose, l.writes);
        reads = omega (arith, s.heard.reads, l.reads);
        writes = omega (arith, s.written.writes, l.writes);
      };
      unfinished = idle ending daemon f t.own (ap (λ (x : Engine). x.client) new)
          (account_by daemon e f f.client t.own (ap (λ (x : Engine). x.leads) new) (ap (λ (x : Engine). x.ticket) new)
          (account_over daemon e.leads e.ticket c e.client f.client t.own is (ap (λ (x : Engine). x.client) new) (over_holds_nothing c.seed c.course needed) s.account));
    }

-- it was the operator's stop, and its answer was written whole
pub ran_stopped : (w : Company) (seed : List ℕ) (config : Config) (d : Daemon) (before : Outside) (e f : Engine) (daemon : Daemon) (o p : Outside) (c : Client) → Stands w seed config d before e daemon o → e.client ≡ Some c → need_of c ≡ needs.End → e.stops ≡ true → e.has_failed ≡ false → f ≡ done e
    → Leaves o p → p.left ≡ o.left → p.dialling ≡ o.dialling → RanTo w seed config d before ends.Stopped f daemon p
ran_stopped w seed config d before e f daemon o p c s is needed stops fine new l left dialling =
    ran_finished w seed config d before ends.Stopped e f daemon o p c s is needed new l dialling
    (refl, sym s.written.broken ∙ fine, sym s.heard.stops ∙ stops, took_unread (moved seed config (stand_after seed config d s.moves) Finishes) e before o p left s.heard.consumed)

-- its answer was not written whole
pub ran_write_fault : (w : Company) (seed : List ℕ) (config : Config) (d : Daemon) (before : Outside) (e f : Engine) (daemon : Daemon) (o p : Outside) (c : Client) → Stands w seed config d before e daemon o → e.client ≡ Some c → need_of c ≡ needs.End → e.has_failed ≡ true → f ≡ done e
    → Leaves o p → p.left ≡ o.left → p.dialling ≡ o.dialling → RanTo w seed config d before ends.WriteFault f daemon p
ran_write_fault w seed config d before e f daemon o p c s is needed failed new l left dialling =
    ran_finished w seed config d before ends.WriteFault e f daemon o p c s is needed new l dialling
    (refl, sym s.written.broken ∙ failed, took_unread (moved seed config (stand_after seed config d s.moves) Finishes) e before o p left s.heard.consumed)

-- memory was wanting, maybe for what a lookup or a bind came to
pub ran_starved : (w : Company) (seed : List ℕ) (config : Config) (d : Daemon) (before : Outside) (e f : Engine) (daemon : Daemon) (o p : Outside) (more : List Operation) (lines : List (List ℕ)) (fell : Bool) → (s : Stands w seed config d before e daemon o) → AskedLast config (stand_after seed config d s.moves) more lines fell → (fell ≡ true → Rose o.dialling.faults p.dialling.faults) → f.leads ≡ e.leads → f.ticket ≡ e.ticket → Leaves o p → p.left ≡ o.left
    → HasNotFallen o.dialling.faults p.dialling.faults → p.dialling.operations ≡ with_operations o.dialling.operations more → p.dialling.received ≡ with_lines o.dialling.received lines → RanTo w seed config d before ends.Memory f daemon p
ran_starved w seed config d before e f daemon o p more lines fell s last rose leads ticket l left later operations received =
    let s0 : Stand = stand_after seed config d s.moves in
    ran_as w seed config d before ends.Memory e f daemon o p s l later
    (record {
      more = more;
      lines = lines;
      fell = fell;
      last = last;
      falls = falls_by before.dialling.faults s0.falls o.dialling.faults p.dialling.faults fell s.asked.falls later rose;
      told = more_operations before.dialling.operations o.dialling.operations p.dialling.operations s0.operations more s.asked.operations operations;
      received = more_lines before.dialling.received o.dialling.received p.dialling.received s0.received lines s.asked.received received;
    })
    (took_unread s0 e before o p left s.heard.consumed) (left_as daemon e f e.client s0.own leads ticket s.account)

same_operations : (known : Option (List Operation)) → known ≡ with_operations known []
same_operations None = refl
same_operations (Some operations) = ap Some (sym (append-nil operations))

pub same_lines : (known : Option (List (List ℕ))) → known ≡ with_lines known []
same_lines None = refl
same_lines (Some lines) = ap Some (sym (append-nil lines))

pub ran_idle : (w : Company) (seed : List ℕ) (config : Config) (d : Daemon) (before : Outside) (e : Engine) (daemon : Daemon) (o : Outside) → Stands w seed config d before e daemon o → RanTo w seed config d before ends.Memory e daemon o
ran_idle w seed config d before e daemon o s =
    ran_starved w seed config d before e e daemon o o [] [] false s (inl (refl, refl)) (λ fell. untrue fell) refl refl (record { held = refl; trace = refl; reads = omega arith; writes = omega arith }) refl (omega arith) (same_operations o.dialling.operations) (same_lines o.dialling.received)

-- ---- ends by a step

pub ran_refused : (w : Company) (seed : List ℕ) (config : Config) (d : Daemon) (before : Outside) (ending : SessionEnd) (e : Engine) (daemon daemon' : Daemon) (o p : Outside) (c : Client) (event : Event) → (s : Stands w seed config d before e daemon o) → e.client ≡ Some c
    → event_of (need_of c) ≡ Some event → (r : IsRefused w daemon event ending daemon' o.trace p.trace) → ((count : ℕ) → ending ≡ ends.JournalFull count → w.full (stand_after seed config d (Refuses r.now ∷ Finds daemon' ∷ s.moves)) event count)
    → Reaches daemon daemon' → p ≡ record o { trace = p.trace } → RanTo w seed config d before ending e daemon' p
ran_refused w seed config d before ending e daemon daemon' o p c event s is needed r forgot to same = record {
  ran = record {
    moves = Refuses r.now ∷ Finds daemon' ∷ s.moves;
    may = (tt, (subst (λ (x : Daemon). w.others x daemon') s.hand.same r.others, s.may));
    stepped = refl;
    written = subst (λ (x : Outside). Appends before.held x.held s0.written) (sym same) s.written.written;
    trace = (reads_more before.trace.readings o.trace.readings p.trace.readings s0.moments r.now s.trace.0 r.read, r.entries ∙ s.trace.1);
    operations = asked_as config ending t before p (subst (λ (x : Outside). CountsFalls before.dialling.faults s0.falls x.dialling.faults) (sym same) s.asked.falls) (all_asked s0 t before.dialling o.dialling p.dialling refl refl (ap (λ (x : Outside). x.dialling) same) s.asked);
    falls = subst (λ (x : Outside). CountsFalls before.dialling.faults s0.falls x.dialling.faults) (sym same) s.asked.falls;
    why = by_end ending r.why forgot;
    asks = asks_behind_pick;
    failed = λ b. subst (λ (x : Outside). Rose before.writes x.writes) (sym same) (s.written.failed b);
    reads = subst (λ (x : Outside). before.reads ≤ x.reads) (sym same) s.heard.reads;
    writes = subst (λ (x : Outside). before.writes ≤ x.writes) (sym same) s.written.writes;
  };
  unfinished = left_open ending r.why (left_as daemon' e e e.client (stand_after seed config d s.moves).own refl refl (account_reached daemon daemon' e.leads e.ticket e.client (stand_after seed config d s.moves).own to s.account));
}
  where
    left_open : (end : SessionEnd) → RefusedAs daemon' event end → IsLeft daemon' e (stand_after seed config d s.moves).own → Unfinished end daemon' e (stand_after seed config d s.moves).own
    left_open (ends.JournalFull count) h led = led
    left_open ends.Memory h led = led
    left_open ends.Closed h led = absurd h
    left_open ends.Stopped h led = absurd h
    left_open ends.ReadFault h led = absurd h
    left_open ends.WriteFault h led = absurd h
    left_open (ends.BadFrame at) h led = absurd h
    left_open ends.Cut h led = absurd h
    left_open (ends.Long count) h led = absurd h

    s0 : Stand
    s0 = stand_after seed config d s.moves

    t : Stand
    t = moved seed config (moved seed config s0 (Finds daemon')) (Refuses r.now)

    took : TookMore t before p
    took = took_unread t e before o p (ap (λ (x : Outside). x.left) same) s.heard.consumed

    by_end : (end : SessionEnd) → RefusedAs daemon' event end → ((count : ℕ) → end ≡ ends.JournalFull count → w.full t event count) → EndsAs w end t before p
    by_end (ends.JournalFull count) h full = (
      record {
        client = c;
        in_hand = sym s.hand.client ∙ is;
        event = event;
        needed = needed;
        full = h.0;
        counted = h.1;
        forgot = full count refl;
      },
      took,
    )
    by_end ends.Memory h full = took
    by_end ends.Closed h full = absurd h
    by_end ends.Stopped h full = absurd h
    by_end ends.ReadFault h full = absurd h
    by_end ends.WriteFault h full = absurd h
    by_end (ends.BadFrame at) h full = absurd h
    by_end ends.Cut h full = absurd h
    by_end (ends.Long count) h full = absurd h

-- a step was made, and memory was wanting for what it gave
pub ran_untold : (w : Company) (seed : List ℕ) (config : Config) (d : Daemon) (before : Outside) (e f : Engine) (daemon daemon' : Daemon) (o p : Outside) (c : Client) (event : Event) (gave : Given) → Stands w seed config d before e daemon o → e.client ≡ Some c
    → event_of (need_of c) ≡ Some event → e.about ≡ about event → (m : IsMade w daemon event gave daemon' o.trace p.trace) → Reaches daemon m.found → is_steppable m.found.past event ≡ true → LeadsOn e gave f → p ≡ record o { trace = p.trace }
    → RanTo w seed config d before ends.Memory f daemon' p
ran_untold w seed config d before e f daemon daemon' o p c event gave s is needed about_it m to may leads same =
    let s0 : Stand = stand_after seed config d s.moves in
    let t : Stand = moved seed config (moved seed config s0 (Finds m.found)) (Steps m.now event) in
    record {
      ran = record {
        moves = Steps m.now event ∷ Finds m.found ∷ s.moves;
        may = may_step_on w seed config d before e daemon daemon' o p.trace c event gave s is needed m may;
        stepped = m.made;
        written = subst (λ (x : Outside). Appends before.held x.held s0.written) (sym same) s.written.written;
        trace = traces_step w before.trace o.trace p.trace s0 daemon daemon' event gave s.trace m;
        operations = asked_as config ends.Memory t before p (subst (λ (x : Outside). CountsFalls before.dialling.faults s0.falls x.dialling.faults) (sym same) s.asked.falls) (all_asked s0 t before.dialling o.dialling p.dialling refl refl (ap (λ (x : Outside). x.dialling) same) s.asked);
        falls = subst (λ (x : Outside). CountsFalls before.dialling.faults s0.falls x.dialling.faults) (sym same) s.asked.falls;
        why = took_unread t e before o p (ap (λ (x : Outside). x.left) same) s.heard.consumed;
        asks = asks_behind_pick;
        failed = λ b. subst (λ (x : Outside). Rose before.writes x.writes) (sym same) (s.written.failed b);
        reads = subst (λ (x : Outside). before.reads ≤ x.reads) (sym same) s.heard.reads;
        writes = subst (λ (x : Outside). before.writes ≤ x.writes) (sym same) s.written.writes;
      };
      unfinished = left_as daemon' f f _ _ refl refl (led_by_step m.found daemon' m.now event e f gave (Some (client_replied c (given m.found m.now event))) (s0.own ++ entry_made m.found m.now event ∷ []) m.made m.gives about_it leads.leads leads.ticket
          (step_account w daemon daemon' e o.trace p.trace c event gave s0.own is needed m to may (in_hand_as seed daemon e c is s.hand.in_hand).known.order s.account));
    }
