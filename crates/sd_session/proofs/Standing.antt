-- What a turn makes of where a session stands.
use Rattle.std.proofs.Common.{◌≡◌, ◌∙◌, ℕ, ◌+◌, ◌≤◌, Bool, true, false, List, [], ◌∷◌, ◌++◌, length, Option, Some, None, refl, sym, ap, subst, append_assoc, length-append, arith}
use Rattle.std.specs.Prelude.{IfSome, ◌-◌, ◌^◌, min, nat_le}
use Rattle.std.proofs.lemmas.Bool.Decides.{nat_tests}
use Rattle.std.specs.Option.{option_map}
use Rattle.std.specs.Io.KnownBytes.{Appends, Consumes}
use Rattle.std.proofs.KnownBytes.{Appends-trans, Consumes-trans}
use Rattle.sd_base.specs.Causes.{Rose}
use Rattle.sd_rules.specs.declared.events.Event.{Event}
use Rattle.sd_rules.specs.declared.keys.Key.{Key}
use Rattle.sd_rules.specs.declared.replies.Entry.{Entry}
use Rattle.sd_rules.specs.declared.replies.Given.{Given}
use Rattle.sd_rules.specs.declared.tasks.Need.TheVariants as needs
use Rattle.sd_rules.specs.declared.tasks.Said.{Said}
use Rattle.sd_rules.specs.Reaching.{Reaches}
use Rattle.sd_rules.specs.Steps.{Daemon, after, entry_made, given, is_steppable}
use Rattle.sd_rules.specs.Scripts.{event_of}
use Rattle.sd_conf.specs.declared.config.Config.{Config}
use Rattle.sd_clock.specs.Readings.{FollowsOn}
use Rattle.sd_dial.specs.Operations.{Operation}
use Rattle.sd_engine.specs.Counting.{HasNotFallen}
use Rattle.sd_engine.specs.Lookups.{with_operations}
use Rattle.sd_engine.specs.Received.{with_lines}
use Rattle.sd_engine.proofs.Asking.{lookup_operations_on, bind_operations_on}
use Rattle.sd_inbox.specs.Taking.{Unread}
use Rattle.sd_wire.specs.declared.requests.Request.{Request}
use Rattle.sd_wire.specs.Frames.{frame_of}
use Rattle.sd_engine.specs.Courses.{Client, need_of, client_told, client_replied, client_fetched, client_bound, told}
use Rattle.sd_engine.specs.Engines.{Engine, client_of, heard, awaiting, done, replied}
use Rattle.sd_engine.specs.Names.{holds_order}
use Rattle.sd_engine.specs.Leading.{about, leads_after, ticket_after}
use Rattle.sd_engine.specs.Turns.{Dialling, HearsRequest, HearsBytes, GoesByFetch, GoesByBind, IsTold, IsUntold}
use Rattle.sd_session.specs.Sessions.{Company, Move, Finds, Hears, Steps, Refuses, Fetches, Binds, Tells, Breaks, Finishes, Stand, AllMay, IsListening, moved, stand_after, frames_of, last_stops, ReadsOn, Trace, TracesOn, CountsFalls, count_of}
use Rattle.sd_session.specs.Spoken.{IsSpoken}
use Rattle.sd_session.specs.Holding.{is_told}
use Rattle.sd_session.specs.Picking.{server_asked, asks_at, IsPicked, IsBehindPick}
use Rattle.sd_session.proofs.PickingLaws.{asks_behind_pick, behind_nothing, behind_step}
use Rattle.sd_session.specs.Running.{WasTold, Outside, IsInHand, IsHeardTo, IsWrittenTo, IsAskedTo, Stands}
use Rattle.sd_session.specs.Stepping.{IsMade, IsWaited}
use Rattle.sd_session.specs.Closing.{Accounts}
use Rattle.sd_session.proofs.Accounting.{account_same, account_hears, account_over, account_reached, account_steps}
use Rattle.sd_session.proofs.Begun.{begun_is_spoken}
use Rattle.sd_session.proofs.HeldLaws.{told_held, fetched_held, bound_held, first_holds_nothing, over_holds_nothing}
use Rattle.sd_session.proofs.ToldLaws.{says_nothing_more, told_once, told_replied, told_fetched, told_bound}
use Rattle.sd_session.proofs.SpokenLaws.{told_known, fetched_known, bound_known}

-- ---- what is told of the outside goes on

pub more_operations : (known between now : Option (List Operation)) (first more : List Operation) → between ≡ with_operations known first → now ≡ with_operations between more → now ≡ with_operations known (first ++ more)
more_operations None between now first more e f = f ∙ ap (λ (o : Option (List Operation)). with_operations o more) e
more_operations (Some operations) between now first more e f =
    f ∙ ap (λ (o : Option (List Operation)). with_operations o more) e ∙ ap Some (append_assoc operations first more)

pub more_lines : (known between now : Option (List (List ℕ))) (first more : List (List ℕ)) → between ≡ with_lines known first → now ≡ with_lines between more → now ≡ with_lines known (first ++ more)
more_lines None between now first more e f = f ∙ ap (λ (o : Option (List (List ℕ))). with_lines o more) e
more_lines (Some lines) between now first more e f =
    f ∙ ap (λ (o : Option (List (List ℕ))). with_lines o more) e ∙ ap Some (append_assoc lines first more)

pub reads_more : (before between now : Option (List ℕ)) (moments : List ℕ) (moment : ℕ) → ReadsOn before moments between → FollowsOn between moment now → ReadsOn before (moments ++ moment ∷ []) now
reads_more before between None moments moment e f = tt
reads_more before None (Some readings) moments moment e f = absurd f
reads_more None (Some earlier) (Some readings) moments moment e f = absurd e
reads_more (Some first) (Some earlier) (Some readings) moments moment e f = f ∙ ap (λ (list : List ℕ). list ++ moment ∷ []) e ∙ append_assoc first moments (moment ∷ [])

-- whether a count of faults rose
abbrev pub has_risen : ℕ → ℕ → Bool
has_risen before now = nat_le (min (before + 1) (2 ^ 64 - 1)) now

pub risen : (before now : ℕ) → Rose before now → has_risen before now ≡ true
risen before now rose = at_most (min (before + 1) (2 ^ 64 - 1)) now rose
  where
    at_most : (m n : ℕ) → m ≤ n → nat_le m n ≡ true
    at_most m n h = grind (arith, nat_tests, h)

pub rose_by : (before now : ℕ) → has_risen before now ≡ true → Rose before now
rose_by before now h = at_most (min (before + 1) (2 ^ 64 - 1)) now h
  where
    at_most : (m n : ℕ) → nat_le m n ≡ true → m ≤ n
    at_most m n h = grind (arith, nat_tests, h)

pub falls_by : (before falls between now : ℕ) (fell : Bool) → CountsFalls before falls between → HasNotFallen between now → (fell ≡ true → Rose between now) → CountsFalls before (falls + count_of fell) now
falls_by before falls between now true counted later rose = let up = rose refl in omega (arith, counted, up)
falls_by before falls between now false counted later rose = omega (arith, counted, later)

pub falls_more : (before falls between now : ℕ) → CountsFalls before falls between → HasNotFallen between now → CountsFalls before (falls + count_of (has_risen between now)) now
falls_more before falls between now counted later = falls_by before falls between now (has_risen between now) counted later (rose_by between now)

pub falls_none : (before falls now : ℕ) → CountsFalls before falls now → CountsFalls before (falls + count_of false) now
falls_none before falls now counted = omega (arith, counted)

pub fallen_later : (a b c : ℕ) → HasNotFallen a b → HasNotFallen b c → HasNotFallen a c
fallen_later a b c e f = omega (arith, e, f)

-- ---- moves

-- the frame in front was passed: the bytes taken are the same
frame_passed : (frames frame rest unread : List ℕ) → unread ≡ frame ++ rest → frames ++ unread ≡ (frames ++ frame) ++ rest
frame_passed frames frame rest unread e = ap (λ (list : List ℕ). frames ++ list) e ∙ sym (append_assoc frames frame rest)

heard_frame : (s : Stand) (e f : Engine) (seed : List ℕ) (config : Config) (before o p : Outside) → IsHeardTo s e before o → (h : HearsRequest seed config.settings e f o.left p.left) → o.reads ≤ p.reads
    → IsHeardTo (moved seed config s (Hears h.request)) f before p
heard_frame s e f seed config before o p heard h later = record {
  consumed =
      subst (λ (l : Option (List ℕ)). Consumes before.left l ((frames_of s.requests ++ frame_of h.request) ++ f.inbox.bytes)) (sym h.quiet)
      (subst (Consumes before.left o.left)
      (frame_passed (frames_of s.requests) (frame_of h.request) f.inbox.bytes e.inbox.bytes (h.frame.bytes ∙ ap (λ (x : Engine). frame_of h.request ++ x.inbox.bytes) (sym h.after)))
      heard.consumed);
  place =
      ap (λ (x : Engine). x.inbox.place) h.after ∙ h.frame.place ∙ ap (λ (n : ℕ). n + length (frame_of h.request)) heard.place
      ∙ sym (length-append (frames_of s.requests) (frame_of h.request));
  stops = ap (λ (x : Engine). x.stops) h.after;
  reads = omega (arith, heard.reads, later);
}

heard_bytes : (s : Stand) (e f : Engine) (before o p : Outside) → IsHeardTo s e before o → (h : HearsBytes e f o.left p.left) → o.reads ≤ p.reads → IsHeardTo s f before p
heard_bytes s e f before o p heard h later =
    let bytes : f.inbox.bytes ≡ e.inbox.bytes ++ h.taken.piece = ap (λ (x : Engine). x.inbox.bytes) h.after ∙ ap (λ (u : Unread). u.bytes) h.taken.bytes in
    record {
      consumed =
          subst (Consumes before.left p.left) (append_assoc (frames_of s.requests) e.inbox.bytes h.taken.piece ∙ ap (λ (list : List ℕ). frames_of s.requests ++ list) (sym bytes))
          (Consumes-trans _ _ _ _ _ heard.consumed h.taken.consumed);
      place = ap (λ (x : Engine). x.inbox.place) h.after ∙ ap (λ (u : Unread). u.place) h.taken.bytes ∙ heard.place;
      stops = ap (λ (x : Engine). x.stops) h.after ∙ heard.stops;
      reads = omega (arith, heard.reads, later);
    }

-- nothing was heard
pub record SameHeard (e f : Engine) (o p : Outside) : Type 0 where
  pub inbox : f.inbox ≡ e.inbox
  pub stops : f.stops ≡ e.stops
  pub left : p.left ≡ o.left
  pub reads : p.reads ≡ o.reads

heard_on : (s t : Stand) (e f : Engine) (before o p : Outside) → t.requests ≡ s.requests → IsHeardTo s e before o → SameHeard e f o p → IsHeardTo t f before p
heard_on s t e f before o p requests heard same = record {
  consumed =
      subst (λ (l : Option (List ℕ)). Consumes before.left l (frames_of t.requests ++ f.inbox.bytes)) (sym same.left)
      (subst (λ (u : Unread). Consumes before.left o.left (frames_of t.requests ++ u.bytes)) (sym same.inbox)
      (subst (λ (rs : List Request). Consumes before.left o.left (frames_of rs ++ e.inbox.bytes)) (sym requests) heard.consumed));
  place = ap (λ (u : Unread). u.place) same.inbox ∙ heard.place ∙ ap (λ (rs : List Request). length (frames_of rs)) (sym requests);
  stops = same.stops ∙ heard.stops ∙ ap (λ (rs : List Request). last_stops rs) (sym requests);
  reads = subst (λ (n : ℕ). before.reads ≤ n) (sym same.reads) heard.reads;
}

-- nothing was written
pub record SameWritten (e f : Engine) (o p : Outside) : Type 0 where
  pub held : p.held ≡ o.held
  pub same : f.has_failed ≡ e.has_failed
  pub told : WasTold f.has_failed f.client
  pub writes : o.writes ≤ p.writes

-- without a request in hand all answers were written whole
pub all_whole : (b : Bool) (client : Option Client) → client ≡ None → WasTold b client → b ≡ false
all_whole false client none h = refl
all_whole true None none h = absurd h
all_whole true (Some c) none h = let clash : ⊥ = cc in absurd clash

untold : (b : Bool) (client : Option Client) → b ≡ false → WasTold b client
untold false client h = tt
untold true client h = let clash : ⊥ = cc in absurd clash

told_on : (b : Bool) (c d : Client) → (is_told c.course ≡ true → is_told d.course ≡ true) → WasTold b (Some c) → WasTold b (Some d)
told_on false c d f h = tt
told_on true c d f h = f h

-- who is told now was not told before
says_once : (b : Bool) (c : Client) (said : Said) → need_of c ≡ needs.Say said → WasTold b (Some c) → b ≡ false
says_once false c said needed h = refl
says_once true c said needed h = says_nothing_more c.seed c.course said h needed

told_at : (e : Engine) (c : Client) → e.client ≡ Some c → WasTold e.has_failed e.client → WasTold e.has_failed (Some c)
told_at e c is h = subst (λ (o : Option Client). WasTold e.has_failed o) is h

written_on : (s t : Stand) (e f : Engine) (before o p : Outside) → t.written ≡ s.written → t.broken ≡ s.broken → IsWrittenTo s e before o → SameWritten e f o p → IsWrittenTo t f before p
written_on s t e f before o p as_written as_broken written same = record {
  written =
      subst (λ (l : Option (List ℕ)). Appends before.held l t.written) (sym same.held)
      (subst (Appends before.held o.held) (sym as_written) written.written);
  broken = same.same ∙ written.broken ∙ sym as_broken;
  told = same.told;
  failed = λ b. let rose = written.failed (sym as_broken ∙ b) in omega (arith, rose, same.writes);
  writes = omega (arith, written.writes, same.writes);
}

asked_on : (s t : Stand) (before d e : Dialling) → t.operations ≡ s.operations → t.received ≡ s.received → t.falls ≡ s.falls → e ≡ d → IsAskedTo s before d → IsAskedTo t before e
asked_on s t before d e operations received falls same asked = record {
  operations = ap (λ (x : Dialling). x.operations) same ∙ asked.operations ∙ ap (with_operations before.operations) (sym operations);
  received = ap (λ (x : Dialling). x.received) same ∙ asked.received ∙ ap (with_lines before.received) (sym received);
  behind = λ i. ap (λ (x : Dialling). x.behind i) same ∙ asked.behind i;
  falls = subst (λ (x : Dialling). CountsFalls before.faults t.falls x.faults) (sym same) (subst (λ (n : ℕ). CountsFalls before.faults n d.faults) (sym falls) asked.falls);
  later = subst (λ (x : Dialling). HasNotFallen before.faults x.faults) (sym same) asked.later;
}

-- the same is led and waited with
pub account_by : (d : Daemon) (e f : Engine) (client : Option Client) (own : List Entry) → f.leads ≡ e.leads → f.ticket ≡ e.ticket → Accounts d e.leads e.ticket client own → Accounts d f.leads f.ticket client own
account_by d e f client own leads ticket a =
    subst (λ (ms : List ℕ). Accounts d ms f.ticket client own) (sym leads) (subst (λ (t : Option ℕ). Accounts d e.leads t client own) (sym ticket) a)

account_still : (d : Daemon) (e f : Engine) (own : List Entry) → f.leads ≡ e.leads → f.ticket ≡ e.ticket → f.client ≡ e.client → Accounts d e.leads e.ticket e.client own → Accounts d f.leads f.ticket f.client own
account_still d e f own leads ticket client a = account_by d e f f.client own leads ticket (subst (λ (x : Option Client). Accounts d e.leads e.ticket x own) (sym client) a)

-- with a request in hand the session may go on
goes_with : (f : Engine) (c : Client) → f.client ≡ Some c → f.client ≡ None → f.stops ≡ false
goes_with f c is none = let clash : ⊥ = some_none c (sym is ∙ none) in absurd clash
  where
    some_none : (c : Client) → Some c ≡ None → ⊥
    some_none c e = cc

-- the server that the request in hand asks was picked
picked_at : (e : Engine) (c : Client) (own : List Entry) → e.client ≡ Some c → IsBehindPick e.client own → (server : ℕ) → server_asked (need_of c) ≡ Some server → IsPicked server own
picked_at e c own is picked server asks = picked server (ap asks_at is ∙ asks)

-- between two turns, without a request in hand, the session listens
pub listens_by : (w : Company) (seed : List ℕ) (config : Config) (d : Daemon) (before : Outside) (e : Engine) (daemon : Daemon) (o : Outside) → (s : Stands w seed config d before e daemon o) → e.client ≡ None → IsListening (stand_after seed config d s.moves)
listens_by w seed config d before e daemon o s none = record {
  none = sym s.hand.client ∙ none;
  whole = sym s.written.broken ∙ all_whole e.has_failed e.client none s.written.told;
  going = sym s.heard.stops ∙ s.hand.going none;
}

-- ---- turns without a request in hand

pub stands_hears : (w : Company) (seed : List ℕ) (config : Config) (d : Daemon) (before : Outside) (e f : Engine) (daemon : Daemon) (o p : Outside) → Stands w seed config d before e daemon o → e.client ≡ None
    → HearsRequest seed config.settings e f o.left p.left → o.reads ≤ p.reads → p.held ≡ o.held → o.writes ≤ p.writes → p.trace ≡ o.trace → p.dialling ≡ o.dialling
    → Stands w seed config d before f daemon p
stands_hears w seed config d before e f daemon o p s none h reads held writes readings dialling =
    let s0 : Stand = stand_after seed config d s.moves in
    let t : Stand = moved seed config s0 (Hears h.request) in
    record {
      moves = Hears h.request ∷ s.moves;
      may = (record { listens = listens_by w seed config d before e daemon o s none; carried = h.frame.carried }, s.may);
      hand = record {
        same = s.hand.same;
        client = ap (λ (x : Engine). x.client) h.after;
        in_hand = subst (λ (x : Engine). IfSome x.client (IsInHand seed daemon)) (sym h.after) (record { salted = refl; known = begun_is_spoken daemon config.settings h.request });
        going = goes_with f (client_of seed config.settings h.request) (ap (λ (x : Engine). x.client) h.after);
        picked = behind_nothing f.client t.own (ap (λ (x : Engine). asks_at x.client) h.after ∙ asks_behind_pick.first seed config.settings h.request);
      };
      heard = heard_frame s0 e f seed config before o p s.heard h reads;
      written = written_on s0 t e f before o p refl refl s.written
          (record { held = held; same = ap (λ (x : Engine). x.has_failed) h.after ∙ sym (all_whole e.has_failed e.client none s.written.told); told = untold f.has_failed f.client (ap (λ (x : Engine). x.has_failed) h.after); writes = writes });
      trace = subst (TracesOn before.trace s0) (sym readings) s.trace;
      asked = asked_on s0 t before.dialling o.dialling p.dialling refl refl refl dialling s.asked;
      account = account_by daemon e f f.client t.own (ap (λ (x : Engine). x.leads) h.after) (ap (λ (x : Engine). x.ticket) h.after)
          (account_hears daemon e.leads e.ticket (client_of seed config.settings h.request) e.client f.client t.own none (ap (λ (x : Engine). x.client) h.after) (first_holds_nothing config.settings h.request) s.account);
    }

pub stands_takes : (w : Company) (seed : List ℕ) (config : Config) (d : Daemon) (before : Outside) (e f : Engine) (daemon : Daemon) (o p : Outside) → Stands w seed config d before e daemon o
    → HearsBytes e f o.left p.left → o.reads ≤ p.reads → p.held ≡ o.held → o.writes ≤ p.writes → p.trace ≡ o.trace → p.dialling ≡ o.dialling
    → Stands w seed config d before f daemon p
stands_takes w seed config d before e f daemon o p s h reads held writes readings dialling =
    let s0 : Stand = stand_after seed config d s.moves in
    record {
      moves = s.moves;
      may = s.may;
      hand = record {
        same = s.hand.same;
        client = ap (λ (x : Engine). x.client) h.after ∙ s.hand.client;
        in_hand = subst (λ (x : Engine). IfSome x.client (IsInHand seed daemon)) (sym h.after) s.hand.in_hand;
        going = subst (λ (x : Engine). x.client ≡ None → x.stops ≡ false) (sym h.after) s.hand.going;
        picked = subst (λ (x : Engine). IsBehindPick x.client s0.own) (sym h.after) s.hand.picked;
      };
      heard = heard_bytes s0 e f before o p s.heard h reads;
      written = written_on s0 s0 e f before o p refl refl s.written
          (record { held = held; same = ap (λ (x : Engine). x.has_failed) h.after; told = subst (λ (x : Engine). WasTold x.has_failed x.client) (sym h.after) s.written.told; writes = writes });
      trace = subst (TracesOn before.trace s0) (sym readings) s.trace;
      asked = asked_on s0 s0 before.dialling o.dialling p.dialling refl refl refl dialling s.asked;
      account = account_still daemon e f s0.own (ap (λ (x : Engine). x.leads) h.after) (ap (λ (x : Engine). x.ticket) h.after) (ap (λ (x : Engine). x.client) h.after) s.account;
    }

-- ---- turns with a request in hand

-- what stays outside of a turn that only serves
pub record Quiet (o p : Outside) : Type 0 where
  pub left : p.left ≡ o.left
  pub reads : p.reads ≡ o.reads
  pub trace : p.trace ≡ o.trace

pub in_hand_as : (seed : List ℕ) (daemon : Daemon) (e : Engine) (c : Client) → e.client ≡ Some c → IfSome e.client (IsInHand seed daemon) → IsInHand seed daemon c
in_hand_as seed daemon e c is hand = subst (λ (o : Option Client). IfSome o (IsInHand seed daemon)) is hand

same_heard : (e f : Engine) (o p : Outside) → f.inbox ≡ e.inbox → f.stops ≡ e.stops → Quiet o p → SameHeard e f o p
same_heard e f o p inbox stops quiet = record { inbox = inbox; stops = stops; left = quiet.left; reads = quiet.reads }

pub stands_named : (w : Company) (seed : List ℕ) (config : Config) (d : Daemon) (before : Outside) (e f : Engine) (daemon : Daemon) (o p : Outside) (c : Client) (about : Option ℕ) → Stands w seed config d before e daemon o → e.client ≡ Some c
    → f ≡ awaiting e c about → Quiet o p → p.held ≡ o.held → o.writes ≤ p.writes → p.dialling ≡ o.dialling → Stands w seed config d before f daemon p
stands_named w seed config d before e f daemon o p c about s is new quiet held writes dialling =
    let s0 : Stand = stand_after seed config d s.moves in
    record {
      moves = s.moves;
      may = s.may;
      hand = record {
        same = s.hand.same;
        client = ap (λ (x : Engine). x.client) new ∙ sym is ∙ s.hand.client;
        in_hand = subst (λ (x : Engine). IfSome x.client (IsInHand seed daemon)) (sym new) (in_hand_as seed daemon e c is s.hand.in_hand);
        going = goes_with f c (ap (λ (x : Engine). x.client) new);
        picked = subst (λ (x : Engine). IsBehindPick x.client s0.own) (sym new) (subst (λ (x : Option Client). IsBehindPick x s0.own) is s.hand.picked);
      };
      heard = heard_on s0 s0 e f before o p refl s.heard (same_heard e f o p (ap (λ (x : Engine). x.inbox) new) (ap (λ (x : Engine). x.stops) new) quiet);
      written = written_on s0 s0 e f before o p refl refl s.written
          (record { held = held; same = ap (λ (x : Engine). x.has_failed) new; told = subst (λ (x : Engine). WasTold x.has_failed x.client) (sym new) (told_at e c is s.written.told); writes = writes });
      trace = subst (TracesOn before.trace s0) (sym quiet.trace) s.trace;
      asked = asked_on s0 s0 before.dialling o.dialling p.dialling refl refl refl dialling s.asked;
      account = account_still daemon e f s0.own (ap (λ (x : Engine). x.leads) new) (ap (λ (x : Engine). x.ticket) new) (ap (λ (x : Engine). x.client) new ∙ sym is) s.account;
    }

pub stands_fetches : (w : Company) (seed : List ℕ) (config : Config) (d : Daemon) (before : Outside) (e f : Engine) (daemon : Daemon) (o p : Outside) (c : Client) (server : ℕ) (key : Key) → Stands w seed config d before e daemon o → e.client ≡ Some c
    → need_of c ≡ needs.Fetch server key → GoesByFetch config server key (done e) c f o.dialling p.dialling → Quiet o p → p.held ≡ o.held → o.writes ≤ p.writes → Stands w seed config d before f daemon p
stands_fetches w seed config d before e f daemon o p c server key s is needed g quiet held writes =
    let s0 : Stand = stand_after seed config d s.moves in
    let move : Move = Fetches g.fetched g.lookup.asked.operations g.lookup.asked.lines (has_risen o.dialling.faults p.dialling.faults) in
    let t : Stand = moved seed config s0 move in
    let hand : IsInHand seed daemon c = in_hand_as seed daemon e c is s.hand.in_hand in
    record {
      moves = move ∷ s.moves;
      may = (
        record {
          client = c;
          in_hand = sym s.hand.client ∙ is;
          server = server;
          key = key;
          needed = needed;
          picked = picked_at e c s0.own is s.hand.picked server (ap server_asked needed);
          memory = g.memory;
          asked = lookup_operations_on config key server g.fetched _ _ g.lookup.asked.operations g.lookup.asked.lines (risen o.dialling.faults p.dialling.faults) g.lookup.asked.are;
          fallen = λ fell. risen o.dialling.faults p.dialling.faults (g.lookup.fallen fell);
          told = λ b behind. g.lookup.told b (s.asked.behind server ∙ behind);
        },
        s.may,
      );
      hand = record {
        same = s.hand.same;
        client = ap (λ (x : Engine). x.client) g.after ∙ ap (option_map (λ (x : Client). client_fetched x g.fetched)) (sym is ∙ s.hand.client);
        in_hand = subst (λ (x : Engine). IfSome x.client (IsInHand seed daemon)) (sym g.after) (record { salted = hand.salted; known = fetched_known daemon c.course g.fetched hand.known });
        going = goes_with f (client_fetched c g.fetched) (ap (λ (x : Engine). x.client) g.after);
        picked = behind_nothing f.client t.own (ap (λ (x : Engine). asks_at x.client) g.after ∙ asks_behind_pick.fetched c g.fetched server key needed g.memory);
      };
      heard = heard_on s0 t e f before o p refl s.heard (same_heard e f o p (ap (λ (x : Engine). x.inbox) g.after) (ap (λ (x : Engine). x.stops) g.after) quiet);
      written = written_on s0 t e f before o p refl refl s.written
          (record { held = held; same = ap (λ (x : Engine). x.has_failed) g.after; told = subst (λ (x : Engine). WasTold x.has_failed x.client) (sym g.after) (told_on e.has_failed c (client_fetched c g.fetched) (told_fetched c.course g.fetched) (told_at e c is s.written.told)); writes = writes });
      trace = subst (TracesOn before.trace s0) (sym quiet.trace) s.trace;
      asked = record {
        operations = more_operations before.dialling.operations o.dialling.operations p.dialling.operations s0.operations g.lookup.asked.operations s.asked.operations g.lookup.asked.told;
        received = more_lines before.dialling.received o.dialling.received p.dialling.received s0.received g.lookup.asked.lines s.asked.received g.lookup.asked.received;
        behind = λ i. g.lookup.behind i ∙ s.asked.behind i;
        falls = falls_more before.dialling.faults s0.falls o.dialling.faults p.dialling.faults s.asked.falls g.lookup.later;
        later = fallen_later _ _ _ s.asked.later g.lookup.later;
      };
      account = account_by daemon e f f.client t.own (ap (λ (x : Engine). x.leads) g.after) (ap (λ (x : Engine). x.ticket) g.after)
          (account_same daemon e.leads e.ticket c (client_fetched c g.fetched) e.client f.client t.own is (ap (λ (x : Engine). x.client) g.after) (fetched_held c.course g.fetched) s.account);
    }

pub stands_binds : (w : Company) (seed : List ℕ) (config : Config) (d : Daemon) (before : Outside) (e f : Engine) (daemon : Daemon) (o p : Outside) (c : Client) (server : ℕ) (dn password : List ℕ) → Stands w seed config d before e daemon o → e.client ≡ Some c
    → need_of c ≡ needs.Bind server dn password → GoesByBind server dn password (done e) c f o.dialling p.dialling → Quiet o p → p.held ≡ o.held → o.writes ≤ p.writes → Stands w seed config d before f daemon p
stands_binds w seed config d before e f daemon o p c server dn password s is needed g quiet held writes =
    let s0 : Stand = stand_after seed config d s.moves in
    let move : Move = Binds g.bound g.bind.asked.operations g.bind.asked.lines (has_risen o.dialling.faults p.dialling.faults) in
    let t : Stand = moved seed config s0 move in
    let hand : IsInHand seed daemon c = in_hand_as seed daemon e c is s.hand.in_hand in
    record {
      moves = move ∷ s.moves;
      may = (
        record {
          client = c;
          in_hand = sym s.hand.client ∙ is;
          server = server;
          dn = dn;
          password = password;
          needed = needed;
          picked = picked_at e c s0.own is s.hand.picked server (ap server_asked needed);
          memory = g.memory;
          asked = bind_operations_on dn password server g.bound _ _ g.bind.asked.operations g.bind.asked.lines (risen o.dialling.faults p.dialling.faults) g.bind.asked.are;
          fallen = λ fell. risen o.dialling.faults p.dialling.faults (g.bind.fallen fell);
          told = λ b behind. g.bind.told b (s.asked.behind server ∙ behind);
        },
        s.may,
      );
      hand = record {
        same = s.hand.same;
        client = ap (λ (x : Engine). x.client) g.after ∙ ap (option_map (λ (x : Client). client_bound x g.bound)) (sym is ∙ s.hand.client);
        in_hand = subst (λ (x : Engine). IfSome x.client (IsInHand seed daemon)) (sym g.after) (record { salted = hand.salted; known = bound_known c.seed daemon c.course g.bound hand.known });
        going = goes_with f (client_bound c g.bound) (ap (λ (x : Engine). x.client) g.after);
        picked = behind_nothing f.client t.own (ap (λ (x : Engine). asks_at x.client) g.after ∙ asks_behind_pick.bound c g.bound server dn password needed g.memory);
      };
      heard = heard_on s0 t e f before o p refl s.heard (same_heard e f o p (ap (λ (x : Engine). x.inbox) g.after) (ap (λ (x : Engine). x.stops) g.after) quiet);
      written = written_on s0 t e f before o p refl refl s.written
          (record { held = held; same = ap (λ (x : Engine). x.has_failed) g.after; told = subst (λ (x : Engine). WasTold x.has_failed x.client) (sym g.after) (told_on e.has_failed c (client_bound c g.bound) (told_bound c.seed c.course g.bound) (told_at e c is s.written.told)); writes = writes });
      trace = subst (TracesOn before.trace s0) (sym quiet.trace) s.trace;
      asked = record {
        operations = more_operations before.dialling.operations o.dialling.operations p.dialling.operations s0.operations g.bind.asked.operations s.asked.operations g.bind.asked.told;
        received = more_lines before.dialling.received o.dialling.received p.dialling.received s0.received g.bind.asked.lines s.asked.received g.bind.asked.received;
        behind = λ i. g.bind.behind i ∙ s.asked.behind i;
        falls = falls_more before.dialling.faults s0.falls o.dialling.faults p.dialling.faults s.asked.falls g.bind.later;
        later = fallen_later _ _ _ s.asked.later g.bind.later;
      };
      account = account_by daemon e f f.client t.own (ap (λ (x : Engine). x.leads) g.after) (ap (λ (x : Engine). x.ticket) g.after)
          (account_same daemon e.leads e.ticket c (client_bound c g.bound) e.client f.client t.own is (ap (λ (x : Engine). x.client) g.after) (bound_held c.seed c.course g.bound) s.account);
    }

pub stands_tells : (w : Company) (seed : List ℕ) (config : Config) (d : Daemon) (before : Outside) (e f : Engine) (daemon : Daemon) (o p : Outside) (c : Client) (said : Said) → Stands w seed config d before e daemon o → e.client ≡ Some c
    → need_of c ≡ needs.Say said → IsTold config.pwfield said (done e) (client_told c) f o.held p.held → Quiet o p → o.writes ≤ p.writes → p.dialling ≡ o.dialling → Stands w seed config d before f daemon p
stands_tells w seed config d before e f daemon o p c said s is needed g quiet writes dialling =
    let s0 : Stand = stand_after seed config d s.moves in
    let move : Move = Tells said in
    let t : Stand = moved seed config s0 move in
    let hand : IsInHand seed daemon c = in_hand_as seed daemon e c is s.hand.in_hand in
    record {
      moves = move ∷ s.moves;
      may = (record { client = c; in_hand = sym s.hand.client ∙ is; needed = needed; whole = sym s.written.broken ∙ says_once e.has_failed c said needed (told_at e c is s.written.told) }, s.may);
      hand = record {
        same = s.hand.same;
        client = ap (λ (x : Engine). x.client) g.after ∙ ap (option_map client_told) (sym is ∙ s.hand.client);
        in_hand = subst (λ (x : Engine). IfSome x.client (IsInHand seed daemon)) (sym g.after) (record { salted = hand.salted; known = told_known daemon c.course hand.known });
        going = goes_with f (client_told c) (ap (λ (x : Engine). x.client) g.after);
        picked = behind_nothing f.client t.own (ap (λ (x : Engine). asks_at x.client) g.after ∙ asks_behind_pick.told c said needed);
      };
      heard = heard_on s0 t e f before o p refl s.heard (same_heard e f o p (ap (λ (x : Engine). x.inbox) g.after) (ap (λ (x : Engine). x.stops) g.after) quiet);
      written = record {
        written = Appends-trans _ _ _ _ _ s.written.written g.written;
        broken = ap (λ (x : Engine). x.has_failed) g.after ∙ s.written.broken;
        told = untold f.has_failed f.client (ap (λ (x : Engine). x.has_failed) g.after ∙ says_once e.has_failed c said needed (told_at e c is s.written.told));
        failed = λ b. let rose = s.written.failed b in omega (arith, rose, writes);
        writes = omega (arith, s.written.writes, writes);
      };
      trace = subst (TracesOn before.trace s0) (sym quiet.trace) s.trace;
      asked = asked_on s0 t before.dialling o.dialling p.dialling refl refl refl dialling s.asked;
      account = account_by daemon e f f.client t.own (ap (λ (x : Engine). x.leads) g.after) (ap (λ (x : Engine). x.ticket) g.after)
          (account_same daemon e.leads e.ticket c (client_told c) e.client f.client t.own is (ap (λ (x : Engine). x.client) g.after) (told_held c.course) s.account);
    }

pub stands_breaks : (w : Company) (seed : List ℕ) (config : Config) (d : Daemon) (before : Outside) (e f : Engine) (daemon : Daemon) (o p : Outside) (c : Client) (said : Said) → Stands w seed config d before e daemon o → e.client ≡ Some c
    → need_of c ≡ needs.Say said → IsUntold config.pwfield said (done e) (client_told c) f o.held p.held (Rose o.writes p.writes) → Quiet o p → o.writes ≤ p.writes → p.dialling ≡ o.dialling → Stands w seed config d before f daemon p
stands_breaks w seed config d before e f daemon o p c said s is needed g quiet writes dialling =
    let s0 : Stand = stand_after seed config d s.moves in
    let move : Move = Breaks said g.written.0 in
    let t : Stand = moved seed config s0 move in
    let hand : IsInHand seed daemon c = in_hand_as seed daemon e c is s.hand.in_hand in
    record {
      moves = move ∷ s.moves;
      may = (record { client = c; in_hand = sym s.hand.client ∙ is; needed = needed; whole = sym s.written.broken ∙ says_once e.has_failed c said needed (told_at e c is s.written.told) }, s.may);
      hand = record {
        same = s.hand.same;
        client = ap (λ (x : Engine). x.client) g.after ∙ ap (option_map client_told) (sym is ∙ s.hand.client);
        in_hand = subst (λ (x : Engine). IfSome x.client (IsInHand seed daemon)) (sym g.after) (record { salted = hand.salted; known = told_known daemon c.course hand.known });
        going = goes_with f (client_told c) (ap (λ (x : Engine). x.client) g.after);
        picked = behind_nothing f.client t.own (ap (λ (x : Engine). asks_at x.client) g.after ∙ asks_behind_pick.told c said needed);
      };
      heard = heard_on s0 t e f before o p refl s.heard (same_heard e f o p (ap (λ (x : Engine). x.inbox) g.after) (ap (λ (x : Engine). x.stops) g.after) quiet);
      written = record {
        written = Appends-trans _ _ _ _ _ s.written.written g.written.2;
        broken = ap (λ (x : Engine). x.has_failed) g.after;
        told = subst (λ (x : Engine). WasTold x.has_failed x.client) (sym g.after) (told_once c.seed c.course said needed);
        failed = λ b. omega (arith, g.fault, s.written.writes);
        writes = omega (arith, s.written.writes, writes);
      };
      trace = subst (TracesOn before.trace s0) (sym quiet.trace) s.trace;
      asked = asked_on s0 t before.dialling o.dialling p.dialling refl refl refl dialling s.asked;
      account = account_by daemon e f f.client t.own (ap (λ (x : Engine). x.leads) g.after) (ap (λ (x : Engine). x.ticket) g.after)
          (account_same daemon e.leads e.ticket c (client_told c) e.client f.client t.own is (ap (λ (x : Engine). x.client) g.after) (told_held c.course) s.account);
    }

pub stands_finishes : (w : Company) (seed : List ℕ) (config : Config) (d : Daemon) (before : Outside) (e f : Engine) (daemon : Daemon) (o p : Outside) (c : Client) → Stands w seed config d before e daemon o → e.client ≡ Some c
    → need_of c ≡ needs.End → e.stops ≡ false → e.has_failed ≡ false → f ≡ done e → Quiet o p → p.held ≡ o.held → o.writes ≤ p.writes → p.dialling ≡ o.dialling → Stands w seed config d before f daemon p
stands_finishes w seed config d before e f daemon o p c s is needed going fine new quiet held writes dialling =
    let s0 : Stand = stand_after seed config d s.moves in
    let t : Stand = moved seed config s0 Finishes in
    record {
      moves = Finishes ∷ s.moves;
      may = (record { client = c; in_hand = sym s.hand.client ∙ is; needed = needed }, s.may);
      hand = record {
        same = s.hand.same;
        client = ap (λ (x : Engine). x.client) new;
        in_hand = subst (λ (x : Engine). IfSome x.client (IsInHand seed daemon)) (sym new) tt;
        going = λ none. ap (λ (x : Engine). x.stops) new ∙ going;
        picked = behind_nothing f.client t.own (ap (λ (x : Engine). asks_at x.client) new);
      };
      heard = heard_on s0 t e f before o p refl s.heard (same_heard e f o p (ap (λ (x : Engine). x.inbox) new) (ap (λ (x : Engine). x.stops) new) quiet);
      written = written_on s0 t e f before o p refl refl s.written
          (record { held = held; same = ap (λ (x : Engine). x.has_failed) new; told = untold f.has_failed f.client (ap (λ (x : Engine). x.has_failed) new ∙ fine); writes = writes });
      trace = subst (TracesOn before.trace s0) (sym quiet.trace) s.trace;
      asked = asked_on s0 t before.dialling o.dialling p.dialling refl refl refl dialling s.asked;
      account = account_by daemon e f f.client t.own (ap (λ (x : Engine). x.leads) new) (ap (λ (x : Engine). x.ticket) new)
          (account_over daemon e.leads e.ticket c e.client f.client t.own is (ap (λ (x : Engine). x.client) new) (over_holds_nothing c.seed c.course needed) s.account);
    }

-- ---- steps

entries_more : (before between now own : List Entry) (e : Entry) → between ≡ before ++ own → now ≡ between ++ e ∷ [] → now ≡ before ++ (own ++ e ∷ [])
entries_more before between now own e first more = more ∙ ap (λ (list : List Entry). list ++ e ∷ []) first ∙ append_assoc before own (e ∷ [])

given_by_made : (d : Daemon) (now : ℕ) (event : Event) (c : Client) (gave : Given) (h k : Option Client) → gave ≡ given d now event → h ≡ k → h ≡ Some c
    → Some (client_replied c gave) ≡ option_map (λ (x : Client). client_replied x (given d now event)) k
given_by_made d now event c gave h k is hand some =
    ap (λ (g : Given). Some (client_replied c g)) is
    ∙ ap (option_map (λ (x : Client). client_replied x (given d now event))) (sym some ∙ hand)

-- the moves up to a step that was made
pub may_step_on : (w : Company) (seed : List ℕ) (config : Config) (d : Daemon) (before : Outside) (e : Engine) (daemon daemon' : Daemon) (o : Outside) (later : Trace) (c : Client) (event : Event) (gave : Given) → (s : Stands w seed config d before e daemon o) → e.client ≡ Some c
    → event_of (need_of c) ≡ Some event → (m : IsMade w daemon event gave daemon' o.trace later) → is_steppable m.found.past event ≡ true → AllMay w seed config before.dialling.behind d (Steps m.now event ∷ Finds m.found ∷ s.moves)
may_step_on w seed config d before e daemon daemon' o later c event gave s is needed m may = (
  record { client = c; in_hand = sym s.hand.client ∙ is; needed = needed; steppable = may; room = m.room; ready = m.ready },
  (subst (λ (x : Daemon). w.others x m.found) s.hand.same m.others, s.may),
)

pub traces_step : (w : Company) (before o p : Trace) (s : Stand) (daemon daemon' : Daemon) (event : Event) (gave : Given) → TracesOn before s o → (m : IsMade w daemon event gave daemon' o p)
    → ReadsOn before.readings (s.moments ++ m.now ∷ []) p.readings × (p.entries ≡ before.entries ++ (s.own ++ entry_made m.found m.now event ∷ []))
traces_step w before o p s daemon daemon' event gave traces m = (
  reads_more before.readings o.readings p.readings s.moments m.now traces.0 m.read,
  entries_more before.entries o.entries p.entries s.own (entry_made m.found m.now event) traces.1 m.entries,
)

same_outside : (e f : Engine) (o p : Outside) → f.inbox ≡ e.inbox → f.stops ≡ e.stops → p ≡ record o { trace = p.trace } → SameHeard e f o p
same_outside e f o p inbox stops same = record { inbox = inbox; stops = stops; left = ap (λ (x : Outside). x.left) same; reads = ap (λ (x : Outside). x.reads) same }

unwritten : (e f : Engine) (o p : Outside) → f.has_failed ≡ e.has_failed → WasTold f.has_failed f.client → p ≡ record o { trace = p.trace } → SameWritten e f o p
unwritten e f o p fails told same = record { held = ap (λ (x : Outside). x.held) same; same = fails; told = told; writes = subst (λ (x : Outside). o.writes ≤ x.writes) (sym same) (omega arith) }

-- what is led and gone on with after a step, by what the reply says
pub led_by_step : (d daemon' : Daemon) (now : ℕ) (event : Event) (e f : Engine) (gave : Given) (client : Option Client) (own : List Entry) → daemon' ≡ after d now event → gave ≡ given d now event → e.about ≡ about event
    → f.leads ≡ leads_after e.leads e.about gave.reply → f.ticket ≡ ticket_after e.ticket gave.reply
    → Accounts (after d now event) (leads_after e.leads (about event) (entry_made d now event).reply) (ticket_after e.ticket (entry_made d now event).reply) client own → Accounts daemon' f.leads f.ticket client own
led_by_step d daemon' now event e f gave client own made gives about_it leads ticket a =
    subst (λ (x : Daemon). Accounts x f.leads f.ticket client own) (sym made)
    (subst (λ (ms : List ℕ). Accounts (after d now event) ms f.ticket client own)
    (sym (leads ∙ (ap (λ (g : Given). leads_after e.leads e.about g.reply) gives ∙ ap (λ (o : Option ℕ). leads_after e.leads o (entry_made d now event).reply) about_it)))
    (subst (λ (t : Option ℕ). Accounts (after d now event) (leads_after e.leads (about event) (entry_made d now event).reply) t client own)
    (sym (ticket ∙ ap (λ (g : Given). ticket_after e.ticket g.reply) gives)) a))

-- the same over the journal that was found
pub step_account : (w : Company) (daemon daemon' : Daemon) (e : Engine) (before later : Trace) (c : Client) (event : Event) (gave : Given) (own : List Entry) → e.client ≡ Some c → event_of (need_of c) ≡ Some event
    → (m : IsMade w daemon event gave daemon' before later) → Reaches daemon m.found → is_steppable m.found.past event ≡ true → holds_order c.course ≡ true → Accounts daemon e.leads e.ticket e.client own
    → Accounts (after m.found m.now event) (leads_after e.leads (about event) (entry_made m.found m.now event).reply) (ticket_after e.ticket (entry_made m.found m.now event).reply) (Some (client_replied c (given m.found m.now event)))
    (own ++ entry_made m.found m.now event ∷ [])
step_account w daemon daemon' e before later c event gave own is needed m to may order a =
    account_steps m.found m.now event c e.leads e.ticket own may m.kept.orderly needed order
    (subst (λ (x : Option Client). Accounts m.found e.leads e.ticket x own) is (account_reached daemon m.found e.leads e.ticket e.client own to a))

accounted : (w : Company) (seed : List ℕ) (daemon daemon' : Daemon) (e f : Engine) (before later : Trace) (c : Client) (event : Event) (gave : Given) (own : List Entry) → e.client ≡ Some c → event_of (need_of c) ≡ Some event → e.about ≡ about event
    → (m : IsMade w daemon event gave daemon' before later) → Reaches daemon m.found → is_steppable m.found.past event ≡ true → holds_order c.course ≡ true → Accounts daemon e.leads e.ticket e.client own
    → f.leads ≡ leads_after e.leads e.about gave.reply → f.ticket ≡ ticket_after e.ticket gave.reply → f.client ≡ Some (client_replied c gave) → Accounts daemon' f.leads f.ticket f.client (own ++ entry_made m.found m.now event ∷ [])
accounted w seed daemon daemon' e f before later c event gave own is needed about_it m to may order a leads ticket client =
    subst (λ (x : Option Client). Accounts daemon' f.leads f.ticket x (own ++ entry_made m.found m.now event ∷ [])) (sym (client ∙ ap (λ (g : Given). Some (client_replied c g)) m.gives))
    (led_by_step m.found daemon' m.now event e f gave (Some (client_replied c (given m.found m.now event))) (own ++ entry_made m.found m.now event ∷ []) m.made m.gives about_it leads ticket
    (step_account w daemon daemon' e before later c event gave own is needed m to may order a))

pub stands_steps : (w : Company) (seed : List ℕ) (config : Config) (d : Daemon) (before : Outside) (e f : Engine) (daemon daemon' : Daemon) (o p : Outside) (c : Client) (event : Event) (gave : Given) → Stands w seed config d before e daemon o → e.client ≡ Some c
    → event_of (need_of c) ≡ Some event → e.about ≡ about event → (m : IsMade w daemon event gave daemon' o.trace p.trace) → Reaches daemon m.found → is_steppable m.found.past event ≡ true → IsSpoken daemon' (client_replied c gave).course → f ≡ replied e c gave
    → p ≡ record o { trace = p.trace } → Stands w seed config d before f daemon' p
stands_steps w seed config d before e f daemon daemon' o p c event gave s is needed about_it m to may known new same =
    let s0 : Stand = stand_after seed config d s.moves in
    let t : Stand = moved seed config (moved seed config s0 (Finds m.found)) (Steps m.now event) in
    let hand : IsInHand seed daemon c = in_hand_as seed daemon e c is s.hand.in_hand in
    record {
      moves = Steps m.now event ∷ Finds m.found ∷ s.moves;
      may = may_step_on w seed config d before e daemon daemon' o p.trace c event gave s is needed m may;
      hand = record {
        same = m.made;
        client = ap (λ (x : Engine). x.client) new ∙ given_by_made m.found m.now event c gave e.client s0.client m.gives s.hand.client is;
        in_hand = subst (λ (x : Engine). IfSome x.client (IsInHand seed daemon')) (sym new) (record { salted = hand.salted; known = known });
        going = goes_with f (client_replied c gave) (ap (λ (x : Engine). x.client) new);
        picked = subst (λ (x : Engine). IsBehindPick x.client t.own) (sym new) (behind_step c event gave s0.own (entry_made m.found m.now event) needed refl (ap (λ (x : Given). x.reply) (sym m.gives)));
      };
      heard = heard_on s0 t e f before o p refl s.heard (same_outside e f o p (ap (λ (x : Engine). x.inbox) new) (ap (λ (x : Engine). x.stops) new) same);
      written = written_on s0 t e f before o p refl refl s.written
          (unwritten e f o p (ap (λ (x : Engine). x.has_failed) new) (subst (λ (x : Engine). WasTold x.has_failed x.client) (sym new) (told_on e.has_failed c (client_replied c gave) (told_replied c.seed c.course gave) (told_at e c is s.written.told))) same);
      trace = traces_step w before.trace o.trace p.trace s0 daemon daemon' event gave s.trace m;
      asked = asked_on s0 t before.dialling o.dialling p.dialling refl refl refl (ap (λ (x : Outside). x.dialling) same) s.asked;
      account = accounted w seed daemon daemon' e f o.trace p.trace c event gave s0.own is needed about_it m to may hand.known.order s.account
          (ap (λ (x : Engine). x.leads) new) (ap (λ (x : Engine). x.ticket) new) (ap (λ (x : Engine). x.client) new);
    }

knows_now : (seed : List ℕ) (daemon daemon' : Daemon) (x : Option Client) → IfSome x (IsInHand seed daemon) → ((c : Client) → x ≡ Some c → IsSpoken daemon' c.course) → IfSome x (IsInHand seed daemon')
knows_now seed daemon daemon' None h knows = tt
knows_now seed daemon daemon' (Some c) h knows = record { salted = h.salted; known = knows c refl }

-- a step that is not made yet: the clock was read, over the daemon that was found
pub stands_waits : (w : Company) (seed : List ℕ) (config : Config) (d : Daemon) (before : Outside) (e : Engine) (daemon daemon' : Daemon) (o p : Outside) (event : Event) → Stands w seed config d before e daemon o
    → (r : IsWaited w daemon daemon' o.trace p.trace) → Reaches daemon daemon' → ((c : Client) → e.client ≡ Some c → IsSpoken daemon' c.course) → p ≡ record o { trace = p.trace } → Stands w seed config d before e daemon' p
stands_waits w seed config d before e daemon daemon' o p event s r to known same =
    let s0 : Stand = stand_after seed config d s.moves in
    let t : Stand = moved seed config (moved seed config s0 (Finds daemon')) (Refuses r.now) in
    record {
      moves = Refuses r.now ∷ Finds daemon' ∷ s.moves;
      may = (tt, (subst (λ (x : Daemon). w.others x daemon') s.hand.same r.others, s.may));
      hand = record { same = refl; client = s.hand.client; in_hand = knows_now seed daemon daemon' e.client s.hand.in_hand known; going = s.hand.going; picked = s.hand.picked };
      heard = heard_on s0 t e e before o p refl s.heard (same_outside e e o p refl refl same);
      written = written_on s0 t e e before o p refl refl s.written (unwritten e e o p refl s.written.told same);
      trace = (
        reads_more before.trace.readings o.trace.readings p.trace.readings s0.moments r.now s.trace.0 r.read,
        r.entries ∙ s.trace.1,
      );
      asked = asked_on s0 t before.dialling o.dialling p.dialling refl refl refl (ap (λ (x : Outside). x.dialling) same) s.asked;
      account = account_reached daemon daemon' e.leads e.ticket e.client s0.own to s.account;
    }

-- the daemon is found as others left it
pub stands_finds : (w : Company) (seed : List ℕ) (config : Config) (d : Daemon) (before : Outside) (e : Engine) (daemon daemon' : Daemon) (o p : Outside) → Stands w seed config d before e daemon o
    → w.others daemon daemon' → Reaches daemon daemon' → ((c : Client) → e.client ≡ Some c → IsSpoken daemon' c.course) → p ≡ o → Stands w seed config d before e daemon' p
stands_finds w seed config d before e daemon daemon' o p s others to known same =
    let s0 : Stand = stand_after seed config d s.moves in
    let t : Stand = moved seed config s0 (Finds daemon') in
    subst (λ (x : Outside). Stands w seed config d before e daemon' x) (sym same)
    (record {
      moves = Finds daemon' ∷ s.moves;
      may = (subst (λ (x : Daemon). w.others x daemon') s.hand.same others, s.may);
      hand = record { same = refl; client = s.hand.client; in_hand = knows_now seed daemon daemon' e.client s.hand.in_hand known; going = s.hand.going; picked = s.hand.picked };
      heard = heard_on s0 t e e before o o refl s.heard (record { inbox = refl; stops = refl; left = refl; reads = refl });
      written = written_on s0 t e e before o o refl refl s.written (record { held = refl; same = refl; told = s.written.told; writes = omega arith });
      trace = s.trace;
      asked = asked_on s0 t before.dialling o.dialling o.dialling refl refl refl refl s.asked;
      account = account_reached daemon daemon' e.leads e.ticket e.client s0.own to s.account;
    })
