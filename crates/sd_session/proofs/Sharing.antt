-- Steps at a desk, as moves of a session.
use Rattle.std.proofs.Common.{◌≡◌, ◌∙◌, ℕ, Bool, true, false, cond, ◌&&◌, List, [], ◌∷◌, Option, Some, None, Result, Ok, Err, refl, sym, ap, subst}
use Rattle.std.specs.Prelude.{IfOk, IfErr}
use Rattle.sd_rules.specs.declared.events.Event.{Event}
use Rattle.sd_rules.specs.declared.events.Event.TheVariants as events
use Rattle.sd_rules.specs.declared.records.Answered.TheVariants.{Found, Absent}
use Rattle.sd_rules.specs.declared.replies.Entry.{Entry}
use Rattle.sd_rules.specs.declared.replies.Given.{Given}
use Rattle.sd_rules.specs.declared.replies.Refused.{Refused}
use Rattle.sd_rules.specs.declared.replies.StepFault.{StepFault}
use Rattle.sd_rules.specs.declared.replies.StepFault.TheVariants as faults
use Rattle.sd_rules.specs.Reaching as reaching
use Rattle.sd_rules.specs.Reaching.{Reaches, after_forget}
use Rattle.sd_rules.specs.Requests.{waits_for}
use Rattle.sd_rules.specs.Steps.{Daemon, after, is_steppable}
use Rattle.sd_rules.proofs.ReachingLaws.{reaches_self, reaches_through}
use Rattle.sd_conf.specs.declared.config.Config.{Config}
use Rattle.sd_clock.specs.Readings.{FollowsOn}
use Rattle.sd_dial.specs.Entries.{Behind}
use Rattle.sd_desk.specs.declared.seat.DeskSeat.{DeskSeat}
use Rattle.sd_desk.specs.Desks.{IsSameSeat}
use Rattle.sd_desk.specs.Steps.{MayStep, MadeOver, MadeEntry, Collected, WasFull, FullAfterForget}
use Rattle.sd_desk.proofs.Reached.{speaks_reached}
use Rattle.sd_engine.specs.declared.ending.SessionEnd.{SessionEnd}
use Rattle.sd_engine.specs.declared.ending.SessionEnd.TheVariants as ends
use Rattle.sd_engine.specs.Engines.{Engine}
use Rattle.sd_session.specs.Desks.{at_desk, IsReady, MayCollect}
use Rattle.sd_engine.specs.Turns.{Dialling}
use Rattle.sd_session.specs.Running.{Outside, outside_at}
use Rattle.sd_session.specs.Sessions.{Company, Trace, Move, Finds, Hears, Steps, Refuses, Fetches, Binds, Tells, Breaks, Finishes, Stand, AllMay, stand_after}
use Rattle.sd_session.specs.Stepping.{IsMade, RefusedAs, end_of}
use Rattle.sd_session.specs.Withdrawing.{Try, after_tries, gives_up, giving_up, AllGiveUp, Withdraws, MayWithdraw, Session, is_abrupt}
use Rattle.sd_session.proofs.HoldingLaws.{untrue}
use Rattle.sd_session.proofs.ShutLaws.{left_reached}
use Rattle.sd_session.proofs.Carrying.{Far, Forgot as ForgotBefore}

pub far_at_desk : Far at_desk
far_at_desk d e to = to

-- a ticket that waits no more is ready in each journal that is reached
pub ready_on : (old found : Daemon) (event : Event) → Reaches old found → MayCollect old event → IsReady found event
ready_on old found (events.Collect ticket) to left = λ request pending. waits_not (waits_for found.past ticket) request (left_reached ticket old found to left).left pending.waits
  where
    waits_not : (o : Option ℕ) (request : ℕ) → o ≡ None → o ≡ Some request → ⊥
    waits_not o request e f = cc
ready_on old found _ to left = tt

-- who gives up collects nothing
pub gives_no_collect : (d : Daemon) (event : Event) → gives_up event ≡ true → MayCollect d event
gives_no_collect d (events.Collect ticket) h = untrue h
gives_no_collect d _ h = tt

pub made_at_desk : (old new : Daemon) (mine mine' : List Entry) (now : ℕ) (event : Event) (gave : Given) (readings readings' : Option (List ℕ)) → (m : MadeEntry old new mine mine' now event gave) → FollowsOn readings now readings' → IsReady m.before event
    → IsMade at_desk old event gave new (record { readings = readings; entries = mine }) (record { readings = readings'; entries = mine' })
made_at_desk old new mine mine' now event gave readings readings' m read ready = record {
  found = m.before;
  others = m.reached;
  now = now;
  read = read;
  made = m.made.front;
  gives = m.made.gives;
  fits = m.made.laws.of_kind;
  kept = m.made.kept;
  room = m.made.room;
  ready = ready;
  entries = m.made.mine;
}

pub collected_at_desk : (old new : Daemon) (mine mine' : List Entry) (now ticket : ℕ) (gave : Given) (readings readings' : Option (List ℕ)) → Collected old new mine mine' now ticket gave → FollowsOn readings now readings'
    → IsMade at_desk old (events.Collect ticket) gave new (record { readings = readings; entries = mine }) (record { readings = readings'; entries = mine' })
collected_at_desk old new mine mine' now ticket gave readings readings' m read =
    made_at_desk old new mine mine' now (events.Collect ticket) gave readings readings' (record { before = m.before; reached = m.reached; made = m.made }) read m.ready

pub full_by : (old new : Daemon) (event : Event) (fault : StepFault) → ((n : ℕ) → fault ≡ faults.JournalFull n → FullAfterForget old new event n)
    → (n : ℕ) → end_of fault ≡ ends.JournalFull n → FullAfterForget old new event n
full_by old new event (faults.JournalFull m) full n is = full n (same_places m n is)
  where
    same_places : (m n : ℕ) → ends.JournalFull m ≡ ends.JournalFull n → faults.JournalFull m ≡ faults.JournalFull n
    same_places m n e = cc
full_by old new event faults.Memory full n is = let clash : ⊥ = cc in absurd clash

pub refused_by : (old new : Daemon) (event : Event) (fault : StepFault) → ((n : ℕ) → fault ≡ faults.JournalFull n → FullAfterForget old new event n) → RefusedAs new event (end_of fault)
refused_by old new event (faults.JournalFull n) full = let was : WasFull new event n = (full n refl).full in (was.full, was.places)
refused_by old new event faults.Memory full = tt

pub full_from : (first old new : Daemon) (event : Event) (n : ℕ) → Reaches first old → FullAfterForget old new event n → FullAfterForget first new event n
full_from first old new event n to f = record { before = f.before; reached = reaches_through first old f.before to f.reached; forgot = f.forgot; full = f.full }

-- ---- what is known of a journal is known of a later one

pub may_later : (f g : Daemon) (event : Event) → Reaches f g → MayStep f event → MayStep g event
may_later f g (events.Kept row) to may = may
may_later f g (events.Answer r (Found found)) to may = record { key = may.key; speaks = speaks_reached r may.key f g may.speaks to; of_kind = may.of_kind }
may_later f g (events.Answer r Absent) to may = tt
may_later f g _ to may = tt

pub later_made : (old mid new : Daemon) (first second third : List Entry) (now : ℕ) (event event' : Event) (r : Result Given Refused) → Reaches old mid → second ≡ first → event' ≡ event
    → IfOk r (λ (gave : Given). MadeEntry mid new second third now event' gave) → IfOk r (λ (gave : Given). MadeEntry old new first third now event gave)
later_made old mid new first second third now event event' (Ok gave) to mine same m =
    subst (λ (x : Event). MadeEntry old new first third now x gave) same
    (record { before = m.before; reached = reaches_through old mid m.before to m.reached; made = subst (λ (es : List Entry). MadeOver m.before new es third now event' gave) mine m.made })
later_made old mid new first second third now event event' (Err refused) to mine same m = tt

pub later_full : (old mid new : Daemon) (event event' : Event) (r : Result Given Refused) → Reaches old mid → event' ≡ event
    → IfErr r (λ (refused : Refused). (n : ℕ) → refused.fault ≡ faults.JournalFull n → FullAfterForget mid new event' n)
    → IfErr r (λ (refused : Refused). (n : ℕ) → refused.fault ≡ faults.JournalFull n → FullAfterForget old new event n)
later_full old mid new event event' (Ok gave) to same full = tt
later_full old mid new event event' (Err refused) to same full = λ n is. subst (λ (x : Event). FullAfterForget old new x n) same (full_from old mid new event' n to (full n is))

pub same_through : (a b c : DeskSeat) → IsSameSeat a b → IsSameSeat b c → IsSameSeat a c
same_through a b c f g = (g.0 ∙ f.0, g.1 ∙ f.1, g.2 ∙ f.2)

-- the same but for entries that are the same
pub same_told : (left held readings : Option (List ℕ)) (reads writes : ℕ) (dialling : Dialling) (entries entries' : List Entry) → entries' ≡ entries
    → outside_at left held (record { readings = readings; entries = entries' }) reads writes dialling ≡ outside_at left held (record { readings = readings; entries = entries }) reads writes dialling
same_told left held readings reads writes dialling entries entries' same = ap (λ (es : List Entry). outside_at left held (record { readings = readings; entries = es }) reads writes dialling) same

pub session_as : (seed seed' : List ℕ) (config config' : Config) (d : Daemon) (before : Outside) (ending : SessionEnd) (daemon : Daemon) (now : Outside) → seed ≡ seed' → config ≡ config'
    → Session at_desk seed config d before ending daemon now → Session at_desk seed' config' d before ending daemon now
session_as seed seed' config config' d before ending daemon now salts configured s =
    subst (λ (x : List ℕ). Session at_desk x config' d before ending daemon now) salts (subst (λ (x : Config). Session at_desk seed x d before ending daemon now) configured s)

-- ---- what moves reach

one_step : (d : Daemon) (now : ℕ) (event : Event) → is_steppable d.past event ≡ true → Reaches d (after d now event)
one_step d now event may = record { moves = reaching.Append now event ∷ []; can = both (is_steppable d.past event) may; reached = refl }
  where
    both : (a : Bool) → a ≡ true → a && true ≡ true
    both true h = refl
    both false h = h

pub reach_moves : (seed : List ℕ) (config : Config) (behind : ℕ → Option Behind) (d : Daemon) (moves : List Move) → AllMay at_desk seed config behind d moves → Reaches d (stand_after seed config d moves).daemon
reach_moves seed config behind d [] may = reaches_self d
reach_moves seed config behind d (Finds found ∷ moves) may = reaches_through d (stand_after seed config d moves).daemon found (reach_moves seed config behind d moves may.1) may.0
reach_moves seed config behind d (Steps now event ∷ moves) may =
    let s : Stand = stand_after seed config d moves in
    reaches_through d s.daemon (after s.daemon now event) (reach_moves seed config behind d moves may.1) (one_step s.daemon now event may.0.steppable)
reach_moves seed config behind d (Hears request ∷ moves) may = reach_moves seed config behind d moves may.1
reach_moves seed config behind d (Refuses now ∷ moves) may = reach_moves seed config behind d moves may.1
reach_moves seed config behind d (Fetches fetched operations lines fell ∷ moves) may = reach_moves seed config behind d moves may.1
reach_moves seed config behind d (Binds bound operations lines fell ∷ moves) may = reach_moves seed config behind d moves may.1
reach_moves seed config behind d (Tells said ∷ moves) may = reach_moves seed config behind d moves may.1
reach_moves seed config behind d (Breaks said count ∷ moves) may = reach_moves seed config behind d moves may.1
reach_moves seed config behind d (Finishes ∷ moves) may = reach_moves seed config behind d moves may.1

-- the journal that the last own step ended reaches the one where the session stands
pub own_reaches : (seed : List ℕ) (config : Config) (behind : ℕ → Option Behind) (d : Daemon) (moves : List Move) → AllMay at_desk seed config behind d moves → Reaches (stand_after seed config d moves).own_end (stand_after seed config d moves).daemon
own_reaches seed config behind d [] may = reaches_self d
own_reaches seed config behind d (Finds found ∷ moves) may =
    let s : Stand = stand_after seed config d moves in reaches_through s.own_end s.daemon found (own_reaches seed config behind d moves may.1) may.0
own_reaches seed config behind d (Steps now event ∷ moves) may = reaches_self _
own_reaches seed config behind d (Hears request ∷ moves) may = own_reaches seed config behind d moves may.1
own_reaches seed config behind d (Refuses now ∷ moves) may = own_reaches seed config behind d moves may.1
own_reaches seed config behind d (Fetches fetched operations lines fell ∷ moves) may = own_reaches seed config behind d moves may.1
own_reaches seed config behind d (Binds bound operations lines fell ∷ moves) may = own_reaches seed config behind d moves may.1
own_reaches seed config behind d (Tells said ∷ moves) may = own_reaches seed config behind d moves may.1
own_reaches seed config behind d (Breaks said count ∷ moves) may = own_reaches seed config behind d moves may.1
own_reaches seed config behind d (Finishes ∷ moves) may = own_reaches seed config behind d moves may.1

pub forgot_before : (seed : List ℕ) (config : Config) (ending : SessionEnd) (e : Engine) (daemon daemon' : Daemon) (o : Outside) (event : Event) (now : ℕ) → ((n : ℕ) → ending ≡ ends.JournalFull n → FullAfterForget daemon daemon' event n)
    → ForgotBefore at_desk seed config ending e daemon o daemon' event now
forgot_before seed config ending e daemon daemon' o event now full = λ d before s count is.
    full_from (stand_after seed config d s.moves).own_end daemon daemon' event count
    (subst (Reaches (stand_after seed config d s.moves).own_end) (sym s.hand.same) (own_reaches seed config before.dialling.behind d s.moves s.may)) (full count is)

may_give_up : (d : Daemon) (event : Event) → gives_up event ≡ true → is_steppable d.past event ≡ true
may_give_up d (events.Abandon n) h = refl
may_give_up d (events.Leave n) h = refl
may_give_up d (events.Ask k) h = refl
may_give_up d (events.Pick n) h = refl
may_give_up d (events.Fall n server why) h = refl
may_give_up d (events.Answer n answered) h = let clash : ⊥ = cc in absurd clash
may_give_up d (events.Refuse n refusal) h = refl
may_give_up d (events.Outage n) h = refl
may_give_up d (events.Collect n) h = refl
may_give_up d (events.Void what) h = refl
may_give_up d events.Offline h = refl
may_give_up d events.Online h = refl
may_give_up d events.Stop h = refl
may_give_up d (events.LoginOpen user) h = refl
may_give_up d (events.LoginOnline n result) h = refl
may_give_up d (events.LoginLook user) h = refl
may_give_up d (events.LoginGuess user n right) h = refl
may_give_up d (events.LoginTry a n right) h = refl
may_give_up d (events.Access user service) h = refl
may_give_up d (events.Kept row) h = let clash : ⊥ = cc in absurd clash

either : (b : Bool) (d f e : Daemon) → Reaches d f → Reaches d e → Reaches d (cond b f e)
either true d f e to other = to
either false d f e to other = other

reach_tries : (w : Company) → Far w → (d : Daemon) (tries : List Try) → AllGiveUp w d tries → Reaches d (after_tries d tries)
reach_tries w far d [] all = reaches_self d
reach_tries w far d (t ∷ tries) all =
    let to : Reaches d t.found = reaches_through d (after_tries d tries) t.found (reach_tries w far d tries all.2) (far (after_tries d tries) t.found all.1) in
    either t.is_made d (after t.found t.now t.event) t.found (reaches_through d t.found (after t.found t.now t.event) to (one_step t.found t.now t.event (may_give_up t.found t.event all.0))) to

-- what is given up leads to a journal that is reached
pub withdraws_reach : (w : Company) → Far w → (events : List Event) (d daemon : Daemon) (before now : Trace) → Withdraws w events d daemon before now → Reaches d daemon
withdraws_reach w far events d daemon before now s = subst (Reaches d) (sym s.given_up) (reach_tries w far d s.tries s.give_up)

reach_leaving : (abrupt : Bool) (own : List Entry) (d daemon : Daemon) (before now : Trace) → MayWithdraw at_desk abrupt own d daemon before now → Reaches d daemon
reach_leaving true own d daemon before now w = withdraws_reach at_desk far_at_desk (giving_up w.leads w.ticket) d daemon before now w.withdraws
reach_leaving false own d daemon before now w = subst (Reaches d) (sym w.0) (reaches_self d)

pub session_reaches : (seed : List ℕ) (config : Config) (d : Daemon) (before : Outside) (ending : SessionEnd) (daemon : Daemon) (now : Outside) → Session at_desk seed config d before ending daemon now → Reaches d daemon
session_reaches seed config d before ending daemon now s =
    reaches_through d s.between daemon (subst (Reaches d) (sym s.ran.stepped) (reach_moves seed config before.dialling.behind d s.ran.moves s.ran.may)) (reach_leaving (is_abrupt ending) (stand_after seed config d s.ran.moves).own s.between daemon s.trace now.trace s.withdraws)
