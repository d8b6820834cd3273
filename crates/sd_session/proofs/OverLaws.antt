-- An Abandon and a Leave that were tried: what they give up is open no more, also where they were refused.
use Rattle.std.proofs.Common.{◌≡◌, ◌⊎◌, ℕ, Bool, true, false, ◌==◌, cond, List, [], ◌∷◌, Option, Some, None, Result, Ok, Err, refl, sym, subst, inl, inr, ◌+◌, ◌<◌, suc, length, get_or, drop, drop-cons, add-one}
use Rattle.std.specs.Prelude.{IfOk, OnErr, is_some}
use Rattle.sd_rules.specs.declared.events.Event.{Event}
use Rattle.sd_rules.specs.declared.events.Event.TheVariants as events
use Rattle.sd_rules.specs.declared.replies.Entry.{Entry}
use Rattle.sd_rules.specs.declared.replies.Given.{Given}
use Rattle.sd_rules.specs.declared.replies.Reply.TheVariants as replies
use Rattle.sd_rules.specs.Reaching.{Reaches}
use Rattle.sd_rules.specs.Requests.{ends_waiting, joined, is_open, waits_for}
use Rattle.sd_rules.specs.Steps.{Daemon, next_number, after, entry_made, reply_to_leave}
use Rattle.sd_past.specs.Closing.{closes_place}
use Rattle.sd_engine.specs.declared.ending.SessionEnd.{SessionEnd}
use Rattle.sd_engine.specs.declared.ending.SessionEnd.TheVariants as ends
use Rattle.sd_engine.specs.Engines.{Engine}
use Rattle.sd_engine.specs.Leading.{is_closing}
use Rattle.sd_session.specs.Closing.{WasGiven, IsShut, HasLeft, IsOver, GivesUp, NoneReserved}
use Rattle.sd_session.specs.Holding.{lists}
use Rattle.sd_session.specs.Running.{Unfinished}
use Rattle.sd_session.specs.Sessions.{Company, Trace}
use Rattle.sd_session.specs.Stepping.{IsMade}
use Rattle.sd_session.specs.Withdrawing.{MayTry, giving_up, is_abrupt}
use Rattle.sd_session.proofs.Accounting.{none_after, first_or_rest}
use Rattle.sd_session.proofs.Carrying.{Far}
use Rattle.sd_session.proofs.ClosingLaws.{IsClosedBy, by_open, same_and, shut_wholly, ended}
use Rattle.sd_session.proofs.HoldingLaws.{untrue}
use Rattle.sd_session.proofs.ShutLaws.{given_after, given_reached, shut_reached, left_after, left_reached}

none_waits : (w : Option ℕ) → is_some w ≡ false → w ≡ None
none_waits None h = refl
none_waits (Some n) h = let clash : ⊥ = cc in absurd clash

-- what was refused was not open
pub over_found : (d f : Daemon) (event : Event) → Reaches d f → closes_place f.past event ≡ false → IsOver d f event
over_found d f (events.Abandon n) to h = λ given. record { given = given_reached n d f to given; shut = h }
over_found d f (events.Leave ticket) to h = λ given. record { given = given_reached ticket d f to given; left = none_waits (waits_for f.past ticket) h }
over_found d f _ to h = tt

-- what is open no more stays so
pub over_on : (d f g : Daemon) (event : Event) → Reaches f g → IsOver d f event → IsOver d g event
over_on d f g (events.Abandon n) to over = λ given. shut_reached n f g to (over given)
over_on d f g (events.Leave ticket) to over = λ given. left_reached ticket f g to (over given)
over_on d f g _ to over = tt

pub over_from : (d f g : Daemon) (event : Event) → Reaches d f → IsOver f g event → IsOver d g event
over_from d f g (events.Abandon n) to over = λ given. over (given_reached n d f to given)
over_from d f g (events.Leave ticket) to over = λ given. over (given_reached ticket d f to given)
over_from d f g _ to over = tt

-- where a step was refused
pub over_refused : {A : Type 0} (d f : Daemon) (event : Event) (r : Result Given A) → Reaches d f → OnErr r (closes_place f.past event ≡ false) → OnErr r (IsOver d f event)
over_refused d f event (Ok gave) to h = tt
over_refused d f event (Err refused) to h = over_found d f event to h

pub over_earlier : {A : Type 0} (d f g : Daemon) (event event' : Event) (r : Result Given A) → Reaches d f → event' ≡ event → OnErr r (IsOver f g event') → OnErr r (IsOver d g event)
over_earlier d f g event event' (Ok gave) to same h = tt
over_earlier d f g event event' (Err refused) to same h = over_from d f g event to (subst (λ (x : Event). IsOver f g x) same h)

-- ---- a step that was made

closes_either : (b : Bool) → is_closing (cond b replies.Closed replies.NoRequest) ≡ true
closes_either true = refl
closes_either false = refl

abandon_law : (d : Daemon) (now n : ℕ) → IsClosedBy d now (events.Abandon n) (is_open d.past n) n
abandon_law d now n = by_open (events.Abandon n) n (is_open d.past n) replies.Closed (λ _ c. inl (same_and n true refl))

left_by : (past : List Entry) (ticket : ℕ) (w : Option ℕ) → waits_for past ticket ≡ w → (ends_waiting (events.Leave ticket) (reply_to_leave w) ticket ≡ true) ⊎ (waits_for past ticket ≡ None)
left_by past ticket None is = inr is
left_by past ticket (Some r) is = inl (same_and ticket true refl)

pub over_after : (d : Daemon) (now : ℕ) (event : Event) → IsOver d (after d now event) event
over_after d now (events.Abandon n) = λ given. shut_wholly n d now (events.Abandon n) refl given (abandon_law d now n) (closes_either (is_open d.past n))
over_after d now (events.Leave ticket) = λ given. elim (left_by d.past ticket (waits_for d.past ticket) refl) [
  | inl h ↦ record {
    given = given_after ticket d now (events.Leave ticket) refl given;
    left = ended (ends_waiting (events.Leave ticket) (entry_made d now (events.Leave ticket)).reply ticket) (cond (next_number d == ticket) (joined (entry_made d now (events.Leave ticket)).reply) (waits_for d.past ticket)) h;
  }
  | inr h ↦ left_after ticket d now (events.Leave ticket) refl (record { given = given; left = h })
]
over_after d now _ = tt

pub over_made : (w : Company) (d daemon : Daemon) (event : Event) (gave : Given) (before later : Trace) → Far w → IsMade w d event gave daemon before later → IsOver d daemon event
over_made w d daemon event gave before later far m =
    subst (λ (x : Daemon). IsOver d x event) (sym m.made) (over_from d m.found (after m.found m.now event) event (far d m.found m.others) (over_after m.found m.now event))

pub over_tried : (w : Company) (d daemon : Daemon) (event : Event) (r : Result Given SessionEnd) (before later : Trace) → Far w → IfOk r (λ (gave : Given). IsMade w d event gave daemon before later) → OnErr r (IsOver d daemon event) → IsOver d daemon event
over_tried w d daemon event (Ok gave) before later far made refused = over_made w d daemon event gave before later far made
over_tried w d daemon event (Err ending) before later far made refused = refused

-- ---- one after the other

-- each of these numbers is abandoned, or is among those that are left
pub record IsAbandoned (d f : Daemon) (numbers rest : List ℕ) : Type 0 where
  pub each : (n : ℕ) → lists numbers n ≡ true → WasGiven n d → (lists rest n ≡ true) ⊎ IsShut n f

pub abandoned_none : (d : Daemon) (numbers : List ℕ) → IsAbandoned d d numbers numbers
abandoned_none d numbers = record { each = λ n h given. inl h }

pub abandoned_one : (d f g : Daemon) (numbers : List ℕ) (number : ℕ) (rest : List ℕ) → Reaches d f → Reaches f g → IsOver f g (events.Abandon number) → IsAbandoned d f numbers (number ∷ rest) → IsAbandoned d g numbers rest
abandoned_one d f g numbers number rest to on over a = record {
  each = λ n h given. elim (a.each n h given) [
    | inl l ↦ elim (first_or_rest number n rest l) [
      | inl same ↦ inr (subst (λ (m : ℕ). IsShut m g) same (over (given_reached number d f to (subst (λ (m : ℕ). WasGiven m d) (sym same) given))))
      | inr later ↦ inl later
    ]
    | inr shut ↦ inr (shut_reached n f g on shut)
  ];
}

-- the number at a place of the list
pub abandoned_at : (d f g : Daemon) (numbers : List ℕ) (i : ℕ) → i < length numbers → Reaches d f → Reaches f g → IsOver f g (events.Abandon (get_or numbers i 0)) → IsAbandoned d f numbers (drop i numbers) → IsAbandoned d g numbers (drop (i + 1) numbers)
abandoned_at d f g numbers i lt to on over a =
    subst (λ (k : ℕ). IsAbandoned d g numbers (drop k numbers)) (sym (add-one i))
    (abandoned_one d f g numbers (get_or numbers i 0) (drop (suc i) numbers) to on over (subst (IsAbandoned d f numbers) (drop-cons numbers i 0 lt) a))

pub abandoned_all : (d f : Daemon) (numbers : List ℕ) → IsAbandoned d f numbers [] → (n : ℕ) → lists numbers n ≡ true → WasGiven n d → IsShut n f
abandoned_all d f numbers a n h given = elim (a.each n h given) [
  | inl l ↦ untrue l
  | inr shut ↦ shut
]

-- all of it is given up
pub gives_up_all : (d f g : Daemon) (leads : List ℕ) (ticket : Option ℕ) → Reaches d f → Reaches f g → Reaches d g → ((n : ℕ) → lists leads n ≡ true → WasGiven n d → IsShut n f) → ((n : ℕ) → ticket ≡ Some n → WasGiven n f → HasLeft n g) →
    GivesUp d g leads ticket
gives_up_all d f g leads ticket to on through abandoned left = record {
  reaches = through;
  abandoned = λ n h given. shut_reached n f g on (abandoned n h given);
  left = λ n h given. left n h (given_reached n d f to given);
}

pub left_one : (d g : Daemon) (ticket : ℕ) → IsOver d g (events.Leave ticket) → (n : ℕ) → Some ticket ≡ Some n → WasGiven n d → HasLeft n g
left_one d g ticket over n same given =
    let is : ticket ≡ n = cc in
    subst (λ (m : ℕ). HasLeft m g) is (over (subst (λ (m : ℕ). WasGiven m d) (sym is) given))

-- ---- the end of a session

stays_there : (w : Company) (abrupt : Bool) (events : List Event) (d f : Daemon) (before now : Trace) → MayTry w abrupt events d f before now → abrupt ≡ false → f ≡ d
stays_there w true events d f before now m h = untrue (sym h)
stays_there w false events d f before now m h = m.0

pub closed_at_end : (w : Company) (ending : SessionEnd) (d f : Daemon) (engine : Engine) (own : List Entry) (before now : Trace) → Unfinished ending d engine own → (is_abrupt ending ≡ true → GivesUp d f engine.leads engine.ticket) →
    MayTry w (is_abrupt ending) (giving_up engine.leads engine.ticket) d f before now → NoneReserved f own
closed_at_end w (ends.JournalFull count) d f engine own before now left gives m = none_after d f engine.leads engine.ticket own (gives refl) left.led
closed_at_end w ends.Memory d f engine own before now left gives m = none_after d f engine.leads engine.ticket own (gives refl) left.led
closed_at_end w ends.Closed d f engine own before now left gives m = subst (λ (x : Daemon). NoneReserved x own) (sym (stays_there w false (giving_up engine.leads engine.ticket) d f before now m refl)) left
closed_at_end w ends.Stopped d f engine own before now left gives m = subst (λ (x : Daemon). NoneReserved x own) (sym (stays_there w false (giving_up engine.leads engine.ticket) d f before now m refl)) left
closed_at_end w ends.ReadFault d f engine own before now left gives m = subst (λ (x : Daemon). NoneReserved x own) (sym (stays_there w false (giving_up engine.leads engine.ticket) d f before now m refl)) left
closed_at_end w ends.WriteFault d f engine own before now left gives m = subst (λ (x : Daemon). NoneReserved x own) (sym (stays_there w false (giving_up engine.leads engine.ticket) d f before now m refl)) left
closed_at_end w (ends.BadFrame at) d f engine own before now left gives m = subst (λ (x : Daemon). NoneReserved x own) (sym (stays_there w false (giving_up engine.leads engine.ticket) d f before now m refl)) left
closed_at_end w ends.Cut d f engine own before now left gives m = subst (λ (x : Daemon). NoneReserved x own) (sym (stays_there w false (giving_up engine.leads engine.ticket) d f before now m refl)) left
closed_at_end w (ends.Long count) d f engine own before now left gives m = subst (λ (x : Daemon). NoneReserved x own) (sym (stays_there w false (giving_up engine.leads engine.ticket) d f before now m refl)) left
