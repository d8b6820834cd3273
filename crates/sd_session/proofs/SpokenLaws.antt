-- At a desk: a request may make the event that it needs, what the step gives fits it, and the journal then says of what it names
-- what it names it for, or nothing.
use Rattle.std.proofs.Common.{◌≡◌, ℕ, true, cond, List, [], Option, Some, None, refl, sym, subst}
use Rattle.sd_rules.specs.declared.keys.Key.{Key}
use Rattle.sd_rules.specs.declared.records.Answered.{Answered}
use Rattle.sd_rules.specs.declared.records.Answered.TheVariants.{Found, Absent}
use Rattle.sd_rules.specs.declared.events.Event.{Event}
use Rattle.sd_rules.specs.declared.events.Event.TheVariants as events
use Rattle.sd_rules.specs.declared.replies.Entry.{Entry}
use Rattle.sd_rules.specs.declared.replies.Given.{Given}
use Rattle.sd_rules.specs.declared.replies.Reply.{Reply}
use Rattle.sd_rules.specs.declared.replies.Reply.TheVariants as replies
use Rattle.sd_rules.specs.declared.scripts.Led.{Led}
use Rattle.sd_rules.specs.declared.settings.Settings.{Settings}
use Rattle.sd_rules.specs.declared.tasks.Bound.{Bound}
use Rattle.sd_rules.specs.declared.tasks.Fetched.{Fetched}
use Rattle.sd_rules.specs.Keys.{is_answer_of_kind}
use Rattle.sd_rules.specs.Lookups.{is_found_of_kind}
use Rattle.sd_rules.specs.Past.{key_of}
use Rattle.sd_rules.specs.Requests.{is_open, is_open_request, waits_for}
use Rattle.sd_rules.specs.Scripts.{event_of, need_at, key_at, fits_found, is_need_of_kind}
use Rattle.sd_rules.specs.Servers.{picked_server}
use Rattle.sd_rules.specs.Steps.{Daemon, after, given, next_number, moment_of, reply_to_collect, reply_to_outage, outcome_in_outage, record_named}
use Rattle.sd_core.specs.Laws.{IsKept}
use Rattle.sd_core.specs.Sound.{found_fits, fits_key, is_of_kind_of}
use Rattle.sd_core.proofs.FittingLaws.{FitsNamed, MayStepNamed, is_always_stepped, fits_at, kind_as, may_at}
use Rattle.sd_core.proofs.KeptLaws.{kept_after}
use Rattle.sd_core.proofs.LawProofs.{pick_law}
use Rattle.sd_core.proofs.NamesLaws.{Carries, named_on}
use Rattle.sd_core.proofs.OwnNumbers.{asked_key}
use Rattle.sd_engine.specs.Courses.{Course, script_of, replied, fetched, bound, told}
use Rattle.sd_engine.specs.Names.{holds_order, names}
use Rattle.sd_engine.proofs.CourseLaws.{course_law, order_always, replied_names, told_names, fetched_names, bound_names, replied_order, told_order, fetched_order, bound_order}
use Rattle.sd_desk.specs.Speaking.{OrNone, Speaks}
use Rattle.sd_desk.specs.Steps.{MayStep, MayAnswer}
use Rattle.sd_desk.proofs.Reached.{asked_speaks}
use Rattle.sd_session.specs.Spoken.{Spoken, AllSpeak, IsSpoken, KeepsNamed}

-- ---- the record that a step gives is of the key's kind

-- a ticket that waits has its entry, and one that does not is given nothing
wait_fits : (past : List Entry) (key : Key) (own : Option Key) (o : Option ℕ) → ((r : ℕ) → o ≡ Some r → (k : Key) × (own ≡ Some k)) → OrNone key own →
    fits_key own (record_named past (reply_to_collect past o)) ≡ true → is_found_of_kind key (record_named past (reply_to_collect past o)) ≡ true
wait_fits past key own None has speaks h = refl
wait_fits past key None (Some r) has speaks h = let k = has r refl in let e = k.1 in let clash : ⊥ = cc in absurd clash
wait_fits past key (Some q) (Some r) has same h =
    let found = record_named past (reply_to_collect past (Some r)) in
    kind_as key found (subst (λ (k : Key). is_of_kind_of k found ≡ true) same h)

-- an outage that closes a request whose entry is gone names no answer
abbrev OutageFits : List Entry → Key → ℕ → Reply → Type 0
OutageFits past key n reply = fits_key (key_of past n) (record_named past reply) ≡ true → is_found_of_kind key (record_named past reply) ≡ true

shut_by : (past : List Entry) (number : ℕ) (key : Key) (own : Option Key) → OrNone key own →
    fits_key own (record_named past (replies.Shut (outcome_in_outage past number own))) ≡ true →
    is_found_of_kind key (record_named past (replies.Shut (outcome_in_outage past number own))) ≡ true
shut_by past number key None speaks h = refl
shut_by past number key (Some q) same h =
    let found = record_named past (replies.Shut (outcome_in_outage past number (Some q))) in
    kind_as key found (subst (λ (k : Key). is_of_kind_of k found ≡ true) same h)

outage_served : (past : List Entry) (number : ℕ) (key : Key) (n : ℕ) (o : Option ℕ) → OrNone key (key_of past n) → OutageFits past key n (reply_to_outage past number n o)
outage_served past number key n (Some server) speaks = λ _. refl
outage_served past number key n None speaks =
    pick_law (OutageFits past key n) (is_open_request past n) (replies.Shut (outcome_in_outage past number (key_of past n))) replies.Closed
    (λ _. shut_by past number key (key_of past n) speaks) (λ _ _. refl)

outage_fits : (s : Settings) (past : List Entry) (number t : ℕ) (key : Key) (n : ℕ) → OrNone key (key_of past n) →
    OutageFits past key n (cond (is_open past n) (reply_to_outage past number n (picked_server s past n t)) replies.NoRequest)
outage_fits s past number t key n speaks =
    pick_law (OutageFits past key n) (is_open past n) (reply_to_outage past number n (picked_server s past n t)) replies.NoRequest
    (λ _. outage_served past number key n (picked_server s past n t) speaks) (λ _ _. refl)

spoken_fits : (d : Daemon) (now : ℕ) → IsKept d → FitsNamed (Spoken d) d now
spoken_fits d now kept = record {
  waited = λ ticket key speaks h. wait_fits d.past key (key_of d.past ticket) (waits_for d.past ticket) (kept.tickets.has_key ticket) speaks.asked h;
  outage = λ r key speaks h. outage_fits d.settings d.past (next_number d) (moment_of d now) key r speaks.asked h;
}

-- a task takes what the step of its event gives
pub given_fits : (seed : List ℕ) (d : Daemon) (now : ℕ) (c : Course) (event : Event) (g : Given) → g ≡ given d now event → event_of (need_at (script_of seed c)) ≡ Some event →
    IsSpoken d c → IsKept d → found_fits d.past event g.found ≡ true → fits_found (key_at (script_of seed c)) g.found ≡ true
given_fits seed d now c event g is e known kept h =
    let fits = course_law (fits_at d now (spoken_fits d now kept)) (λ _ _ _. refl) seed c event e known.asked known.order
    (subst (λ (x : Given). found_fits d.past event x.found ≡ true) is h) in
    subst (λ (x : Given). fits_found (key_at (script_of seed c)) x.found ≡ true) (sym is) fits

-- ---- the event that a task needs can be stepped

may_always : (front : Daemon) (event : Event) → is_always_stepped event ≡ true → MayStep front event
may_always front (events.Answer r a) h = let clash : ⊥ = cc in absurd clash
may_always front (events.Kept row) h = let clash : ⊥ = cc in absurd clash
may_always front _ h = tt

answer_may : (front : Daemon) (r : ℕ) (key : Key) (a : Answered) → Speaks r key front → is_answer_of_kind a key ≡ true → MayAnswer front r a
answer_may front r key (Found found) speaks kind = record { key = key; speaks = speaks; of_kind = kind }
answer_may front r key Absent speaks kind = tt

spoken_may : (front : Daemon) → MayStepNamed (Spoken front) (MayStep front)
spoken_may front = record { always = may_always front; answer = answer_may front }

pub known_steppable : (seed : List ℕ) (front : Daemon) (c : Course) (event : Event) → event_of (need_at (script_of seed c)) ≡ Some event →
    is_need_of_kind (key_at (script_of seed c)) (need_at (script_of seed c)) ≡ true → IsSpoken front c → MayStep front event
known_steppable seed front c event e kind known =
    course_law (may_at (spoken_may front)) (λ order is _. may_always front order (order_always order is)) seed c event e known.asked known.order kind

-- ---- what a task names after a reply

pub spoken_on : (d e : Daemon) (c : Course) → KeepsNamed d e → IsSpoken d c → IsSpoken e c
spoken_on d e c keeps spoken = record { asked = named_on (Spoken d) (Spoken e) keeps.keeps (names c) spoken.asked; order = spoken.order }

asked_now : (d : Daemon) (now : ℕ) (key : Key) → IsKept d → Speaks (next_number d) key (after d now (events.Ask key))
asked_now d now key kept =
    asked_speaks (next_number d) key (after d now (events.Ask key)) (kept_after d now (events.Ask key) refl kept).numbers (asked_key d now key)

spoken_carries : (d : Daemon) (now : ℕ) (event : Event) → KeepsNamed d (after d now event) → Carries (Spoken d) (Spoken (after d now event)) d event
spoken_carries d now event keeps = record {
  keeps = keeps.keeps;
  opens = λ key is. subst (λ (x : Event). Spoken (after d now x) (next_number d) key) (sym is) (asked_now d now key keeps.kept);
}

pub known_after : (seed : List ℕ) (d : Daemon) (now : ℕ) (c : Course) (event : Event) (g : Given) → g ≡ given d now event → event_of (need_at (script_of seed c)) ≡ Some event →
    KeepsNamed d (after d now event) → IsSpoken d c → IsSpoken (after d now event) (replied seed c g)
known_after seed d now c event g is e keeps known =
    subst (λ (x : Given). IsSpoken (after d now event) (replied seed c x)) (sym is) (record {
      asked = replied_names (Spoken d) (Spoken (after d now event)) seed d now c event e (spoken_carries d now event keeps) known.asked;
      order = replied_order seed c (given d now event) known.order;
    })

-- a task that names nothing
pub begun_known : (past : Daemon) (c : Course) → names c ≡ [] → holds_order c ≡ true → IsSpoken past c
begun_known past c h order = record { asked = subst (λ (led : List Led). AllSpeak past led) (sym h) tt; order = order }

-- ---- what a task names once it was told, and after a search or a bind

pub told_known : (q : Daemon) (c : Course) → IsSpoken q c → IsSpoken q (told c)
told_known q c known = record { asked = told_names (Spoken q) c known.asked; order = told_order c known.order }

pub fetched_known : (q : Daemon) (c : Course) (answer : Fetched) → IsSpoken q c → IsSpoken q (fetched c answer)
fetched_known q c answer known = record { asked = fetched_names (Spoken q) c answer known.asked; order = fetched_order c answer known.order }

pub bound_known : (seed : List ℕ) (q : Daemon) (c : Course) (answer : Bound) → IsSpoken q c → IsSpoken q (bound seed c answer)
bound_known seed q c answer known = record { asked = bound_names (Spoken q) seed c answer known.asked; order = bound_order seed c answer known.order }
