-- A task may make the event that it needs, what the step gives fits it, and the journal then knows what it names.
use Rattle.std.proofs.Common.{◌≡◌, ◌<◌, ◌+◌, ℕ, Bool, true, false, ◌||◌, cond, List, [], Option, Some, None, Result, Ok, Err, refl, ap, sym, subst, arith}
use Rattle.std.specs.Prelude.{IfOk, OnOk, max}
use Rattle.sd_rules.specs.declared.keys.Key.{Key}
use Rattle.sd_rules.specs.declared.events.Event.{Event}
use Rattle.sd_rules.specs.declared.events.Event.TheVariants as events
use Rattle.sd_rules.specs.declared.replies.Given.{Given}
use Rattle.sd_rules.specs.declared.replies.Reply.TheVariants as replies
use Rattle.sd_rules.specs.declared.scripts.Led.{Led}
use Rattle.sd_rules.specs.declared.tasks.Bound.{Bound}
use Rattle.sd_rules.specs.declared.tasks.Fetched.{Fetched}
use Rattle.sd_rules.specs.declared.tasks.Need.{Need}
use Rattle.sd_rules.specs.Names.{AllNamed}
use Rattle.sd_rules.specs.Past.{key_of}
use Rattle.sd_rules.specs.Requests.{is_open, is_open_attempt, is_open_request, waits_for}
use Rattle.sd_rules.specs.Scripts.{event_of, need_at, key_at, fits_found, is_need_of_kind}
use Rattle.sd_rules.specs.Servers.{picked_server}
use Rattle.sd_rules.specs.Steps.{Daemon, after, given, entry_made, next_number, moment_of, is_steppable, answer_named, reply_to_collect, reply_to_outage}
use Rattle.sd_core.specs.Sound.{found_fits}
pub use Rattle.sd_core.proofs.EventLaws.{event_awaits}
use Rattle.sd_core.proofs.EventLaws.{AtStages, lookup_law, login_law, access_law}
use Rattle.sd_core.proofs.FittingLaws.{Fits, FitsNamed, fits_as, fits_at, may_at, none_fits, steppable_named}
use Rattle.sd_core.proofs.NamesLaws.{Carries, begun_names_nothing, told_lookup, told_login, told_access, fetched_lookup, fetched_login, fetched_access, bound_login, lookup_after, login_after, access_after}
use Rattle.sd_core.proofs.OwnNumbers.{asked_key}
use Rattle.sd_world.specs.declared.stop.Stop.{Stop}
use Rattle.sd_world.specs.Courses.{Course, LoginWords, LookingUp, LoggingIn, Checking, login, script_of, replied, fetched, bound, told, with_hashing}
use Rattle.sd_world.specs.Past.{IsAsked, AreAsked, IsKnown, KeepsKeys, names}

-- the event of a task, by what holds at each stage of its script
task_law : {P : ℕ → Key → Type 0} {X : Option Key → Need → Event → Type 0} → AtStages P X → (c : Course) (event : Event) → event_of (need_at (script_of c)) ≡ Some event → AllNamed P (names c) →
    X (key_at (script_of c)) (need_at (script_of c)) event
task_law holds (LookingUp key course) event e named = lookup_law holds key course event e named
task_law holds (LoggingIn words course) event e named = login_law holds (with_hashing words) course event e named
task_law holds (Checking words course) event e named = access_law holds words course event e named

-- ---- the record that a step gives is of the key's kind

-- a ticket that waits was asked for the key; another names nothing
waiting_fits : (d : Daemon) (now : ℕ) (key : Key) (ticket : ℕ) (w : Option ℕ) → waits_for d.past ticket ≡ w → IsAsked d ticket key → Fits d now (Some key) (events.Collect ticket)
waiting_fits d now key ticket None is asked = λ _.
    none_fits d.past key (entry_made d now (events.Collect ticket)).reply (ap (λ (o : Option ℕ). answer_named (reply_to_collect d.past o)) is)
waiting_fits d now key ticket (Some r) is asked = λ h. fits_as (key_of d.past ticket) key (given d now (events.Collect ticket)).found (asked.ticket r is) h

-- so with a request that is open
outage_fits : (d : Daemon) (now : ℕ) (key : Key) (r : ℕ) (b : Bool) → is_open d.past r ≡ b → IsAsked d r key → Fits d now (Some key) (events.Outage r)
outage_fits d now key r true is asked = λ h. fits_as (key_of d.past r) key (given d now (events.Outage r)).found (asked.request is) h
outage_fits d now key r false is asked = λ _.
    none_fits d.past key (entry_made d now (events.Outage r)).reply
    (ap (λ (b : Bool). answer_named (cond b (reply_to_outage d.past (next_number d) r (picked_server d.settings d.past r (moment_of d now))) replies.NoRequest)) is)

asked_fits : (d : Daemon) (now : ℕ) → FitsNamed (IsAsked d) d now
asked_fits d now = record {
  waited = λ ticket key asked. waiting_fits d now key ticket (waits_for d.past ticket) refl asked;
  outage = λ r key asked. outage_fits d now key r (is_open d.past r) refl asked;
}

-- a task takes what the step of its event gives
pub given_fits : (d : Daemon) (now : ℕ) (c : Course) (event : Event) (g : Given) → g ≡ given d now event → event_of (need_at (script_of c)) ≡ Some event →
    IsKnown d c → found_fits d.past event g.found ≡ true → fits_found (key_at (script_of c)) g.found ≡ true
given_fits d now c event g is e known h =
    let fits = task_law (fits_at d now (asked_fits d now)) c event e known.asked (subst (λ (x : Given). found_fits d.past event x.found ≡ true) is h) in
    subst (λ (x : Given). fits_found (key_at (script_of c)) x.found ≡ true) (sym is) fits

-- ---- the event that a task needs can be stepped

either_first : (a b : Bool) → a ≡ true → (a || b) ≡ true
either_first true b h = refl
either_first false b h = cc

pub known_steppable : (d : Daemon) (c : Course) (event : Event) → event_of (need_at (script_of c)) ≡ Some event →
    is_need_of_kind (key_at (script_of c)) (need_at (script_of c)) ≡ true → IsKnown d c → is_steppable d.past event ≡ true
known_steppable d c event e kind known =
    task_law (may_at (steppable_named (IsAsked d) d.past
    (λ r key asked is. asked.request (either_first (is_open_request d.past r) (is_open_attempt d.past r) is)))) c event e known.asked kind

-- ---- what a task names after a reply

-- the entry of a question asks for its key
own_asked : (d : Daemon) (now : ℕ) (key : Key) → IsAsked (after d now (events.Ask key)) (next_number d) key
own_asked d now key = record { below = above_itself (next_number d); request = λ _. asked_key d now key; ticket = λ r _. asked_key d now key }
  where
    above_itself : (n : ℕ) → n < max (n + 1) (n + 1)
    above_itself n = omega arith

asked_carries : (d : Daemon) (now : ℕ) (event : Event) → KeepsKeys d (after d now event) → Carries (IsAsked d) (IsAsked (after d now event)) d event
asked_carries d now event keeps = record {
  keeps = keeps.keeps;
  opens = λ key is. subst (λ (x : Event). IsAsked (after d now x) (next_number d) key) (sym is) (own_asked d now key);
}

task_after : (P Q : ℕ → Key → Type 0) (d : Daemon) (now : ℕ) (c : Course) (event : Event) → event_of (need_at (script_of c)) ≡ Some event →
    Carries P Q d event → AllNamed P (names c) → AllNamed Q (names (replied c (given d now event)))
task_after P Q d now (LookingUp key course) event e carries named = lookup_after P Q d now key course event e carries named
task_after P Q d now (LoggingIn words course) event e carries named = login_after P Q d now (with_hashing words) course event e carries named
task_after P Q d now (Checking words course) event e carries named = access_after P Q d now words course event e carries named

pub known_after : (d : Daemon) (now : ℕ) (c : Course) (event : Event) (g : Given) → g ≡ given d now event → event_of (need_at (script_of c)) ≡ Some event →
    KeepsKeys d (after d now event) → IsKnown d c → IsKnown (after d now event) (replied c g)
known_after d now c event g is e keeps known =
    subst (λ (x : Given). IsKnown (after d now event) (replied c x)) (sym is)
    (record { asked = task_after (IsAsked d) (IsAsked (after d now event)) d now c event e (asked_carries d now event keeps) known.asked })

-- the same of a step that may have been refused
pub found_if_made : (d : Daemon) (now : ℕ) (c : Course) (event : Event) (r : Result Given Stop) → IfOk r (λ (g : Given). g ≡ given d now event)
    → IfOk r (λ (g : Given). found_fits d.past event g.found ≡ true) → event_of (need_at (script_of c)) ≡ Some event → IsKnown d c
    → IfOk r (λ (g : Given). fits_found (key_at (script_of c)) g.found ≡ true)
found_if_made d now c event (Ok g) is h e known = given_fits d now c event g is e known h
found_if_made d now c event (Err stop) is h e known = tt

pub known_if_made : (d f : Daemon) (now : ℕ) (c : Course) (event : Event) (r : Result Given Stop) → OnOk r (f ≡ after d now event)
    → IfOk r (λ (g : Given). g ≡ given d now event) → event_of (need_at (script_of c)) ≡ Some event → KeepsKeys d f → IsKnown d c
    → IfOk r (λ (g : Given). IsKnown f (replied c g))
known_if_made d f now c event (Ok g) made is e keeps known =
    let keeps_after : KeepsKeys d (after d now event) = subst (λ (x : Daemon). KeepsKeys d x) made keeps in
    subst (λ (x : Daemon). IsKnown x (replied c g)) (sym made) (known_after d now c event g is e keeps_after known)
known_if_made d f now c event (Err stop) made is e keeps known = tt

-- a task that names nothing
pub begun_known : (d : Daemon) (c : Course) → names c ≡ [] → IsKnown d c
begun_known d c h = record { asked = subst (λ (led : List Led). AreAsked d led) (sym h) tt }

-- a login names nothing at first
pub login_names_nothing : (words : LoginWords) → names (login words) ≡ []
login_names_nothing words = begun_names_nothing words.user words.password

-- ---- what a task names once it was told, and after a search or a bind

told_names : (Q : ℕ → Key → Type 0) (c : Course) → AllNamed Q (names c) → AllNamed Q (names (told c))
told_names Q (LookingUp key course) named = told_lookup Q key course named
told_names Q (LoggingIn words course) named = told_login Q words.user course named
told_names Q (Checking words course) named = told_access Q course named

pub told_known : (q : Daemon) (c : Course) → IsKnown q c → IsKnown q (told c)
told_known q c known = record { asked = told_names (IsAsked q) c known.asked }

fetched_names : (Q : ℕ → Key → Type 0) (c : Course) (answer : Fetched) → AllNamed Q (names c) → AllNamed Q (names (fetched c answer))
fetched_names Q (LookingUp key course) answer named = fetched_lookup Q key course answer named
fetched_names Q (LoggingIn words course) answer named = fetched_login Q words.user course answer named
fetched_names Q (Checking words course) answer named = fetched_access Q course answer named

pub fetched_known : (q : Daemon) (c : Course) (answer : Fetched) → IsKnown q c → IsKnown q (fetched c answer)
fetched_known q c answer known = record { asked = fetched_names (IsAsked q) c answer known.asked }

bound_names : (Q : ℕ → Key → Type 0) (c : Course) (answer : Bound) → AllNamed Q (names c) → AllNamed Q (names (bound c answer))
bound_names Q (LookingUp key course) answer named = named
bound_names Q (LoggingIn words course) answer named = bound_login Q (with_hashing words) course answer named
bound_names Q (Checking words course) answer named = named

pub bound_known : (q : Daemon) (c : Course) (answer : Bound) → IsKnown q c → IsKnown q (bound c answer)
bound_known q c answer known = record { asked = bound_names (IsAsked q) c answer known.asked }
