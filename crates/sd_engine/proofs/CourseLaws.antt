-- What a client's request of any kind names, and the event that it needs, by what is so of each script.
use Rattle.std.proofs.Common.{◌≡◌, ℕ, true, List, [], Option, Some, None, refl}
use Rattle.sd_rules.specs.declared.keys.Key.{Key}
use Rattle.sd_rules.specs.declared.events.Event.{Event}
use Rattle.sd_rules.specs.declared.events.Event.TheVariants as events
use Rattle.sd_rules.specs.declared.replies.Given.{Given}
use Rattle.sd_rules.specs.declared.tasks.Bound.{Bound}
use Rattle.sd_rules.specs.declared.tasks.Fetched.{Fetched}
use Rattle.sd_rules.specs.declared.tasks.Need.{Need}
use Rattle.sd_rules.specs.declared.tasks.Need.TheVariants as needs
use Rattle.sd_rules.specs.Names.{AllNamed}
use Rattle.sd_rules.specs.Scripts as scripts
use Rattle.sd_rules.specs.Scripts.{Stepping, Telling, admin_need, event_of, key_at, need_at}
use Rattle.sd_rules.specs.Steps.{Daemon, given}
use Rattle.sd_core.proofs.EventLaws.{AtStages, by_event, lookup_law, login_law, access_law}
use Rattle.sd_core.proofs.FittingLaws.{is_always_stepped}
use Rattle.sd_core.proofs.NamesLaws.{Carries, begun_names_nothing, told_lookup, told_login, told_access, fetched_lookup, fetched_login, fetched_access, bound_login, lookup_after, login_after, access_after}
use Rattle.sd_engine.specs.Courses.{Course, LoginWords, LookingUp, LoggingIn, Checking, Ordering, login, script_of, replied, fetched, bound, told, with_hashing}
use Rattle.sd_engine.specs.Names.{is_order, holds_order, names}

-- ---- the event that is needed

pub order_always : (order : Event) → is_order order ≡ true → is_always_stepped order ≡ true
order_always (events.Answer r answered) h = h
order_always (events.Kept row) h = h
order_always _ h = refl

pub course_law : {P : ℕ → Key → Type 0} {X : Option Key → Need → Event → Type 0} → AtStages P X → ((order : Event) → is_order order ≡ true → X None (needs.Step order) order) →
    (seed : List ℕ) (c : Course) (event : Event) → event_of (need_at (script_of seed c)) ≡ Some event → AllNamed P (names c) → holds_order c ≡ true →
    X (key_at (script_of seed c)) (need_at (script_of seed c)) event
course_law holds orders seed (LookingUp key course) event e named order = lookup_law holds key course event e named
course_law holds orders seed (LoggingIn words course) event e named order = login_law holds (with_hashing seed words) course event e named
course_law holds orders seed (Checking words course) event e named order = access_law holds words course event e named
course_law {P} {X} holds orders seed (Ordering (Stepping order)) event e named is = by_event (needs.Step order) event (X None (needs.Step order)) e (orders order is)
course_law {P} {X} holds orders seed (Ordering (Telling number)) event e named is =
    by_event (admin_need (Telling number)) event (X None (admin_need (Telling number))) e tt
course_law {P} {X} holds orders seed (Ordering scripts.Over) event e named is = by_event needs.End event (X None needs.End) e tt

-- ---- what is named

-- a login names nothing at first
pub login_names_nothing : (words : LoginWords) → names (login words) ≡ []
login_names_nothing words = begun_names_nothing words.user words.password

module _ (Q : ℕ → Key → Type 0) where
  pub told_names : (c : Course) → AllNamed Q (names c) → AllNamed Q (names (told c))
  told_names (LookingUp key course) named = told_lookup Q key course named
  told_names (LoggingIn words course) named = told_login Q words.user course named
  told_names (Checking words course) named = told_access Q course named
  told_names (Ordering course) named = tt

  pub fetched_names : (c : Course) (answer : Fetched) → AllNamed Q (names c) → AllNamed Q (names (fetched c answer))
  fetched_names (LookingUp key course) answer named = fetched_lookup Q key course answer named
  fetched_names (LoggingIn words course) answer named = fetched_login Q words.user course answer named
  fetched_names (Checking words course) answer named = fetched_access Q course answer named
  fetched_names (Ordering course) answer named = tt

  pub bound_names : (seed : List ℕ) (c : Course) (answer : Bound) → AllNamed Q (names c) → AllNamed Q (names (bound seed c answer))
  bound_names seed (LookingUp key course) answer named = named
  bound_names seed (LoggingIn words course) answer named = bound_login Q (with_hashing seed words) course answer named
  bound_names seed (Checking words course) answer named = named
  bound_names seed (Ordering course) answer named = tt

pub replied_names : (P Q : ℕ → Key → Type 0) (seed : List ℕ) (d : Daemon) (now : ℕ) (c : Course) (event : Event) → event_of (need_at (script_of seed c)) ≡ Some event →
    Carries P Q d event → AllNamed P (names c) → AllNamed Q (names (replied seed c (given d now event)))
replied_names P Q seed d now (LookingUp key course) event e carries named = lookup_after P Q d now key course event e carries named
replied_names P Q seed d now (LoggingIn words course) event e carries named = login_after P Q d now (with_hashing seed words) course event e carries named
replied_names P Q seed d now (Checking words course) event e carries named = access_after P Q d now words course event e carries named
replied_names P Q seed d now (Ordering course) event e carries named = tt

-- ---- an administrator's word stays one

pub replied_order : (seed : List ℕ) (c : Course) (g : Given) → holds_order c ≡ true → holds_order (replied seed c g) ≡ true
replied_order seed (LookingUp key course) g h = refl
replied_order seed (LoggingIn words course) g h = refl
replied_order seed (Checking words course) g h = refl
replied_order seed (Ordering (Stepping event)) g h = refl
replied_order seed (Ordering (Telling number)) g h = refl
replied_order seed (Ordering scripts.Over) g h = refl

pub told_order : (c : Course) → holds_order c ≡ true → holds_order (told c) ≡ true
told_order (LookingUp key course) h = refl
told_order (LoggingIn words course) h = refl
told_order (Checking words course) h = refl
told_order (Ordering (Stepping event)) h = h
told_order (Ordering (Telling number)) h = refl
told_order (Ordering scripts.Over) h = refl

pub fetched_order : (c : Course) (answer : Fetched) → holds_order c ≡ true → holds_order (fetched c answer) ≡ true
fetched_order (LookingUp key course) answer h = refl
fetched_order (LoggingIn words course) answer h = refl
fetched_order (Checking words course) answer h = refl
fetched_order (Ordering course) answer h = h

pub bound_order : (seed : List ℕ) (c : Course) (answer : Bound) → holds_order c ≡ true → holds_order (bound seed c answer) ≡ true
bound_order seed (LookingUp key course) answer h = refl
bound_order seed (LoggingIn words course) answer h = refl
bound_order seed (Checking words course) answer h = refl
bound_order seed (Ordering course) answer h = h
