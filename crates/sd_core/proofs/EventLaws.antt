-- The event that a request's script needs: what holds of it at each stage of a lookup, a login and an account check holds of it.
use Rattle.std.proofs.Common.{◌≡◌, ℕ, true, List, [], Option, Some, None, refl, subst}
use Rattle.sd_rules.specs.declared.keys.Key.{Key}
use Rattle.sd_rules.specs.declared.keys.Key.TheVariants as keys
use Rattle.sd_rules.specs.declared.events.Event.{Event}
use Rattle.sd_rules.specs.declared.events.Event.TheVariants as events
use Rattle.sd_rules.specs.declared.scripts.Led.{Led}
use Rattle.sd_rules.specs.declared.scripts.LookupCourse.{LookupCourse}
use Rattle.sd_rules.specs.declared.scripts.LookupCourse.TheVariants as lookups
use Rattle.sd_rules.specs.declared.scripts.LookupStage.{LookupStage}
use Rattle.sd_rules.specs.declared.scripts.LoginStage.{LoginStage}
use Rattle.sd_rules.specs.declared.tasks.Need.{Need}
use Rattle.sd_rules.specs.declared.tasks.Need.TheVariants as needs
use Rattle.sd_rules.specs.AccessScript as checks
use Rattle.sd_rules.specs.AccessScript.{AccessWords, AccessCourse, access_need, access_key}
use Rattle.sd_rules.specs.Closings as closings
use Rattle.sd_rules.specs.Closings.{Closing, closing_need, closing_key}
use Rattle.sd_rules.specs.LoginScript as logins
use Rattle.sd_rules.specs.LoginScript.{LoginWords, LoginCourse, login_need, login_course_need, login_key}
use Rattle.sd_rules.specs.Lookups.{lookup_need, course_need, course_key}
use Rattle.sd_rules.specs.Names.{AllNamed, stage_names, lookup_names, closing_names, login_names, access_names}
use Rattle.sd_rules.specs.Scripts.{event_of, awaits_reply}

-- what is said of the event of a need, where it has one
abbrev pub IfEvent : Need → (Event → Type 0) → Type 0
IfEvent (needs.Step event) P = P event
IfEvent (needs.Await ticket) P = P (events.Collect ticket)
IfEvent _ P = Unit {0}

pub by_event : (n : Need) (event : Event) (P : Event → Type 0) → event_of n ≡ Some event → IfEvent n P → P event
by_event (needs.Step e) event P h p = let same : e ≡ event = cc in subst P same p
by_event (needs.Await ticket) event P h p = let same : events.Collect ticket ≡ event = cc in subst P same p
by_event (needs.Fetch server key) event P h p = let clash : ⊥ = cc in absurd clash
by_event (needs.Bind server dn password) event P h p = let clash : ⊥ = cc in absurd clash
by_event (needs.Say said) event P h p = let clash : ⊥ = cc in absurd clash
by_event needs.End event P h p = let clash : ⊥ = cc in absurd clash

pub each_event : (n : Need) (P : Event → Type 0) → ((event : Event) → P event) → IfEvent n P
each_event (needs.Step event) P all = all event
each_event (needs.Await ticket) P all = all (events.Collect ticket)
each_event _ P all = tt

-- a need that makes an event waits for its reply
pub event_awaits : (n : Need) (event : Event) → event_of n ≡ Some event → awaits_reply n ≡ true
event_awaits (needs.Step e) event h = refl
event_awaits (needs.Await ticket) event h = refl
event_awaits (needs.Fetch server key) event h = cc
event_awaits (needs.Bind server dn password) event h = cc
event_awaits (needs.Say said) event h = cc
event_awaits needs.End event h = cc

-- Where the same holds of all that a stage names, X holds of its event, by the key that is looked up and by the need.
pub record AtStages (P : ℕ → Key → Type 0) (X : Option Key → Need → Event → Type 0) : Type 0 where
  pub at_lookup : (key : Key) (stage : LookupStage) (led : List Led) → AllNamed P (stage_names key stage led) → IfEvent (lookup_need key stage) (X (Some key) (lookup_need key stage))
  pub at_login : (words : LoginWords) (dn : List ℕ) (stage : LoginStage) → IfEvent (login_need words dn stage) (X None (login_need words dn stage))
  pub at_access : (words : AccessWords) → X None (needs.Step (events.Access words.user words.service)) (events.Access words.user words.service)

module _ {P : ℕ → Key → Type 0} {X : Option Key → Need → Event → Type 0} (holds : AtStages P X) where
  lookup_event : (key : Key) (course : LookupCourse) → AllNamed P (lookup_names key course) → IfEvent (course_need key course) (X (course_key key course) (course_need key course))
  lookup_event key (lookups.Looking stage) named = holds.at_lookup key stage [] named
  lookup_event key (lookups.Saying said) named = tt
  lookup_event key (lookups.SayingFirst said request) named = tt
  lookup_event key (lookups.Renewing stage) named = holds.at_lookup key stage [] named
  lookup_event key lookups.Over named = tt

  closing_event : (closing : Closing) → AllNamed P (closing_names closing) → IfEvent (closing_need closing) (X (closing_key closing) (closing_need closing))
  closing_event (closings.Saying said led) named = tt
  closing_event (closings.Renewing key stage led) named = holds.at_lookup key stage led named
  closing_event closings.Over named = tt

  login_event : (words : LoginWords) (course : LoginCourse) → AllNamed P (login_names words.user course) →
      IfEvent (login_course_need words course) (X (login_key words course) (login_course_need words course))
  login_event words (logins.Finding stage) named = holds.at_lookup (keys.User words.user) stage [] named
  login_event words (logins.Proving dn led stage) named = holds.at_login words dn stage
  login_event words (logins.Closed closing) named = closing_event closing named

  access_event : (words : AccessWords) (course : AccessCourse) → AllNamed P (access_names course) → IfEvent (access_need words course) (X (access_key course) (access_need words course))
  access_event words (checks.Gathering key later led stage) named = holds.at_lookup key stage led named
  access_event words (checks.Checking led) named = holds.at_access words
  access_event words (checks.Closed closing) named = closing_event closing named

  pub lookup_law : (key : Key) (course : LookupCourse) (event : Event) → event_of (course_need key course) ≡ Some event → AllNamed P (lookup_names key course) →
      X (course_key key course) (course_need key course) event
  lookup_law key course event e named = by_event (course_need key course) event (X (course_key key course) (course_need key course)) e (lookup_event key course named)

  pub login_law : (words : LoginWords) (course : LoginCourse) (event : Event) → event_of (login_course_need words course) ≡ Some event → AllNamed P (login_names words.user course) →
      X (login_key words course) (login_course_need words course) event
  login_law words course event e named =
      by_event (login_course_need words course) event (X (login_key words course) (login_course_need words course)) e (login_event words course named)

  pub access_law : (words : AccessWords) (course : AccessCourse) (event : Event) → event_of (access_need words course) ≡ Some event → AllNamed P (access_names course) →
      X (access_key course) (access_need words course) event
  access_law words course event e named = by_event (access_need words course) event (X (access_key course) (access_need words course)) e (access_event words course named)
