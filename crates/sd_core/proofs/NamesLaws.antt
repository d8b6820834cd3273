-- What a request's script names once its client was told, and after a search, a bind or a reply: of each the same holds as before.
use Rattle.std.proofs.Common.{◌≡◌, ℕ, Bool, true, false, ◌++◌, cond, List, [], ◌∷◌, Option, Some, None, refl, sym, subst}
use Rattle.sd_rules.specs.declared.keys.Key.{Key}
use Rattle.sd_rules.specs.declared.keys.Key.TheVariants as keys
use Rattle.sd_rules.specs.declared.records.Answered.{Answered}
use Rattle.sd_rules.specs.declared.records.Record.{Record}
use Rattle.sd_rules.specs.declared.events.Event.{Event}
use Rattle.sd_rules.specs.declared.events.Event.TheVariants as events
use Rattle.sd_rules.specs.declared.events.Refusal.{Refusal}
use Rattle.sd_rules.specs.declared.replies.Reply.{Reply}
use Rattle.sd_rules.specs.declared.replies.Reply.TheVariants as replies
use Rattle.sd_rules.specs.declared.scripts.Led.{Led}
use Rattle.sd_rules.specs.declared.scripts.LookupCourse.{LookupCourse}
use Rattle.sd_rules.specs.declared.scripts.LookupCourse.TheVariants as lookups
use Rattle.sd_rules.specs.declared.scripts.LookupStage.{LookupStage}
use Rattle.sd_rules.specs.declared.scripts.LookupStage.TheVariants as stages
use Rattle.sd_rules.specs.declared.scripts.LookupStep.{LookupStep}
use Rattle.sd_rules.specs.declared.scripts.LookupStep.TheVariants as steps
use Rattle.sd_rules.specs.declared.scripts.LoginStep.{LoginStep}
use Rattle.sd_rules.specs.declared.scripts.LoginStep.TheVariants as login_steps
use Rattle.sd_rules.specs.declared.tasks.Bound.{Bound}
use Rattle.sd_rules.specs.declared.tasks.Fetched.{Fetched}
use Rattle.sd_rules.specs.declared.tasks.Fetched.TheVariants as fetches
use Rattle.sd_rules.specs.declared.tasks.Said.{Said}
use Rattle.sd_rules.specs.AccessScript as checks
use Rattle.sd_rules.specs.AccessScript.{AccessWords, AccessCourse, access_need, access_replied, access_fetched, access_told, gathering, gathered, gather, ends_check}
use Rattle.sd_rules.specs.Closings as closings
use Rattle.sd_rules.specs.Closings.{Closing, closing_need, closing_replied, closing_fetched, closing_told, carried_out}
use Rattle.sd_rules.specs.LoginScript as logins
use Rattle.sd_rules.specs.LoginScript.{LoginWords, LoginCourse, login_course_need, login_course_replied, login_course_fetched, login_course_bound, login_course_told, login_begun, login_replied, finding, found_by, proving}
use Rattle.sd_rules.specs.Lookups.{lookup_need, lookup_replied, lookup_fetched, after_ask, after_collect, after_pick, after_answer, after_refuse, after_fall, after_outage, after_search, course_need, course_replied, course_fetched, course_told, looked, renewed, dn_said}
use Rattle.sd_rules.specs.Names.{AllNamed, under, stage_names, lookup_names, closing_names, login_names, access_names}
use Rattle.sd_rules.specs.Scripts.{event_of}
use Rattle.sd_rules.specs.Steps.{Daemon, given, entry_made, next_number, moment_of}
use Rattle.sd_core.proofs.EventLaws.{IfEvent, by_event}
use Rattle.sd_core.proofs.OwnNumbers.{Opens, ask_opens}

-- a login names nothing at first
pub begun_names_nothing : (user password : List ℕ) → login_names user (login_begun password) ≡ []
begun_names_nothing user [] = refl
begun_names_nothing user (byte ∷ password) = refl

pub named_on : (P Q : ℕ → Key → Type 0) → ((n : ℕ) (key : Key) → P n key → Q n key) → (led : List Led) → AllNamed P led → AllNamed Q led
named_on P Q keeps [] named = tt
named_on P Q keeps (l ∷ led) named = (keeps l.request l.key named.0, named_on P Q keeps led named.1)

-- what is named once a lookup that leads others besides was replied to
abbrev step_names : Key → LookupStep → List Led → List Led
step_names key (steps.Next stage) led = stage_names key stage led
step_names key (steps.Ended said) led = led
step_names key (steps.Renew said request) led = under request key led

-- ---- once told, and after a search or a bind

module _ (Q : ℕ → Key → Type 0) where
  begun_names : (led : List Led) → AllNamed Q led → AllNamed Q (closing_names (closings.begun led))
  begun_names [] named = tt
  begun_names (first ∷ led) named = named

  pub told_lookup : (key : Key) (course : LookupCourse) → AllNamed Q (lookup_names key course) → AllNamed Q (lookup_names key (course_told course))
  told_lookup key (lookups.Looking stage) named = named
  told_lookup key (lookups.Saying said) named = tt
  told_lookup key (lookups.SayingFirst said request) named = named
  told_lookup key (lookups.Renewing stage) named = named
  told_lookup key lookups.Over named = tt

  told_closing : (closing : Closing) → AllNamed Q (closing_names closing) → AllNamed Q (closing_names (closing_told closing))
  told_closing (closings.Saying said led) named = begun_names led named
  told_closing (closings.Renewing key stage led) named = named
  told_closing closings.Over named = tt

  pub told_login : (user : List ℕ) (course : LoginCourse) → AllNamed Q (login_names user course) → AllNamed Q (login_names user (login_course_told course))
  told_login user (logins.Finding stage) named = named
  told_login user (logins.Proving dn led stage) named = named
  told_login user (logins.Closed closing) named = told_closing closing named

  pub told_access : (course : AccessCourse) → AllNamed Q (access_names course) → AllNamed Q (access_names (access_told course))
  told_access (checks.Gathering key later led stage) named = named
  told_access (checks.Checking led) named = named
  told_access (checks.Closed closing) named = told_closing closing named

  search_names : (key : Key) (request server : ℕ) (led : List Led) (answer : Fetched) → AllNamed Q (under request key led) →
      AllNamed Q (stage_names key (after_search request server answer) led)
  search_names key request server led (fetches.Found found) named = named
  search_names key request server led fetches.Absent named = named
  search_names key request server led (fetches.Refused code) named = named
  search_names key request server led (fetches.Many count) named = named
  search_names key request server led (fetches.Failed why) named = named
  search_names key request server led fetches.Memory named = named

  fetched_stage : (key : Key) (stage : LookupStage) (led : List Led) (answer : Fetched) → AllNamed Q (stage_names key stage led) →
      AllNamed Q (stage_names key (lookup_fetched stage answer) led)
  fetched_stage key (stages.Search request server) led answer named = search_names key request server led answer named
  fetched_stage key _ led answer named = named

  pub fetched_lookup : (key : Key) (course : LookupCourse) (answer : Fetched) → AllNamed Q (lookup_names key course) → AllNamed Q (lookup_names key (course_fetched course answer))
  fetched_lookup key (lookups.Looking stage) answer named = fetched_stage key stage [] answer named
  fetched_lookup key (lookups.Saying said) answer named = tt
  fetched_lookup key (lookups.SayingFirst said request) answer named = named
  fetched_lookup key (lookups.Renewing stage) answer named = fetched_stage key stage [] answer named
  fetched_lookup key lookups.Over answer named = tt

  fetched_closing : (closing : Closing) (answer : Fetched) → AllNamed Q (closing_names closing) → AllNamed Q (closing_names (closing_fetched closing answer))
  fetched_closing (closings.Saying said led) answer named = named
  fetched_closing (closings.Renewing key stage led) answer named = fetched_stage key stage led answer named
  fetched_closing closings.Over answer named = tt

  pub fetched_login : (user : List ℕ) (course : LoginCourse) (answer : Fetched) → AllNamed Q (login_names user course) → AllNamed Q (login_names user (login_course_fetched course answer))
  fetched_login user (logins.Finding stage) answer named = fetched_stage (keys.User user) stage [] answer named
  fetched_login user (logins.Proving dn led stage) answer named = named
  fetched_login user (logins.Closed closing) answer named = fetched_closing closing answer named

  pub fetched_access : (course : AccessCourse) (answer : Fetched) → AllNamed Q (access_names course) → AllNamed Q (access_names (access_fetched course answer))
  fetched_access (checks.Gathering key later led stage) answer named = fetched_stage key stage led answer named
  fetched_access (checks.Checking led) answer named = named
  fetched_access (checks.Closed closing) answer named = fetched_closing closing answer named

  pub bound_login : (words : LoginWords) (course : LoginCourse) (answer : Bound) → AllNamed Q (login_names words.user course) →
      AllNamed Q (login_names words.user (login_course_bound words course answer))
  bound_login words (logins.Finding stage) answer named = named
  bound_login words (logins.Proving dn led stage) answer named = named
  bound_login words (logins.Closed closing) answer named = named

  -- ---- after a reply

  named_under : (key : Key) (n number : ℕ) (led : List Led) → n ≡ number → Q number key → AllNamed Q led → AllNamed Q (under n key led)
  named_under key n number led e own named = (subst (λ (m : ℕ). Q m key) (sym e) own, named)

  ask_names : (key : Key) (led : List Led) (number : ℕ) (found : Option Record) (reply : Reply) → Opens number reply → Q number key → AllNamed Q led →
      AllNamed Q (step_names key (after_ask number found reply) led)
  ask_names key led number found (replies.Lead r) opens own named = named_under key r number led opens own named
  ask_names key led number found (replies.Refresh n r) opens own named = named_under key r number led opens own named
  ask_names key led number found (replies.Join r ticket) opens own named = named_under key ticket number led opens own named
  ask_names key led number found _ opens own named = named

  collect_names : (key : Key) (led : List Led) (ticket number : ℕ) (found : Option Record) (reply : Reply) → AllNamed Q (under ticket key led) →
      AllNamed Q (step_names key (after_collect ticket number found reply) led)
  collect_names key led ticket number found (replies.NotYet r) named = named
  collect_names key led ticket number found _ named = named.1

  pick_names : (key : Key) (led : List Led) (request number : ℕ) (reply : Reply) → AllNamed Q (under request key led) → AllNamed Q (step_names key (after_pick request number reply) led)
  pick_names key led request number (replies.Server server) named = named
  pick_names key led request number replies.NoServer named = named
  pick_names key led request number _ named = named.1

  answer_names : (key : Key) (led : List Led) (request : ℕ) (answered : Answered) (number : ℕ) (reply : Reply) → AllNamed Q (under request key led) →
      AllNamed Q (step_names key (after_answer request answered number reply) led)
  answer_names key led request answered number (replies.Again void) named = named
  answer_names key led request answered number _ named = named.1

  refuse_names : (key : Key) (led : List Led) (request : ℕ) (refusal : Refusal) (number : ℕ) (reply : Reply) → AllNamed Q (under request key led) →
      AllNamed Q (step_names key (after_refuse refusal number reply) led)
  refuse_names key led request refusal number replies.Closed named = named.1
  refuse_names key led request refusal number _ named = named.1

  fall_names : (key : Key) (led : List Led) (request number : ℕ) (reply : Reply) → AllNamed Q (under request key led) → AllNamed Q (step_names key (after_fall request number reply) led)
  fall_names key led request number replies.Noted named = named
  fall_names key led request number replies.NotPicked named = named
  fall_names key led request number _ named = named.1

  outage_names : (key : Key) (led : List Led) (request number : ℕ) (found : Option Record) (reply : Reply) → AllNamed Q (under request key led) →
      AllNamed Q (step_names key (after_outage request number found reply) led)
  outage_names key led request number found (replies.Servable server) named = named
  outage_names key led request number found _ named = named.1

  looked_names : (key : Key) (step : LookupStep) → AllNamed Q (step_names key step []) → AllNamed Q (lookup_names key (looked step))
  looked_names key (steps.Next stage) named = named
  looked_names key (steps.Ended said) named = tt
  looked_names key (steps.Renew said request) named = named

  renewed_names : (key : Key) (step : LookupStep) → AllNamed Q (step_names key step []) → AllNamed Q (lookup_names key (renewed step))
  renewed_names key (steps.Next stage) named = named
  renewed_names key (steps.Ended said) named = tt
  renewed_names key (steps.Renew said request) named = tt

  carried_names : (key : Key) (led : List Led) (step : LookupStep) → AllNamed Q (step_names key step led) → AllNamed Q (closing_names (carried_out key led step))
  carried_names key led (steps.Next stage) named = named
  carried_names key led (steps.Ended said) named = begun_names led named
  carried_names key led (steps.Renew said request) named = begun_names led named.1

  found_names : (user : List ℕ) (said : Said) (led : List Led) (dn : Option (List ℕ)) → AllNamed Q led → AllNamed Q (login_names user (found_by said led dn))
  found_names user said led None named = named
  found_names user said led (Some dn) named = named

  finding_names : (user : List ℕ) (step : LookupStep) → AllNamed Q (step_names (keys.User user) step []) → AllNamed Q (login_names user (finding user step))
  finding_names user (steps.Next stage) named = named
  finding_names user (steps.Ended said) named = found_names user said [] (dn_said said) named
  finding_names user (steps.Renew said request) named = found_names user said (under request (keys.User user) []) (dn_said said) named

  proving_names : (user dn : List ℕ) (led : List Led) (step : LoginStep) → AllNamed Q led → AllNamed Q (login_names user (proving dn led step))
  proving_names user dn led (login_steps.Next stage) named = named
  proving_names user dn led (login_steps.Ended said) named = named

  gather_names : (later : List Key) (led : List Led) → AllNamed Q led → AllNamed Q (access_names (gather later led))
  gather_names [] led named = named
  gather_names (key ∷ later) led named = named

  either_names : (b : Bool) (x y : AccessCourse) → AllNamed Q (access_names x) → AllNamed Q (access_names y) → AllNamed Q (access_names (cond b x y))
  either_names true x y f g = f
  either_names false x y f g = g

  gathered_names : (key : Key) (later : List Key) (led : List Led) (said : Said) → AllNamed Q led → AllNamed Q (access_names (gathered key later led said))
  gathered_names key later led said named =
      either_names (ends_check key said) (checks.Closed (closings.Saying said led)) (gather later led) named (gather_names later led named)

  named_more : (led : List Led) (request : ℕ) (key : Key) → AllNamed Q led → Q request key → AllNamed Q (led ++ under request key [])
  named_more [] request key named own = (own, tt)
  named_more (l ∷ led) request key named own = (named.0, named_more led request key named.1 own)

  gathering_names : (key : Key) (later : List Key) (led : List Led) (step : LookupStep) → AllNamed Q (step_names key step led) → AllNamed Q (access_names (gathering key later led step))
  gathering_names key later led (steps.Next stage) named = named
  gathering_names key later led (steps.Ended said) named = gathered_names key later led said named
  gathering_names key later led (steps.Renew said request) named = gathered_names key later (led ++ under request key []) said (named_more led request key named.1 named.0)

-- What holds of a number and a key before an event holds afterwards, and of the event's own number where it asks for a key.
pub record Carries (P Q : ℕ → Key → Type 0) (d : Daemon) (event : Event) : Type 0 where
  pub keeps : (n : ℕ) (key : Key) → P n key → Q n key
  pub opens : (key : Key) → event ≡ events.Ask key → Q (next_number d) key

module _ (P Q : ℕ → Key → Type 0) (d : Daemon) (now : ℕ) where
  -- what a lookup names after the reply to an event
  abbrev NamesOn : Key → LookupStage → List Led → Event → Type 0
  NamesOn key stage led event = Carries P Q d event → AllNamed Q (step_names key (lookup_replied stage (given d now event)) led)

  stage_goes : (key : Key) (stage : LookupStage) (led : List Led) → AllNamed P (stage_names key stage led) → IfEvent (lookup_need key stage) (NamesOn key stage led)
  stage_goes key stages.Ask led named = λ carries.
      let event : Event = events.Ask key in
      ask_names Q key led (next_number d) (given d now event).found (entry_made d now event).reply (ask_opens d.settings d.past (next_number d) (moment_of d now) key)
      (carries.opens key refl) (named_on P Q carries.keeps led named)
  stage_goes key (stages.Wait ticket) led named = λ carries.
      let event : Event = events.Collect ticket in
      collect_names Q key led ticket (given d now event).number (given d now event).found (given d now event).reply (named_on P Q carries.keeps (under ticket key led) named)
  stage_goes key (stages.Pick r) led named = λ carries.
      let event : Event = events.Pick r in
      pick_names Q key led r (given d now event).number (given d now event).reply (named_on P Q carries.keeps (under r key led) named)
  stage_goes key (stages.Search r server) led named = tt
  stage_goes key (stages.Answer r a) led named = λ carries.
      let event : Event = events.Answer r a in
      answer_names Q key led r a (given d now event).number (given d now event).reply (named_on P Q carries.keeps (under r key led) named)
  stage_goes key (stages.Refuse r refusal) led named = λ carries.
      let event : Event = events.Refuse r refusal in
      refuse_names Q key led r refusal (given d now event).number (given d now event).reply (named_on P Q carries.keeps (under r key led) named)
  stage_goes key (stages.Fall r server why) led named = λ carries.
      let event : Event = events.Fall r server why in
      fall_names Q key led r (given d now event).number (given d now event).reply (named_on P Q carries.keeps (under r key led) named)
  stage_goes key (stages.Outage r) led named = λ carries.
      let event : Event = events.Outage r in
      outage_names Q key led r (given d now event).number (given d now event).found (given d now event).reply (named_on P Q carries.keeps (under r key led) named)

  stage_after : (key : Key) (stage : LookupStage) (led : List Led) (event : Event) → event_of (lookup_need key stage) ≡ Some event → AllNamed P (stage_names key stage led) → NamesOn key stage led event
  stage_after key stage led event e named = by_event (lookup_need key stage) event (NamesOn key stage led) e (stage_goes key stage led named)

  pub lookup_after : (key : Key) (course : LookupCourse) (event : Event) → event_of (course_need key course) ≡ Some event → Carries P Q d event → AllNamed P (lookup_names key course) →
      AllNamed Q (lookup_names key (course_replied course (given d now event)))
  lookup_after key (lookups.Looking stage) event e carries named = looked_names Q key (lookup_replied stage (given d now event)) (stage_after key stage [] event e named carries)
  lookup_after key (lookups.Saying said) event e carries named = tt
  lookup_after key (lookups.SayingFirst said request) event e carries named = named_on P Q carries.keeps (under request key []) named
  lookup_after key (lookups.Renewing stage) event e carries named = renewed_names Q key (lookup_replied stage (given d now event)) (stage_after key stage [] event e named carries)
  lookup_after key lookups.Over event e carries named = tt

  closing_after : (closing : Closing) (event : Event) → event_of (closing_need closing) ≡ Some event → Carries P Q d event → AllNamed P (closing_names closing) →
      AllNamed Q (closing_names (closing_replied closing (given d now event)))
  closing_after (closings.Saying said led) event e carries named = named_on P Q carries.keeps led named
  closing_after (closings.Renewing key stage led) event e carries named = carried_names Q key led (lookup_replied stage (given d now event)) (stage_after key stage led event e named carries)
  closing_after closings.Over event e carries named = tt

  pub login_after : (words : LoginWords) (course : LoginCourse) (event : Event) → event_of (login_course_need words course) ≡ Some event → Carries P Q d event → AllNamed P (login_names words.user course) →
      AllNamed Q (login_names words.user (login_course_replied words course (given d now event)))
  login_after words (logins.Finding stage) event e carries named =
      finding_names Q words.user (lookup_replied stage (given d now event)) (stage_after (keys.User words.user) stage [] event e named carries)
  login_after words (logins.Proving dn led stage) event e carries named =
      proving_names Q words.user dn led (login_replied words stage (given d now event)) (named_on P Q carries.keeps led named)
  login_after words (logins.Closed closing) event e carries named = closing_after closing event e carries named

  pub access_after : (words : AccessWords) (course : AccessCourse) (event : Event) → event_of (access_need words course) ≡ Some event → Carries P Q d event → AllNamed P (access_names course) →
      AllNamed Q (access_names (access_replied course (given d now event)))
  access_after words (checks.Gathering key later led stage) event e carries named =
      gathering_names Q key later led (lookup_replied stage (given d now event)) (stage_after key stage led event e named carries)
  access_after words (checks.Checking led) event e carries named = named_on P Q carries.keeps led named
  access_after words (checks.Closed closing) event e carries named = closing_after closing event e carries named
