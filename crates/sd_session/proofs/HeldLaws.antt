-- What a client's request goes on with stays the same where it is told, where a server answered, and at its beginning and end it is nothing.
use Rattle.std.proofs.Common.{◌≡◌, ℕ, Bool, true, false, ◌||◌, ◌==◌, ◌++◌, cond, List, [], ◌∷◌, Option, Some, None, refl}
use Rattle.sd_rules.specs.declared.keys.Key.{Key}
use Rattle.sd_rules.specs.declared.keys.Key.TheVariants as keys
use Rattle.sd_rules.specs.declared.replies.Given.{Given}
use Rattle.sd_rules.specs.declared.scripts.Led.{Led}
use Rattle.sd_rules.specs.declared.scripts.LookupCourse.{LookupCourse}
use Rattle.sd_rules.specs.declared.scripts.LookupCourse.TheVariants as lookups
use Rattle.sd_rules.specs.declared.scripts.LookupStage.{LookupStage}
use Rattle.sd_rules.specs.declared.scripts.LookupStage.TheVariants as stages
use Rattle.sd_rules.specs.declared.scripts.LookupStep.{LookupStep}
use Rattle.sd_rules.specs.declared.scripts.LookupStep.TheVariants as steps
use Rattle.sd_rules.specs.declared.scripts.LoginStage.{LoginStage}
use Rattle.sd_rules.specs.declared.scripts.LoginStage.TheVariants as login_stages
use Rattle.sd_rules.specs.declared.scripts.LoginStep.{LoginStep}
use Rattle.sd_rules.specs.declared.scripts.LoginStep.TheVariants as login_steps
use Rattle.sd_rules.specs.declared.settings.Settings.{Settings}
use Rattle.sd_rules.specs.declared.tasks.Bound.{Bound}
use Rattle.sd_rules.specs.declared.tasks.Bound.TheVariants as bounds
use Rattle.sd_rules.specs.declared.tasks.Fetched.{Fetched}
use Rattle.sd_rules.specs.declared.tasks.Fetched.TheVariants as fetches
use Rattle.sd_rules.specs.declared.tasks.Need.TheVariants as needs
use Rattle.sd_rules.specs.declared.tasks.Said.{Said}
use Rattle.sd_rules.specs.AccessScript as checks
use Rattle.sd_rules.specs.AccessScript.{AccessWords, AccessCourse, access_need, access_replied, access_fetched, access_told, gathering, gathered, gather, ends_check}
use Rattle.sd_rules.specs.Closings as closings
use Rattle.sd_rules.specs.Closings.{Closing, closing_need, closing_replied, closing_fetched, closing_told, carried_out}
use Rattle.sd_rules.specs.LoginScript as logins
use Rattle.sd_rules.specs.LoginScript.{LoginCourse, LoginWords, login_course_need, login_course_replied, login_course_fetched, login_course_bound, login_course_told, login_begun, login_need, login_replied, login_bound, after_bind, after_code, finding, found_by, proving}
use Rattle.sd_rules.specs.Lookups.{lookup_need, lookup_replied, lookup_fetched, after_search, course_replied, course_fetched, course_told, looked, renewed, dn_said}
use Rattle.sd_rules.specs.Scripts.{need_at}
use Rattle.sd_wire.specs.declared.requests.Request.{Request}
use Rattle.sd_wire.specs.declared.requests.Request.TheVariants as requests
use Rattle.sd_engine.specs.Courses as courses
use Rattle.sd_engine.specs.Courses.{Course, LookingUp, LoggingIn, Checking, Ordering, script_of, told, replied, fetched, bound, with_hashing}
use Rattle.sd_engine.specs.Engines.{course_of}
use Rattle.sd_session.specs.Holding.{requests_of, stage_leads, stage_waits, stage_attempt, closing_leads, closing_waits, leads_in, waits_in, attempt_in, is_leading, renews_in, closing_renews, login_renews, access_renews, renews}
use Rattle.sd_session.proofs.HoldingLaws.{step_is_leading, leading_on}

-- the one request goes on with what the other goes on with
pub record SameHeld (c d : Course) : Type 0 where
  pub leads : leads_in d ≡ leads_in c
  pub attempt : attempt_in d ≡ attempt_in c
  pub waits : waits_in d ≡ waits_in c
  pub renewing : renews c ≡ true → renews d ≡ true

-- ---- once it was told

told_lookup : (key : Key) (course : LookupCourse) → SameHeld (LookingUp key course) (LookingUp key (course_told course))
told_lookup key (lookups.Looking stage) = record { leads = refl; attempt = refl; waits = refl; renewing = λ h. h }
told_lookup key (lookups.Saying said) = record { leads = refl; attempt = refl; waits = refl; renewing = λ h. refl }
told_lookup key (lookups.SayingFirst said request) = record { leads = refl; attempt = refl; waits = refl; renewing = λ h. refl }
told_lookup key (lookups.Renewing stage) = record { leads = refl; attempt = refl; waits = refl; renewing = λ h. h }
told_lookup key lookups.Over = record { leads = refl; attempt = refl; waits = refl; renewing = λ h. h }

-- the same of a closing
record SameClosing (c d : Closing) : Type 0 where
  pub leads : closing_leads d ≡ closing_leads c
  pub waits : closing_waits d ≡ closing_waits c
  pub renewing : closing_renews c ≡ true → closing_renews d ≡ true

told_closing : (closing : Closing) → SameClosing closing (closing_told closing)
told_closing (closings.Saying said []) = record { leads = refl; waits = refl; renewing = λ h. refl }
told_closing (closings.Saying said (l ∷ led)) = record { leads = refl; waits = refl; renewing = λ h. refl }
told_closing (closings.Renewing key stage led) = record { leads = refl; waits = refl; renewing = λ h. h }
told_closing closings.Over = record { leads = refl; waits = refl; renewing = λ h. h }

told_login : (words : courses.LoginWords) (course : LoginCourse) → SameHeld (LoggingIn words course) (LoggingIn words (login_course_told course))
told_login words (logins.Finding stage) = record { leads = refl; attempt = refl; waits = refl; renewing = λ h. h }
told_login words (logins.Proving dn led stage) = record { leads = refl; attempt = refl; waits = refl; renewing = λ h. h }
told_login words (logins.Closed closing) = let s = told_closing closing in record { leads = s.leads; attempt = refl; waits = s.waits; renewing = s.renewing }

told_access : (words : AccessWords) (course : AccessCourse) → SameHeld (Checking words course) (Checking words (access_told course))
told_access words (checks.Gathering key later led stage) = record { leads = refl; attempt = refl; waits = refl; renewing = λ h. h }
told_access words (checks.Checking led) = record { leads = refl; attempt = refl; waits = refl; renewing = λ h. h }
told_access words (checks.Closed closing) = let s = told_closing closing in record { leads = s.leads; attempt = refl; waits = s.waits; renewing = s.renewing }

pub told_held : (c : Course) → SameHeld c (told c)
told_held (LookingUp key course) = told_lookup key course
told_held (LoggingIn words course) = told_login words course
told_held (Checking words course) = told_access words course
told_held (Ordering course) = record { leads = refl; attempt = refl; waits = refl; renewing = λ h. refl }

-- ---- after a search

record SameStage (s t : LookupStage) : Type 0 where
  pub leads : (led : List ℕ) → stage_leads t led ≡ stage_leads s led
  pub waits : stage_waits t ≡ stage_waits s
  pub leading : is_leading s ≡ true → is_leading t ≡ true

searched : (request server : ℕ) (answer : Fetched) → SameStage (stages.Search request server) (after_search request server answer)
searched request server (fetches.Found found) = record { leads = λ led. refl; waits = refl; leading = λ h. refl }
searched request server fetches.Absent = record { leads = λ led. refl; waits = refl; leading = λ h. refl }
searched request server (fetches.Refused code) = record { leads = λ led. refl; waits = refl; leading = λ h. refl }
searched request server (fetches.Many count) = record { leads = λ led. refl; waits = refl; leading = λ h. refl }
searched request server (fetches.Failed why) = record { leads = λ led. refl; waits = refl; leading = λ h. refl }
searched request server fetches.Memory = record { leads = λ led. refl; waits = refl; leading = λ h. refl }

fetched_stage : (stage : LookupStage) (answer : Fetched) → SameStage stage (lookup_fetched stage answer)
fetched_stage (stages.Search request server) answer = searched request server answer
fetched_stage _ answer = record { leads = λ led. refl; waits = refl; leading = λ h. h }

fetched_lookup : (key : Key) (course : LookupCourse) (answer : Fetched) → SameHeld (LookingUp key course) (LookingUp key (course_fetched course answer))
fetched_lookup key (lookups.Looking stage) answer = let s = fetched_stage stage answer in record { leads = s.leads []; attempt = refl; waits = s.waits; renewing = λ h. h }
fetched_lookup key (lookups.Saying said) answer = record { leads = refl; attempt = refl; waits = refl; renewing = λ h. h }
fetched_lookup key (lookups.SayingFirst said request) answer = record { leads = refl; attempt = refl; waits = refl; renewing = λ h. h }
fetched_lookup key (lookups.Renewing stage) answer = let s = fetched_stage stage answer in record { leads = s.leads []; attempt = refl; waits = s.waits; renewing = s.leading }
fetched_lookup key lookups.Over answer = record { leads = refl; attempt = refl; waits = refl; renewing = λ h. h }

fetched_closing : (closing : Closing) (answer : Fetched) → SameClosing closing (closing_fetched closing answer)
fetched_closing (closings.Saying said led) answer = record { leads = refl; waits = refl; renewing = λ h. h }
fetched_closing (closings.Renewing key stage led) answer = let s = fetched_stage stage answer in record { leads = s.leads (requests_of led); waits = s.waits; renewing = s.leading }
fetched_closing closings.Over answer = record { leads = refl; waits = refl; renewing = λ h. h }

fetched_login : (words : courses.LoginWords) (course : LoginCourse) (answer : Fetched) → SameHeld (LoggingIn words course) (LoggingIn words (login_course_fetched course answer))
fetched_login words (logins.Finding stage) answer = let s = fetched_stage stage answer in record { leads = s.leads []; attempt = refl; waits = s.waits; renewing = λ h. h }
fetched_login words (logins.Proving dn led stage) answer = record { leads = refl; attempt = refl; waits = refl; renewing = λ h. h }
fetched_login words (logins.Closed closing) answer = let s = fetched_closing closing answer in record { leads = s.leads; attempt = refl; waits = s.waits; renewing = s.renewing }

fetched_access : (words : AccessWords) (course : AccessCourse) (answer : Fetched) → SameHeld (Checking words course) (Checking words (access_fetched course answer))
fetched_access words (checks.Gathering key later led stage) answer = let s = fetched_stage stage answer in record { leads = s.leads (requests_of led); attempt = refl; waits = s.waits; renewing = λ h. h }
fetched_access words (checks.Checking led) answer = record { leads = refl; attempt = refl; waits = refl; renewing = λ h. h }
fetched_access words (checks.Closed closing) answer = let s = fetched_closing closing answer in record { leads = s.leads; attempt = refl; waits = s.waits; renewing = s.renewing }

pub fetched_held : (c : Course) (answer : Fetched) → SameHeld c (fetched c answer)
fetched_held (LookingUp key course) answer = fetched_lookup key course answer
fetched_held (LoggingIn words course) answer = fetched_login words course answer
fetched_held (Checking words course) answer = fetched_access words course answer
fetched_held (Ordering course) answer = record { leads = refl; attempt = refl; waits = refl; renewing = λ h. refl }

-- ---- after a bind

either_attempt : (b : Bool) (x y : LoginStage) (a : Option ℕ) → stage_attempt x ≡ a → stage_attempt y ≡ a → stage_attempt (cond b x y) ≡ a
either_attempt true x y a f g = f
either_attempt false x y a f g = g

code_attempt : (words : LoginWords) (attempt server code : ℕ) → stage_attempt (after_code words attempt server code) ≡ Some attempt
code_attempt words attempt server code =
    either_attempt (code == 0) _ _ (Some attempt) refl (either_attempt (code == 49) _ _ (Some attempt) refl (either_attempt ((code == 51) || (code == 52)) _ _ (Some attempt) refl refl))

bind_attempt : (words : LoginWords) (attempt server : ℕ) (answer : Bound) → stage_attempt (after_bind words attempt server answer) ≡ Some attempt
bind_attempt words attempt server (bounds.Code code) = code_attempt words attempt server code
bind_attempt words attempt server (bounds.Failed why) = refl
bind_attempt words attempt server bounds.Memory = refl

bound_attempt : (words : LoginWords) (stage : LoginStage) (answer : Bound) → stage_attempt (login_bound words stage answer) ≡ stage_attempt stage
bound_attempt words (login_stages.Bind attempt server) answer = bind_attempt words attempt server answer
bound_attempt words _ answer = refl

bound_login : (words : courses.LoginWords) (hashed : LoginWords) (course : LoginCourse) (answer : Bound) → SameHeld (LoggingIn words course) (LoggingIn words (login_course_bound hashed course answer))
bound_login words hashed (logins.Finding stage) answer = record { leads = refl; attempt = refl; waits = refl; renewing = λ h. h }
bound_login words hashed (logins.Proving dn led stage) answer = record { leads = refl; attempt = bound_attempt hashed stage answer; waits = refl; renewing = λ h. h }
bound_login words hashed (logins.Closed closing) answer = record { leads = refl; attempt = refl; waits = refl; renewing = λ h. h }

pub bound_held : (seed : List ℕ) (c : Course) (answer : Bound) → SameHeld c (bound seed c answer)
bound_held seed (LookingUp key course) answer = record { leads = refl; attempt = refl; waits = refl; renewing = λ h. h }
bound_held seed (LoggingIn words course) answer = bound_login words (with_hashing seed words) course answer
bound_held seed (Checking words course) answer = record { leads = refl; attempt = refl; waits = refl; renewing = λ h. h }
bound_held seed (Ordering course) answer = record { leads = refl; attempt = refl; waits = refl; renewing = λ h. h }

-- ---- at first, and at the end

-- a request that leads nothing and waits for nothing
pub record HoldsNothing (c : Course) : Type 0 where
  pub leads : leads_in c ≡ []
  pub attempt : attempt_in c ≡ None
  pub waits : waits_in c ≡ None
  pub renewing : renews c ≡ true

login_first : (words : courses.LoginWords) (password : List ℕ) → HoldsNothing (LoggingIn words (login_begun password))
login_first words [] = record { leads = refl; attempt = refl; waits = refl; renewing = refl }
login_first words (byte ∷ password) = record { leads = refl; attempt = refl; waits = refl; renewing = refl }

pub first_holds_nothing : (settings : Settings) (request : Request) → HoldsNothing (course_of settings request)
first_holds_nothing settings (requests.Login user password) = login_first (record { user = user; password = password; stores = settings.cache_credentials }) password
first_holds_nothing settings _ = record { leads = refl; attempt = refl; waits = refl; renewing = refl }

never_ends : {P : Type 0} (key : Key) (stage : LookupStage) → lookup_need key stage ≡ needs.End → P
never_ends key stages.Ask e = let clash : ⊥ = cc in absurd clash
never_ends key (stages.Wait ticket) e = let clash : ⊥ = cc in absurd clash
never_ends key (stages.Pick r) e = let clash : ⊥ = cc in absurd clash
never_ends key (stages.Search r server) e = let clash : ⊥ = cc in absurd clash
never_ends key (stages.Answer r a) e = let clash : ⊥ = cc in absurd clash
never_ends key (stages.Refuse r refusal) e = let clash : ⊥ = cc in absurd clash
never_ends key (stages.Fall r server why) e = let clash : ⊥ = cc in absurd clash
never_ends key (stages.Outage r) e = let clash : ⊥ = cc in absurd clash

login_goes_on : {P : Type 0} (words : LoginWords) (dn : List ℕ) (stage : LoginStage) → login_need words dn stage ≡ needs.End → P
login_goes_on words dn login_stages.Open e = let clash : ⊥ = cc in absurd clash
login_goes_on words dn (login_stages.Try a named right) e = let clash : ⊥ = cc in absurd clash
login_goes_on words dn (login_stages.Pick a) e = let clash : ⊥ = cc in absurd clash
login_goes_on words dn (login_stages.Bind a server) e = let clash : ⊥ = cc in absurd clash
login_goes_on words dn (login_stages.Online a result) e = let clash : ⊥ = cc in absurd clash
login_goes_on words dn (login_stages.Fall a server why) e = let clash : ⊥ = cc in absurd clash
login_goes_on words dn (login_stages.Outage a) e = let clash : ⊥ = cc in absurd clash
login_goes_on words dn login_stages.Look e = let clash : ⊥ = cc in absurd clash
login_goes_on words dn (login_stages.Guess named right) e = let clash : ⊥ = cc in absurd clash

says_on : {P : Type 0} (said : Said) → needs.Say said ≡ needs.End → P
says_on said e = let clash : ⊥ = cc in absurd clash

-- what a request goes on with that needs nothing more
pub record GoesOnWithNothing (c : Course) : Type 0 where
  pub leads : leads_in c ≡ []
  pub attempt : attempt_in c ≡ None
  pub waits : waits_in c ≡ None

pub over_holds_nothing : (seed : List ℕ) (c : Course) → need_at (script_of seed c) ≡ needs.End → GoesOnWithNothing c
over_holds_nothing seed (LookingUp key (lookups.Looking stage)) e = never_ends key stage e
over_holds_nothing seed (LookingUp key (lookups.Saying said)) e = says_on said e
over_holds_nothing seed (LookingUp key (lookups.SayingFirst said r)) e = says_on said e
over_holds_nothing seed (LookingUp key (lookups.Renewing stage)) e = never_ends key stage e
over_holds_nothing seed (LookingUp key lookups.Over) e = record { leads = refl; attempt = refl; waits = refl }
over_holds_nothing seed (LoggingIn words (logins.Finding stage)) e = never_ends (keys.User words.user) stage e
over_holds_nothing seed (LoggingIn words (logins.Proving dn led stage)) e = login_goes_on (with_hashing seed words) dn stage e
over_holds_nothing seed (LoggingIn words (logins.Closed (closings.Saying said led))) e = says_on said e
over_holds_nothing seed (LoggingIn words (logins.Closed (closings.Renewing key stage led))) e = never_ends key stage e
over_holds_nothing seed (LoggingIn words (logins.Closed closings.Over)) e = record { leads = refl; attempt = refl; waits = refl }
over_holds_nothing seed (Checking words (checks.Gathering key later led stage)) e = never_ends key stage e
over_holds_nothing seed (Checking words (checks.Checking led)) e = let clash : ⊥ = cc in absurd clash
over_holds_nothing seed (Checking words (checks.Closed (closings.Saying said led))) e = says_on said e
over_holds_nothing seed (Checking words (checks.Closed (closings.Renewing key stage led))) e = never_ends key stage e
over_holds_nothing seed (Checking words (checks.Closed closings.Over)) e = record { leads = refl; attempt = refl; waits = refl }
over_holds_nothing seed (Ordering course) e = record { leads = refl; attempt = refl; waits = refl }

-- ---- what renews an answer leads its request, also after a reply

looked_renews : (step : LookupStep) → renews_in (looked step) ≡ true
looked_renews (steps.Next stage) = refl
looked_renews (steps.Ended said) = refl
looked_renews (steps.Renew said r) = refl

renewed_renews : (step : LookupStep) → step_is_leading step ≡ true → renews_in (renewed step) ≡ true
renewed_renews (steps.Next stage) h = h
renewed_renews (steps.Ended said) h = refl
renewed_renews (steps.Renew said r) h = refl

begun_renews : (led : List Led) → closing_renews (closings.begun led) ≡ true
begun_renews [] = refl
begun_renews (l ∷ led) = refl

carried_renews : (key : Key) (led : List Led) (step : LookupStep) → step_is_leading step ≡ true → closing_renews (carried_out key led step) ≡ true
carried_renews key led (steps.Next stage) h = h
carried_renews key led (steps.Ended said) h = begun_renews led
carried_renews key led (steps.Renew said r) h = begun_renews led

closing_on : (closing : Closing) (g : Given) → closing_renews closing ≡ true → closing_renews (closing_replied closing g) ≡ true
closing_on (closings.Saying said led) g h = refl
closing_on (closings.Renewing key stage led) g h = carried_renews key led (lookup_replied stage g) (leading_on stage g h)
closing_on closings.Over g h = refl

found_renews : (said : Said) (led : List Led) (dn : Option (List ℕ)) → login_renews (found_by said led dn) ≡ true
found_renews said led None = refl
found_renews said led (Some dn) = refl

finding_renews : (user : List ℕ) (step : LookupStep) → login_renews (finding user step) ≡ true
finding_renews user (steps.Next stage) = refl
finding_renews user (steps.Ended said) = found_renews said [] (dn_said said)
finding_renews user (steps.Renew said r) = found_renews said (record { request = r; key = keys.User user } ∷ []) (dn_said said)

proving_renews : (dn : List ℕ) (led : List Led) (step : LoginStep) → login_renews (proving dn led step) ≡ true
proving_renews dn led (login_steps.Next stage) = refl
proving_renews dn led (login_steps.Ended said) = refl

gather_renews : (later : List Key) (led : List Led) → access_renews (gather later led) ≡ true
gather_renews [] led = refl
gather_renews (key ∷ later) led = refl

either_renews : (b : Bool) (x y : AccessCourse) → access_renews x ≡ true → access_renews y ≡ true → access_renews (cond b x y) ≡ true
either_renews true x y f g = f
either_renews false x y f g = g

gathered_renews : (key : Key) (later : List Key) (led : List Led) (said : Said) → access_renews (gathered key later led said) ≡ true
gathered_renews key later led said = either_renews (ends_check key said) (checks.Closed (closings.Saying said led)) (gather later led) refl (gather_renews later led)

gathering_renews : (key : Key) (later : List Key) (led : List Led) (step : LookupStep) → access_renews (gathering key later led step) ≡ true
gathering_renews key later led (steps.Next stage) = refl
gathering_renews key later led (steps.Ended said) = gathered_renews key later led said
gathering_renews key later led (steps.Renew said r) = gathered_renews key later (led ++ record { request = r; key = key } ∷ []) said

lookup_on : (course : LookupCourse) (g : Given) → renews_in course ≡ true → renews_in (course_replied course g) ≡ true
lookup_on (lookups.Looking stage) g h = looked_renews (lookup_replied stage g)
lookup_on (lookups.Saying said) g h = refl
lookup_on (lookups.SayingFirst said r) g h = refl
lookup_on (lookups.Renewing stage) g h = renewed_renews (lookup_replied stage g) (leading_on stage g h)
lookup_on lookups.Over g h = refl

login_on : (words : LoginWords) (course : LoginCourse) (g : Given) → login_renews course ≡ true → login_renews (login_course_replied words course g) ≡ true
login_on words (logins.Finding stage) g h = finding_renews words.user (lookup_replied stage g)
login_on words (logins.Proving dn led stage) g h = proving_renews dn led (login_replied words stage g)
login_on words (logins.Closed closing) g h = closing_on closing g h

access_on : (course : AccessCourse) (g : Given) → access_renews course ≡ true → access_renews (access_replied course g) ≡ true
access_on (checks.Gathering key later led stage) g h = gathering_renews key later led (lookup_replied stage g)
access_on (checks.Checking led) g h = refl
access_on (checks.Closed closing) g h = closing_on closing g h

pub renews_on : (seed : List ℕ) (c : Course) (g : Given) → renews c ≡ true → renews (replied seed c g) ≡ true
renews_on seed (LookingUp key course) g h = lookup_on course g h
renews_on seed (LoggingIn words course) g h = login_on (with_hashing seed words) course g h
renews_on seed (Checking words course) g h = access_on course g h
renews_on seed (Ordering course) g h = refl
