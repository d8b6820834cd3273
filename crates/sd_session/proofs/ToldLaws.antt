-- A client is told once: after that its request says nothing more.
use Rattle.std.proofs.Common.{◌≡◌, ℕ, true, List, [], ◌∷◌, refl}
use Rattle.sd_rules.specs.declared.keys.Key.{Key}
use Rattle.sd_rules.specs.declared.keys.Key.TheVariants as keys
use Rattle.sd_rules.specs.declared.replies.Given.{Given}
use Rattle.sd_rules.specs.declared.scripts.Led.{Led}
use Rattle.sd_rules.specs.declared.scripts.LookupCourse.TheVariants as lookups
use Rattle.sd_rules.specs.declared.scripts.LookupStage.{LookupStage}
use Rattle.sd_rules.specs.declared.scripts.LookupStage.TheVariants as stages
use Rattle.sd_rules.specs.declared.scripts.LookupStep.{LookupStep}
use Rattle.sd_rules.specs.declared.scripts.LookupStep.TheVariants as steps
use Rattle.sd_rules.specs.declared.scripts.LoginStage.{LoginStage}
use Rattle.sd_rules.specs.declared.scripts.LoginStage.TheVariants as login_stages
use Rattle.sd_rules.specs.declared.tasks.Bound.{Bound}
use Rattle.sd_rules.specs.declared.tasks.Fetched.{Fetched}
use Rattle.sd_rules.specs.declared.tasks.Need.TheVariants as needs
use Rattle.sd_rules.specs.declared.tasks.Said.{Said}
use Rattle.sd_rules.specs.AccessScript as checks
use Rattle.sd_rules.specs.AccessScript.{AccessWords, AccessCourse, access_need, access_replied, access_told}
use Rattle.sd_rules.specs.Closings as closings
use Rattle.sd_rules.specs.Closings.{Closing, closing_need, closing_replied, closing_told, carried_out}
use Rattle.sd_rules.specs.LoginScript as logins
use Rattle.sd_rules.specs.LoginScript.{LoginCourse, LoginWords, login_course_need, login_course_told, login_need}
use Rattle.sd_rules.specs.Lookups.{lookup_need, lookup_replied, renewed}
use Rattle.sd_rules.specs.Scripts as scripts
use Rattle.sd_rules.specs.Scripts.{Stepping, Telling, need_at}
use Rattle.sd_engine.specs.Courses.{Course, LookingUp, LoggingIn, Checking, Ordering, script_of, told, replied, fetched, bound, with_hashing}
use Rattle.sd_session.specs.Holding.{lookup_is_told, closing_is_told, is_told}
use Rattle.sd_session.proofs.HoldingLaws.{untrue}

pub stage_says_nothing : {P : Type 0} (key : Key) (stage : LookupStage) (said : Said) → lookup_need key stage ≡ needs.Say said → P
stage_says_nothing key stages.Ask said e = let clash : ⊥ = cc in absurd clash
stage_says_nothing key (stages.Wait ticket) said e = let clash : ⊥ = cc in absurd clash
stage_says_nothing key (stages.Pick r) said e = let clash : ⊥ = cc in absurd clash
stage_says_nothing key (stages.Search r server) said e = let clash : ⊥ = cc in absurd clash
stage_says_nothing key (stages.Answer r a) said e = let clash : ⊥ = cc in absurd clash
stage_says_nothing key (stages.Refuse r refusal) said e = let clash : ⊥ = cc in absurd clash
stage_says_nothing key (stages.Fall r server why) said e = let clash : ⊥ = cc in absurd clash
stage_says_nothing key (stages.Outage r) said e = let clash : ⊥ = cc in absurd clash

pub login_says_nothing : {P : Type 0} (words : LoginWords) (dn : List ℕ) (stage : LoginStage) (said : Said) → login_need words dn stage ≡ needs.Say said → P
login_says_nothing words dn login_stages.Open said e = let clash : ⊥ = cc in absurd clash
login_says_nothing words dn (login_stages.Try a named right) said e = let clash : ⊥ = cc in absurd clash
login_says_nothing words dn (login_stages.Pick a) said e = let clash : ⊥ = cc in absurd clash
login_says_nothing words dn (login_stages.Bind a server) said e = let clash : ⊥ = cc in absurd clash
login_says_nothing words dn (login_stages.Online a result) said e = let clash : ⊥ = cc in absurd clash
login_says_nothing words dn (login_stages.Fall a server why) said e = let clash : ⊥ = cc in absurd clash
login_says_nothing words dn (login_stages.Outage a) said e = let clash : ⊥ = cc in absurd clash
login_says_nothing words dn login_stages.Look said e = let clash : ⊥ = cc in absurd clash
login_says_nothing words dn (login_stages.Guess named right) said e = let clash : ⊥ = cc in absurd clash

ends_silent : {P : Type 0} (said : Said) → needs.End ≡ needs.Say said → P
ends_silent said e = let clash : ⊥ = cc in absurd clash

-- who was told is told nothing more
pub says_nothing_more : {P : Type 0} (seed : List ℕ) (c : Course) (said : Said) → is_told c ≡ true → need_at (script_of seed c) ≡ needs.Say said → P
says_nothing_more seed (LookingUp key (lookups.Looking stage)) said h e = untrue h
says_nothing_more seed (LookingUp key (lookups.Saying other)) said h e = untrue h
says_nothing_more seed (LookingUp key (lookups.SayingFirst other r)) said h e = untrue h
says_nothing_more seed (LookingUp key (lookups.Renewing stage)) said h e = stage_says_nothing key stage said e
says_nothing_more seed (LookingUp key lookups.Over) said h e = ends_silent said e
says_nothing_more seed (LoggingIn words (logins.Finding stage)) said h e = untrue h
says_nothing_more seed (LoggingIn words (logins.Proving dn led stage)) said h e = untrue h
says_nothing_more seed (LoggingIn words (logins.Closed (closings.Saying other led))) said h e = untrue h
says_nothing_more seed (LoggingIn words (logins.Closed (closings.Renewing key stage led))) said h e = stage_says_nothing key stage said e
says_nothing_more seed (LoggingIn words (logins.Closed closings.Over)) said h e = ends_silent said e
says_nothing_more seed (Checking words (checks.Gathering key later led stage)) said h e = untrue h
says_nothing_more seed (Checking words (checks.Checking led)) said h e = untrue h
says_nothing_more seed (Checking words (checks.Closed (closings.Saying other led))) said h e = untrue h
says_nothing_more seed (Checking words (checks.Closed (closings.Renewing key stage led))) said h e = stage_says_nothing key stage said e
says_nothing_more seed (Checking words (checks.Closed closings.Over)) said h e = ends_silent said e
says_nothing_more seed (Ordering (Stepping event)) said h e = untrue h
says_nothing_more seed (Ordering (Telling n)) said h e = untrue h
says_nothing_more seed (Ordering scripts.Over) said h e = ends_silent said e

begun_is_told : (led : List Led) → closing_is_told (closings.begun led) ≡ true
begun_is_told [] = refl
begun_is_told (l ∷ led) = refl

-- what is said counts as told after it
pub told_once : (seed : List ℕ) (c : Course) (said : Said) → need_at (script_of seed c) ≡ needs.Say said → is_told (told c) ≡ true
told_once seed (LookingUp key (lookups.Looking stage)) said e = stage_says_nothing key stage said e
told_once seed (LookingUp key (lookups.Saying other)) said e = refl
told_once seed (LookingUp key (lookups.SayingFirst other r)) said e = refl
told_once seed (LookingUp key (lookups.Renewing stage)) said e = refl
told_once seed (LookingUp key lookups.Over) said e = refl
told_once seed (LoggingIn words (logins.Finding stage)) said e = stage_says_nothing (keys.User words.user) stage said e
told_once seed (LoggingIn words (logins.Proving dn led stage)) said e = login_says_nothing (with_hashing seed words) dn stage said e
told_once seed (LoggingIn words (logins.Closed (closings.Saying other led))) said e = begun_is_told led
told_once seed (LoggingIn words (logins.Closed (closings.Renewing key stage led))) said e = refl
told_once seed (LoggingIn words (logins.Closed closings.Over)) said e = refl
told_once seed (Checking words (checks.Gathering key later led stage)) said e = stage_says_nothing key stage said e
told_once seed (Checking words (checks.Checking led)) said e = let clash : ⊥ = cc in absurd clash
told_once seed (Checking words (checks.Closed (closings.Saying other led))) said e = begun_is_told led
told_once seed (Checking words (checks.Closed (closings.Renewing key stage led))) said e = refl
told_once seed (Checking words (checks.Closed closings.Over)) said e = refl
told_once seed (Ordering (Stepping event)) said e = let clash : ⊥ = cc in absurd clash
told_once seed (Ordering (Telling n)) said e = refl
told_once seed (Ordering scripts.Over) said e = refl

renewed_is_told : (step : LookupStep) → lookup_is_told (renewed step) ≡ true
renewed_is_told (steps.Next stage) = refl
renewed_is_told (steps.Ended said) = refl
renewed_is_told (steps.Renew said r) = refl

carried_is_told : (key : Key) (led : List Led) (step : LookupStep) → closing_is_told (carried_out key led step) ≡ true
carried_is_told key led (steps.Next stage) = refl
carried_is_told key led (steps.Ended said) = begun_is_told led
carried_is_told key led (steps.Renew said r) = begun_is_told led

closing_told_on : (closing : Closing) (g : Given) → closing_is_told closing ≡ true → closing_is_told (closing_replied closing g) ≡ true
closing_told_on (closings.Saying said led) g h = untrue h
closing_told_on (closings.Renewing key stage led) g h = carried_is_told key led (lookup_replied stage g)
closing_told_on closings.Over g h = refl

-- who was told stays told
pub told_replied : (seed : List ℕ) (c : Course) (g : Given) → is_told c ≡ true → is_told (replied seed c g) ≡ true
told_replied seed (LookingUp key (lookups.Looking stage)) g h = untrue h
told_replied seed (LookingUp key (lookups.Saying said)) g h = untrue h
told_replied seed (LookingUp key (lookups.SayingFirst said r)) g h = untrue h
told_replied seed (LookingUp key (lookups.Renewing stage)) g h = renewed_is_told (lookup_replied stage g)
told_replied seed (LookingUp key lookups.Over) g h = refl
told_replied seed (LoggingIn words (logins.Finding stage)) g h = untrue h
told_replied seed (LoggingIn words (logins.Proving dn led stage)) g h = untrue h
told_replied seed (LoggingIn words (logins.Closed closing)) g h = closing_told_on closing g h
told_replied seed (Checking words (checks.Gathering key later led stage)) g h = untrue h
told_replied seed (Checking words (checks.Checking led)) g h = untrue h
told_replied seed (Checking words (checks.Closed closing)) g h = closing_told_on closing g h
told_replied seed (Ordering (Stepping event)) g h = untrue h
told_replied seed (Ordering (Telling n)) g h = untrue h
told_replied seed (Ordering scripts.Over) g h = refl

closing_told_fetched : (closing : Closing) (answer : Fetched) → closing_is_told closing ≡ true → closing_is_told (closings.closing_fetched closing answer) ≡ true
closing_told_fetched (closings.Saying said led) answer h = untrue h
closing_told_fetched (closings.Renewing key stage led) answer h = refl
closing_told_fetched closings.Over answer h = refl

pub told_fetched : (c : Course) (answer : Fetched) → is_told c ≡ true → is_told (fetched c answer) ≡ true
told_fetched (LookingUp key (lookups.Looking stage)) answer h = untrue h
told_fetched (LookingUp key (lookups.Saying said)) answer h = untrue h
told_fetched (LookingUp key (lookups.SayingFirst said r)) answer h = untrue h
told_fetched (LookingUp key (lookups.Renewing stage)) answer h = refl
told_fetched (LookingUp key lookups.Over) answer h = refl
told_fetched (LoggingIn words (logins.Finding stage)) answer h = untrue h
told_fetched (LoggingIn words (logins.Proving dn led stage)) answer h = untrue h
told_fetched (LoggingIn words (logins.Closed closing)) answer h = closing_told_fetched closing answer h
told_fetched (Checking words (checks.Gathering key later led stage)) answer h = untrue h
told_fetched (Checking words (checks.Checking led)) answer h = untrue h
told_fetched (Checking words (checks.Closed closing)) answer h = closing_told_fetched closing answer h
told_fetched (Ordering course) answer h = h

pub told_bound : (seed : List ℕ) (c : Course) (answer : Bound) → is_told c ≡ true → is_told (bound seed c answer) ≡ true
told_bound seed (LookingUp key course) answer h = h
told_bound seed (LoggingIn words (logins.Finding stage)) answer h = untrue h
told_bound seed (LoggingIn words (logins.Proving dn led stage)) answer h = untrue h
told_bound seed (LoggingIn words (logins.Closed closing)) answer h = h
told_bound seed (Checking words course) answer h = h
told_bound seed (Ordering course) answer h = h
