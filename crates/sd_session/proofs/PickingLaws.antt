-- A server is asked only directly behind a Pick that was replied that server: over each script.
use Rattle.std.proofs.Common.{◌≡◌, ◌∙◌, ℕ, Bool, true, false, ◌||◌, ◌==◌, cond, List, [], ◌∷◌, ◌++◌, Option, Some, None, refl, sym, ap, subst}
use Rattle.sd_rules.specs.declared.keys.Key.{Key}
use Rattle.sd_rules.specs.declared.keys.Key.TheVariants as keys
use Rattle.sd_rules.specs.declared.records.Record.{Record}
use Rattle.sd_rules.specs.declared.records.Answered.{Answered}
use Rattle.sd_rules.specs.declared.events.Event.{Event}
use Rattle.sd_rules.specs.declared.events.Event.TheVariants as events
use Rattle.sd_rules.specs.declared.events.Hash.{Hash}
use Rattle.sd_rules.specs.declared.events.LoginResult.{LoginResult}
use Rattle.sd_rules.specs.declared.events.Refusal.{Refusal}
use Rattle.sd_rules.specs.declared.replies.Entry.{Entry}
use Rattle.sd_rules.specs.declared.replies.Given.{Given}
use Rattle.sd_rules.specs.declared.replies.Reply.{Reply}
use Rattle.sd_rules.specs.declared.replies.Reply.TheVariants as replies
use Rattle.sd_rules.specs.declared.replies.Verdict.{Verdict}
use Rattle.sd_rules.specs.declared.replies.Verdict.TheVariants as verdicts
use Rattle.sd_rules.specs.declared.scripts.Led.{Led}
use Rattle.sd_rules.specs.declared.scripts.LookupCourse.{LookupCourse}
use Rattle.sd_rules.specs.declared.scripts.LookupCourse.TheVariants as lookups
use Rattle.sd_rules.specs.declared.scripts.LookupStage.{LookupStage}
use Rattle.sd_rules.specs.declared.scripts.LookupStage.TheVariants as stages
use Rattle.sd_rules.specs.declared.scripts.LookupStep.{LookupStep}
use Rattle.sd_rules.specs.declared.scripts.LookupStep.TheVariants as steps
use Rattle.sd_rules.specs.declared.scripts.LoginStage.{LoginStage}
use Rattle.sd_rules.specs.declared.scripts.LoginStage.TheVariants as login_stages
use Rattle.sd_rules.specs.declared.scripts.LoginStep.{LoginStep}
use Rattle.sd_rules.specs.declared.scripts.LoginStep.TheVariants as login_steps
use Rattle.sd_rules.specs.declared.settings.Settings.{Settings}
use Rattle.sd_rules.specs.declared.tasks.Bound.{Bound}
use Rattle.sd_rules.specs.declared.tasks.Bound.TheVariants as bounds
use Rattle.sd_rules.specs.declared.tasks.Fetched.{Fetched}
use Rattle.sd_rules.specs.declared.tasks.Fetched.TheVariants as fetches
use Rattle.sd_rules.specs.declared.tasks.Need.{Need}
use Rattle.sd_rules.specs.declared.tasks.Need.TheVariants as needs
use Rattle.sd_rules.specs.declared.tasks.Said.{Said}
use Rattle.sd_rules.specs.AccessScript as checks
use Rattle.sd_rules.specs.AccessScript.{AccessWords, AccessCourse, access_need, access_replied, gathering, gathered, gather, ends_check}
use Rattle.sd_rules.specs.Closings as closings
use Rattle.sd_rules.specs.Closings.{Closing, closing_need, closing_replied, closing_fetched, carried_out}
use Rattle.sd_rules.specs.LoginScript as logins
use Rattle.sd_rules.specs.LoginScript.{LoginCourse, LoginWords, login_course_need, login_need, login_replied, login_bound, login_begun, after_bind, after_code, finding, found_by, proving, after_open, after_cached, after_try, after_login_pick, after_online, after_login_fall, after_login_outage, after_look, after_hash, after_guess, after_verdict}
use Rattle.sd_rules.specs.Lookups.{lookup_need, lookup_replied, lookup_fetched, after_search, course_need, looked, renewed, dn_said, after_ask, after_collect, after_pick, after_answer, after_refuse, after_fall, after_outage}
use Rattle.sd_rules.specs.Scripts as scripts
use Rattle.sd_rules.specs.Scripts.{Stepping, Telling, event_of, need_at, is_out_of_memory, is_bind_out_of_memory}
use Rattle.sd_wire.specs.declared.requests.Request.{Request}
use Rattle.sd_wire.specs.declared.requests.Request.TheVariants as requests
use Rattle.sd_engine.specs.Courses.{Client, Course, LookingUp, LoggingIn, Checking, Ordering, script_of, told, replied, fetched, bound, with_hashing, need_of, client_replied}
use Rattle.sd_engine.specs.Engines.{course_of}
use Rattle.sd_session.proofs.ToldLaws.{stage_says_nothing, login_says_nothing}
use Rattle.sd_session.specs.Picking.{server_asked, asks_at, PicksServer, is_hit_or_join, AsksBehindPick, IsBehindPick}

none_is : {P : Type 0} {n : ℕ} → None ≡ Some n → P
none_is e = let clash : ⊥ = cc in absurd clash

no_event : {P : Type 0} {e : Event} → None ≡ Some e → P
no_event h = let clash : ⊥ = cc in absurd clash

-- ---- a lookup

-- the need that a step of a lookup leads to
abbrev step_need : Key → LookupStep → Need
step_need key (steps.Next stage) = lookup_need key stage
step_need key (steps.Ended said) = needs.Say said
step_need key (steps.Renew said request) = needs.Say said

ask_asks : (key : Key) (number : ℕ) (found : Option Record) (reply : Reply) → server_asked (step_need key (after_ask number found reply)) ≡ None
ask_asks key number found (replies.Join r t) = refl
ask_asks key number found (replies.Lead r) = refl
ask_asks key number found _ = refl

collect_asks : (key : Key) (ticket number : ℕ) (found : Option Record) (reply : Reply) → server_asked (step_need key (after_collect ticket number found reply)) ≡ None
collect_asks key ticket number found (replies.NotYet r) = refl
collect_asks key ticket number found _ = refl

answer_asks : (key : Key) (r : ℕ) (a : Answered) (number : ℕ) (reply : Reply) → server_asked (step_need key (after_answer r a number reply)) ≡ None
answer_asks key r a number (replies.Again void) = refl
answer_asks key r a number _ = refl

refuse_asks : (key : Key) (refusal : Refusal) (number : ℕ) (reply : Reply) → server_asked (step_need key (after_refuse refusal number reply)) ≡ None
refuse_asks key refusal number replies.Closed = refl
refuse_asks key refusal number _ = refl

fall_asks : (key : Key) (r number : ℕ) (reply : Reply) → server_asked (step_need key (after_fall r number reply)) ≡ None
fall_asks key r number replies.Noted = refl
fall_asks key r number replies.NotPicked = refl
fall_asks key r number _ = refl

outage_asks : (key : Key) (r number : ℕ) (found : Option Record) (reply : Reply) → server_asked (step_need key (after_outage r number found reply)) ≡ None
outage_asks key r number found (replies.Servable server) = refl
outage_asks key r number found _ = refl

same_server : (a b : ℕ) → Some a ≡ Some b → a ≡ b
same_server a b e = cc

pick_is : (r : ℕ) (event : Event) → Some (events.Pick r) ≡ Some event → event ≡ events.Pick r
pick_is r event e = cc

pick_asks : (key : Key) (r number : ℕ) (event : Event) (reply : Reply) (server : ℕ) → Some (events.Pick r) ≡ Some event → server_asked (step_need key (after_pick r number reply)) ≡ Some server → PicksServer event reply server
pick_asks key r number event (replies.Server picked) server e h = record { request = r; pick = pick_is r event e; picked = ap replies.Server (same_server picked server h) }
pick_asks key r number event replies.NoServer server e h = none_is h
pick_asks key r number event _ server e h = none_is h

stage_asks : (key : Key) (stage : LookupStage) (g : Given) (event : Event) (server : ℕ) → event_of (lookup_need key stage) ≡ Some event → server_asked (step_need key (lookup_replied stage g)) ≡ Some server → PicksServer event g.reply server
stage_asks key stages.Ask g event server e h = none_is (sym (ask_asks key g.number g.found g.reply) ∙ h)
stage_asks key (stages.Wait ticket) g event server e h = none_is (sym (collect_asks key ticket g.number g.found g.reply) ∙ h)
stage_asks key (stages.Pick r) g event server e h = pick_asks key r g.number event g.reply server e h
stage_asks key (stages.Search r s) g event server e h = no_event e
stage_asks key (stages.Answer r a) g event server e h = none_is (sym (answer_asks key r a g.number g.reply) ∙ h)
stage_asks key (stages.Refuse r refusal) g event server e h = none_is (sym (refuse_asks key refusal g.number g.reply) ∙ h)
stage_asks key (stages.Fall r s why) g event server e h = none_is (sym (fall_asks key r g.number g.reply) ∙ h)
stage_asks key (stages.Outage r) g event server e h = none_is (sym (outage_asks key r g.number g.found g.reply) ∙ h)

-- ---- what a step of a lookup leads to in each script

looked_asks : (key : Key) (step : LookupStep) → server_asked (course_need key (looked step)) ≡ server_asked (step_need key step)
looked_asks key (steps.Next stage) = refl
looked_asks key (steps.Ended said) = refl
looked_asks key (steps.Renew said r) = refl

renewed_asks : (key : Key) (step : LookupStep) → server_asked (course_need key (renewed step)) ≡ server_asked (step_need key step)
renewed_asks key (steps.Next stage) = refl
renewed_asks key (steps.Ended said) = refl
renewed_asks key (steps.Renew said r) = refl

begun_asks : (led : List Led) → server_asked (closing_need (closings.begun led)) ≡ None
begun_asks [] = refl
begun_asks (l ∷ led) = refl

carried_asks : (key : Key) (led : List Led) (step : LookupStep) → server_asked (closing_need (carried_out key led step)) ≡ server_asked (step_need key step)
carried_asks key led (steps.Next stage) = refl
carried_asks key led (steps.Ended said) = begun_asks led
carried_asks key led (steps.Renew said r) = begun_asks led

found_asks : (words : LoginWords) (said : Said) (led : List Led) (dn : Option (List ℕ)) → server_asked (login_course_need words (found_by said led dn)) ≡ None
found_asks words said led None = refl
found_asks words said led (Some dn) = refl

finding_asks : (words : LoginWords) (step : LookupStep) → server_asked (login_course_need words (finding words.user step)) ≡ server_asked (step_need (keys.User words.user) step)
finding_asks words (steps.Next stage) = refl
finding_asks words (steps.Ended said) = found_asks words said [] (dn_said said)
finding_asks words (steps.Renew said r) = found_asks words said (record { request = r; key = keys.User words.user } ∷ []) (dn_said said)

gather_asks : (words : AccessWords) (later : List Key) (led : List Led) → server_asked (access_need words (gather later led)) ≡ None
gather_asks words [] led = refl
gather_asks words (key ∷ later) led = refl

either_asks : (words : AccessWords) (b : Bool) (x y : AccessCourse) → server_asked (access_need words x) ≡ None → server_asked (access_need words y) ≡ None → server_asked (access_need words (cond b x y)) ≡ None
either_asks words true x y f g = f
either_asks words false x y f g = g

gathered_asks : (words : AccessWords) (key : Key) (later : List Key) (led : List Led) (said : Said) → server_asked (access_need words (gathered key later led said)) ≡ None
gathered_asks words key later led said = either_asks words (ends_check key said) (checks.Closed (closings.Saying said led)) (gather later led) refl (gather_asks words later led)

gathering_asks : (words : AccessWords) (key : Key) (later : List Key) (led : List Led) (step : LookupStep) → server_asked (access_need words (gathering key later led step)) ≡ server_asked (step_need key step)
gathering_asks words key later led (steps.Next stage) = refl
gathering_asks words key later led (steps.Ended said) = gathered_asks words key later led said
gathering_asks words key later led (steps.Renew said r) = gathered_asks words key later (led ++ record { request = r; key = key } ∷ []) said

-- ---- a login

abbrev login_step_need : LoginWords → List ℕ → LoginStep → Need
login_step_need words dn (login_steps.Next stage) = login_need words dn stage
login_step_need words dn (login_steps.Ended said) = needs.Say said

cached_asks : (words : LoginWords) (dn : List ℕ) (attempt named : ℕ) (hash : Option Hash) → server_asked (login_step_need words dn (after_cached words attempt named hash)) ≡ None
cached_asks words dn attempt named None = refl
cached_asks words dn attempt named (Some hash) = refl

open_asks : (words : LoginWords) (dn : List ℕ) (number : ℕ) (hash : Option Hash) (reply : Reply) → server_asked (login_step_need words dn (after_open words number hash reply)) ≡ None
open_asks words dn number hash (replies.Offline outage) = refl
open_asks words dn number hash (replies.Cached attempt named) = cached_asks words dn attempt named hash
open_asks words dn number hash (replies.Bind attempt) = refl
open_asks words dn number hash _ = refl

tried_asks : (words : LoginWords) (dn : List ℕ) (attempt number : ℕ) (verdict : Verdict) → server_asked (login_step_need words dn (after_try attempt number (replies.Tried verdict))) ≡ None
tried_asks words dn attempt number verdicts.Accepted = refl
tried_asks words dn attempt number _ = refl

try_asks : (words : LoginWords) (dn : List ℕ) (attempt number : ℕ) (reply : Reply) → server_asked (login_step_need words dn (after_try attempt number reply)) ≡ None
try_asks words dn attempt number (replies.Tried verdict) = tried_asks words dn attempt number verdict
try_asks words dn attempt number _ = refl

online_asks : (words : LoginWords) (dn : List ℕ) (result : LoginResult) (number : ℕ) (reply : Reply) → server_asked (login_step_need words dn (after_online result number reply)) ≡ None
online_asks words dn result number replies.Closed = refl
online_asks words dn result number _ = refl

login_fall_asks : (words : LoginWords) (dn : List ℕ) (attempt number : ℕ) (reply : Reply) → server_asked (login_step_need words dn (after_login_fall attempt number reply)) ≡ None
login_fall_asks words dn attempt number replies.Noted = refl
login_fall_asks words dn attempt number replies.NotPicked = refl
login_fall_asks words dn attempt number _ = refl

login_outage_asks : (words : LoginWords) (dn : List ℕ) (attempt number : ℕ) (reply : Reply) → server_asked (login_step_need words dn (after_login_outage attempt number reply)) ≡ None
login_outage_asks words dn attempt number (replies.Servable server) = refl
login_outage_asks words dn attempt number replies.Closed = refl
login_outage_asks words dn attempt number _ = refl

hash_asks : (words : LoginWords) (dn : List ℕ) (number named : ℕ) (hash : Option Hash) → server_asked (login_step_need words dn (after_hash words number named hash)) ≡ None
hash_asks words dn number named None = refl
hash_asks words dn number named (Some hash) = refl

look_asks : (words : LoginWords) (dn : List ℕ) (number : ℕ) (hash : Option Hash) (reply : Reply) → server_asked (login_step_need words dn (after_look words number hash reply)) ≡ None
look_asks words dn number hash (replies.Hash named) = hash_asks words dn number named hash
look_asks words dn number hash _ = refl

verdict_asks : (words : LoginWords) (dn : List ℕ) (number : ℕ) (verdict : Verdict) → server_asked (login_step_need words dn (after_verdict number verdict)) ≡ None
verdict_asks words dn number (verdicts.Stale newest) = refl
verdict_asks words dn number _ = refl

guess_asks : (words : LoginWords) (dn : List ℕ) (number : ℕ) (reply : Reply) → server_asked (login_step_need words dn (after_guess number reply)) ≡ None
guess_asks words dn number (replies.Judged verdict) = verdict_asks words dn number verdict
guess_asks words dn number _ = refl

login_pick_asks : (words : LoginWords) (dn : List ℕ) (attempt number : ℕ) (event : Event) (reply : Reply) (server : ℕ) → Some (events.Pick attempt) ≡ Some event → server_asked (login_step_need words dn (after_login_pick attempt number reply)) ≡ Some server → PicksServer event reply server
login_pick_asks words dn attempt number event (replies.Server picked) server e h = record { request = attempt; pick = pick_is attempt event e; picked = ap replies.Server (same_server picked server h) }
login_pick_asks words dn attempt number event replies.NoServer server e h = none_is h
login_pick_asks words dn attempt number event _ server e h = none_is h

attempt_asks : (words : LoginWords) (dn : List ℕ) (stage : LoginStage) (g : Given) (event : Event) (server : ℕ) → event_of (login_need words dn stage) ≡ Some event → server_asked (login_step_need words dn (login_replied words stage g)) ≡ Some server → PicksServer event g.reply server
attempt_asks words dn login_stages.Open g event server e h = none_is (sym (open_asks words dn g.number g.hash g.reply) ∙ h)
attempt_asks words dn (login_stages.Try a named right) g event server e h = none_is (sym (try_asks words dn a g.number g.reply) ∙ h)
attempt_asks words dn (login_stages.Pick a) g event server e h = login_pick_asks words dn a g.number event g.reply server e h
attempt_asks words dn (login_stages.Bind a s) g event server e h = no_event e
attempt_asks words dn (login_stages.Online a result) g event server e h = none_is (sym (online_asks words dn result g.number g.reply) ∙ h)
attempt_asks words dn (login_stages.Fall a s why) g event server e h = none_is (sym (login_fall_asks words dn a g.number g.reply) ∙ h)
attempt_asks words dn (login_stages.Outage a) g event server e h = none_is (sym (login_outage_asks words dn a g.number g.reply) ∙ h)
attempt_asks words dn login_stages.Look g event server e h = none_is (sym (look_asks words dn g.number g.hash g.reply) ∙ h)
attempt_asks words dn (login_stages.Guess named right) g event server e h = none_is (sym (guess_asks words dn g.number g.reply) ∙ h)

proving_asks : (words : LoginWords) (dn : List ℕ) (led : List Led) (step : LoginStep) → server_asked (login_course_need words (proving dn led step)) ≡ server_asked (login_step_need words dn step)
proving_asks words dn led (login_steps.Next stage) = refl
proving_asks words dn led (login_steps.Ended said) = refl

-- ---- after a reply

closing_asks : (closing : Closing) (g : Given) (event : Event) (server : ℕ) → event_of (closing_need closing) ≡ Some event → server_asked (closing_need (closing_replied closing g)) ≡ Some server → PicksServer event g.reply server
closing_asks (closings.Saying said led) g event server e h = no_event e
closing_asks (closings.Renewing key stage led) g event server e h = stage_asks key stage g event server e (sym (carried_asks key led (lookup_replied stage g)) ∙ h)
closing_asks closings.Over g event server e h = no_event e

replied_asks : (seed : List ℕ) (c : Course) (event : Event) (g : Given) (server : ℕ) → event_of (need_at (script_of seed c)) ≡ Some event → server_asked (need_at (script_of seed (replied seed c g))) ≡ Some server → PicksServer event g.reply server
replied_asks seed (LookingUp key (lookups.Looking stage)) event g server e h = stage_asks key stage g event server e (sym (looked_asks key (lookup_replied stage g)) ∙ h)
replied_asks seed (LookingUp key (lookups.Saying said)) event g server e h = no_event e
replied_asks seed (LookingUp key (lookups.SayingFirst said r)) event g server e h = no_event e
replied_asks seed (LookingUp key (lookups.Renewing stage)) event g server e h = stage_asks key stage g event server e (sym (renewed_asks key (lookup_replied stage g)) ∙ h)
replied_asks seed (LookingUp key lookups.Over) event g server e h = no_event e
replied_asks seed (LoggingIn words (logins.Finding stage)) event g server e h = stage_asks (keys.User words.user) stage g event server e (sym (finding_asks (with_hashing seed words) (lookup_replied stage g)) ∙ h)
replied_asks seed (LoggingIn words (logins.Proving dn led stage)) event g server e h =
    attempt_asks (with_hashing seed words) dn stage g event server e (sym (proving_asks (with_hashing seed words) dn led (login_replied (with_hashing seed words) stage g)) ∙ h)
replied_asks seed (LoggingIn words (logins.Closed closing)) event g server e h = closing_asks closing g event server e h
replied_asks seed (Checking words (checks.Gathering key later led stage)) event g server e h = stage_asks key stage g event server e (sym (gathering_asks words key later led (lookup_replied stage g)) ∙ h)
replied_asks seed (Checking words (checks.Checking led)) event g server e h = none_is h
replied_asks seed (Checking words (checks.Closed closing)) event g server e h = closing_asks closing g event server e h
replied_asks seed (Ordering (Stepping order)) event g server e h = none_is h
replied_asks seed (Ordering (Telling n)) event g server e h = no_event e
replied_asks seed (Ordering scripts.Over) event g server e h = no_event e

-- ---- once a client was told

closing_told_asks : (closing : Closing) (said : Said) → closing_need closing ≡ needs.Say said → server_asked (closing_need (closings.closing_told closing)) ≡ None
closing_told_asks (closings.Saying other led) said e = begun_asks led
closing_told_asks (closings.Renewing key stage led) said e = stage_says_nothing key stage said e
closing_told_asks closings.Over said e = refl

told_asks : (seed : List ℕ) (c : Course) (said : Said) → need_at (script_of seed c) ≡ needs.Say said → server_asked (need_at (script_of seed (told c))) ≡ None
told_asks seed (LookingUp key (lookups.Looking stage)) said e = stage_says_nothing key stage said e
told_asks seed (LookingUp key (lookups.Saying other)) said e = refl
told_asks seed (LookingUp key (lookups.SayingFirst other r)) said e = refl
told_asks seed (LookingUp key (lookups.Renewing stage)) said e = stage_says_nothing key stage said e
told_asks seed (LookingUp key lookups.Over) said e = refl
told_asks seed (LoggingIn words (logins.Finding stage)) said e = stage_says_nothing (keys.User words.user) stage said e
told_asks seed (LoggingIn words (logins.Proving dn led stage)) said e = login_says_nothing (with_hashing seed words) dn stage said e
told_asks seed (LoggingIn words (logins.Closed closing)) said e = closing_told_asks closing said e
told_asks seed (Checking words (checks.Gathering key later led stage)) said e = stage_says_nothing key stage said e
told_asks seed (Checking words (checks.Checking led)) said e = refl
told_asks seed (Checking words (checks.Closed closing)) said e = closing_told_asks closing said e
told_asks seed (Ordering (Stepping order)) said e = refl
told_asks seed (Ordering (Telling n)) said e = refl
told_asks seed (Ordering scripts.Over) said e = refl

-- ---- once a server has answered

search_asks : (key : Key) (r server : ℕ) (answer : Fetched) → is_out_of_memory answer ≡ false → server_asked (lookup_need key (after_search r server answer)) ≡ None
search_asks key r server (fetches.Found found) h = refl
search_asks key r server fetches.Absent h = refl
search_asks key r server (fetches.Refused code) h = refl
search_asks key r server (fetches.Many count) h = refl
search_asks key r server (fetches.Failed why) h = refl
search_asks key r server fetches.Memory h = let clash : ⊥ = cc in absurd clash

stage_fetched_asks : (key : Key) (stage : LookupStage) (answer : Fetched) → is_out_of_memory answer ≡ false → server_asked (lookup_need key (lookup_fetched stage answer)) ≡ None
stage_fetched_asks key stages.Ask answer h = refl
stage_fetched_asks key (stages.Wait ticket) answer h = refl
stage_fetched_asks key (stages.Pick r) answer h = refl
stage_fetched_asks key (stages.Search r server) answer h = search_asks key r server answer h
stage_fetched_asks key (stages.Answer r a) answer h = refl
stage_fetched_asks key (stages.Refuse r refusal) answer h = refl
stage_fetched_asks key (stages.Fall r server why) answer h = refl
stage_fetched_asks key (stages.Outage r) answer h = refl

-- a login that binds searches nothing
attempt_fetches_nothing : {P : Type 0} (words : LoginWords) (dn : List ℕ) (stage : LoginStage) (server : ℕ) (key : Key) → login_need words dn stage ≡ needs.Fetch server key → P
attempt_fetches_nothing words dn login_stages.Open server key e = let clash : ⊥ = cc in absurd clash
attempt_fetches_nothing words dn (login_stages.Try a named right) server key e = let clash : ⊥ = cc in absurd clash
attempt_fetches_nothing words dn (login_stages.Pick a) server key e = let clash : ⊥ = cc in absurd clash
attempt_fetches_nothing words dn (login_stages.Bind a s) server key e = let clash : ⊥ = cc in absurd clash
attempt_fetches_nothing words dn (login_stages.Online a result) server key e = let clash : ⊥ = cc in absurd clash
attempt_fetches_nothing words dn (login_stages.Fall a s why) server key e = let clash : ⊥ = cc in absurd clash
attempt_fetches_nothing words dn (login_stages.Outage a) server key e = let clash : ⊥ = cc in absurd clash
attempt_fetches_nothing words dn login_stages.Look server key e = let clash : ⊥ = cc in absurd clash
attempt_fetches_nothing words dn (login_stages.Guess named right) server key e = let clash : ⊥ = cc in absurd clash

closing_fetched_asks : (closing : Closing) (answer : Fetched) → is_out_of_memory answer ≡ false → server_asked (closing_need (closing_fetched closing answer)) ≡ None
closing_fetched_asks (closings.Saying said led) answer h = refl
closing_fetched_asks (closings.Renewing key stage led) answer h = stage_fetched_asks key stage answer h
closing_fetched_asks closings.Over answer h = refl

fetched_asks : (seed : List ℕ) (c : Course) (answer : Fetched) (server : ℕ) (key : Key) → need_at (script_of seed c) ≡ needs.Fetch server key → is_out_of_memory answer ≡ false → server_asked (need_at (script_of seed (fetched c answer))) ≡ None
fetched_asks seed (LookingUp k (lookups.Looking stage)) answer server key e h = stage_fetched_asks k stage answer h
fetched_asks seed (LookingUp k (lookups.Saying said)) answer server key e h = refl
fetched_asks seed (LookingUp k (lookups.SayingFirst said r)) answer server key e h = refl
fetched_asks seed (LookingUp k (lookups.Renewing stage)) answer server key e h = stage_fetched_asks k stage answer h
fetched_asks seed (LookingUp k lookups.Over) answer server key e h = refl
fetched_asks seed (LoggingIn words (logins.Finding stage)) answer server key e h = stage_fetched_asks (keys.User words.user) stage answer h
fetched_asks seed (LoggingIn words (logins.Proving dn led stage)) answer server key e h = attempt_fetches_nothing (with_hashing seed words) dn stage server key e
fetched_asks seed (LoggingIn words (logins.Closed closing)) answer server key e h = closing_fetched_asks closing answer h
fetched_asks seed (Checking words (checks.Gathering k later led stage)) answer server key e h = stage_fetched_asks k stage answer h
fetched_asks seed (Checking words (checks.Checking led)) answer server key e h = refl
fetched_asks seed (Checking words (checks.Closed closing)) answer server key e h = closing_fetched_asks closing answer h
fetched_asks seed (Ordering (Stepping order)) answer server key e h = refl
fetched_asks seed (Ordering (Telling n)) answer server key e h = refl
fetched_asks seed (Ordering scripts.Over) answer server key e h = refl

-- what is recorded of a result code
code_by : (words : LoginWords) (dn : List ℕ) (b c d : Bool) (w x y z : LoginStage) → server_asked (login_need words dn w) ≡ None → server_asked (login_need words dn x) ≡ None → server_asked (login_need words dn y) ≡ None → server_asked (login_need words dn z) ≡ None
    → server_asked (login_need words dn (cond b w (cond c x (cond d y z)))) ≡ None
code_by words dn true c d w x y z e f g h = e
code_by words dn false true d w x y z e f g h = f
code_by words dn false false true w x y z e f g h = g
code_by words dn false false false w x y z e f g h = h

bind_asks : (words : LoginWords) (dn : List ℕ) (attempt server : ℕ) (answer : Bound) → is_bind_out_of_memory answer ≡ false → server_asked (login_need words dn (after_bind words attempt server answer)) ≡ None
bind_asks words dn attempt server (bounds.Code code) h = code_by words dn (code == 0) (code == 49) ((code == 51) || (code == 52)) _ _ _ _ refl refl refl refl
bind_asks words dn attempt server (bounds.Failed why) h = refl
bind_asks words dn attempt server bounds.Memory h = let clash : ⊥ = cc in absurd clash

attempt_bound_asks : (words : LoginWords) (dn : List ℕ) (stage : LoginStage) (answer : Bound) → is_bind_out_of_memory answer ≡ false → server_asked (login_need words dn (login_bound words stage answer)) ≡ None
attempt_bound_asks words dn login_stages.Open answer h = refl
attempt_bound_asks words dn (login_stages.Try a named right) answer h = refl
attempt_bound_asks words dn (login_stages.Pick a) answer h = refl
attempt_bound_asks words dn (login_stages.Bind a s) answer h = bind_asks words dn a s answer h
attempt_bound_asks words dn (login_stages.Online a result) answer h = refl
attempt_bound_asks words dn (login_stages.Fall a s why) answer h = refl
attempt_bound_asks words dn (login_stages.Outage a) answer h = refl
attempt_bound_asks words dn login_stages.Look answer h = refl
attempt_bound_asks words dn (login_stages.Guess named right) answer h = refl

-- a lookup binds nothing
stage_binds_nothing : {P : Type 0} (key : Key) (stage : LookupStage) (server : ℕ) (dn password : List ℕ) → lookup_need key stage ≡ needs.Bind server dn password → P
stage_binds_nothing key stages.Ask server dn password e = let clash : ⊥ = cc in absurd clash
stage_binds_nothing key (stages.Wait ticket) server dn password e = let clash : ⊥ = cc in absurd clash
stage_binds_nothing key (stages.Pick r) server dn password e = let clash : ⊥ = cc in absurd clash
stage_binds_nothing key (stages.Search r s) server dn password e = let clash : ⊥ = cc in absurd clash
stage_binds_nothing key (stages.Answer r a) server dn password e = let clash : ⊥ = cc in absurd clash
stage_binds_nothing key (stages.Refuse r refusal) server dn password e = let clash : ⊥ = cc in absurd clash
stage_binds_nothing key (stages.Fall r s why) server dn password e = let clash : ⊥ = cc in absurd clash
stage_binds_nothing key (stages.Outage r) server dn password e = let clash : ⊥ = cc in absurd clash

closing_bound_asks : (closing : Closing) (server : ℕ) (dn password : List ℕ) → closing_need closing ≡ needs.Bind server dn password → server_asked (closing_need closing) ≡ None
closing_bound_asks (closings.Saying said led) server dn password e = refl
closing_bound_asks (closings.Renewing key stage led) server dn password e = stage_binds_nothing key stage server dn password e
closing_bound_asks closings.Over server dn password e = refl

bound_asks : (seed : List ℕ) (c : Course) (answer : Bound) (server : ℕ) (dn password : List ℕ) → need_at (script_of seed c) ≡ needs.Bind server dn password → is_bind_out_of_memory answer ≡ false → server_asked (need_at (script_of seed (bound seed c answer))) ≡ None
bound_asks seed (LookingUp key (lookups.Looking stage)) answer server dn password e h = stage_binds_nothing key stage server dn password e
bound_asks seed (LookingUp key (lookups.Saying said)) answer server dn password e h = refl
bound_asks seed (LookingUp key (lookups.SayingFirst said r)) answer server dn password e h = refl
bound_asks seed (LookingUp key (lookups.Renewing stage)) answer server dn password e h = stage_binds_nothing key stage server dn password e
bound_asks seed (LookingUp key lookups.Over) answer server dn password e h = refl
bound_asks seed (LoggingIn words (logins.Finding stage)) answer server dn password e h = stage_binds_nothing (keys.User words.user) stage server dn password e
bound_asks seed (LoggingIn words (logins.Proving d led stage)) answer server dn password e h = attempt_bound_asks (with_hashing seed words) d stage answer h
bound_asks seed (LoggingIn words (logins.Closed closing)) answer server dn password e h = closing_bound_asks closing server dn password e
bound_asks seed (Checking words (checks.Gathering key later led stage)) answer server dn password e h = stage_binds_nothing key stage server dn password e
bound_asks seed (Checking words (checks.Checking led)) answer server dn password e h = refl
bound_asks seed (Checking words (checks.Closed closing)) answer server dn password e h = closing_bound_asks closing server dn password e
bound_asks seed (Ordering (Stepping order)) answer server dn password e h = refl
bound_asks seed (Ordering (Telling n)) answer server dn password e h = refl
bound_asks seed (Ordering scripts.Over) answer server dn password e h = refl

-- ---- at its beginning

login_begun_asks : (seed : List ℕ) (words : LoginWords) (password : List ℕ) → server_asked (login_course_need words (login_begun password)) ≡ None
login_begun_asks seed words [] = refl
login_begun_asks seed words (byte ∷ bytes) = refl

first_asks : (seed : List ℕ) (settings : Settings) (request : Request) → server_asked (need_at (script_of seed (course_of settings request))) ≡ None
first_asks seed settings (requests.User name) = refl
first_asks seed settings (requests.Uid uid) = refl
first_asks seed settings (requests.Group name) = refl
first_asks seed settings (requests.Gid gid) = refl
first_asks seed settings (requests.GroupsOf name) = refl
first_asks seed settings (requests.Login user password) = login_begun_asks seed (with_hashing seed (record { user = user; password = password; stores = settings.cache_credentials })) password
first_asks seed settings (requests.Access user service) = refl
first_asks seed settings (requests.Void what) = refl
first_asks seed settings requests.Offline = refl
first_asks seed settings requests.Online = refl
first_asks seed settings requests.Stop = refl

-- ---- all of it

-- a reply that is a server is no hit and no Join
no_hit : {P : Type 0} (reply : Reply) (server : ℕ) → reply ≡ replies.Server server → is_hit_or_join reply ≡ true → P
no_hit reply server is h = let clash : false ≡ true = sym (ap is_hit_or_join is) ∙ h in let e : ⊥ = cc in absurd e

by_server : (o : Option ℕ) → ((server : ℕ) → o ≡ Some server → o ≡ None) → o ≡ None
by_server None f = refl
by_server (Some server) f = f server refl

pub asks_behind_pick : AsksBehindPick
asks_behind_pick = record {
  first = first_asks;
  replied = λ c event given server e h. replied_asks c.seed c.course event given server e h;
  told = λ c said e. told_asks c.seed c.course said e;
  fetched = λ c answer server key e h. fetched_asks c.seed c.course answer server key e h;
  bound = λ c answer server dn password e h. bound_asks c.seed c.course answer server dn password e h;
  hit_or_join = λ c event given e h. by_server (server_asked (need_of (client_replied c given))) (λ server asks. no_hit given.reply server (replied_asks c.seed c.course event given server e asks).picked h);
}

-- a need that asks no server needs none picked
pub behind_nothing : (client : Option Client) (own : List Entry) → asks_at client ≡ None → IsBehindPick client own
behind_nothing client own none = λ server asks. none_is (sym none ∙ asks)

-- the last own entry is the step of the event, and its reply is what was given
pub behind_step : (c : Client) (event : Event) (g : Given) (own : List Entry) (last : Entry) → event_of (need_of c) ≡ Some event → last.event ≡ event → last.reply ≡ g.reply → IsBehindPick (Some (client_replied c g)) (own ++ last ∷ [])
behind_step c event g own last e is gives = λ server asks.
    let picks = replied_asks c.seed c.course event g server e asks in
    record { earlier = own; last = last; are = refl; picks = record { request = picks.request; pick = is ∙ picks.pick; picked = gives ∙ picks.picked } }
