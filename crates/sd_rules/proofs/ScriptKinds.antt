-- A script keeps records of the kinds of their keys, and what it tells can be told.
use Rattle.std.proofs.Common.{◌≡◌, ℕ, Bool, true, false, not, cond, List, [], ◌∷◌, ◌++◌, Option, Some, None, refl}
use Rattle.sd_rules.specs.declared.keys.Key.{Key}
use Rattle.sd_rules.specs.declared.keys.Key.TheVariants as keys
use Rattle.sd_rules.specs.declared.events.Hash.{Hash}
use Rattle.sd_rules.specs.declared.events.LoginResult.{LoginResult}
use Rattle.sd_rules.specs.declared.events.LoginResult.TheVariants as results
use Rattle.sd_rules.specs.declared.replies.By.{By}
use Rattle.sd_rules.specs.declared.replies.By.TheVariants as by
use Rattle.sd_rules.specs.declared.replies.Given.{Given}
use Rattle.sd_rules.specs.declared.replies.NotBy.{NotBy}
use Rattle.sd_rules.specs.declared.replies.NotBy.TheVariants as not_by
use Rattle.sd_rules.specs.declared.replies.Reply.{Reply}
use Rattle.sd_rules.specs.declared.replies.Reply.TheVariants as replies
use Rattle.sd_rules.specs.declared.replies.Verdict.{Verdict}
use Rattle.sd_rules.specs.declared.replies.Verdict.TheVariants as verdicts
use Rattle.sd_rules.specs.declared.scripts.Led.{Led}
use Rattle.sd_rules.specs.declared.scripts.LookupStep.{LookupStep}
use Rattle.sd_rules.specs.declared.scripts.LookupStep.TheVariants as steps
use Rattle.sd_rules.specs.declared.scripts.LoginStage.{LoginStage}
use Rattle.sd_rules.specs.declared.scripts.LoginStage.TheVariants as stages
use Rattle.sd_rules.specs.declared.scripts.LoginStep.{LoginStep}
use Rattle.sd_rules.specs.declared.scripts.LoginStep.TheVariants as login_steps
use Rattle.sd_rules.specs.declared.tasks.Bound.{Bound}
use Rattle.sd_rules.specs.declared.tasks.Fetched.{Fetched}
use Rattle.sd_rules.specs.declared.tasks.Said.{Said}
use Rattle.sd_rules.specs.declared.tasks.Said.TheVariants as says
use Rattle.sd_rules.specs.Keys.{is_user_key}
use Rattle.sd_rules.specs.Lookups.{lookup_replied, is_said_of_kind, is_step_of_kind, is_sayable, is_client_key, dn_said}
use Rattle.sd_rules.specs.Closings.{Closing, Saying, Renewing, Over, begun, carried_out, closing_need, closing_told, closing_replied, closing_fetched, closing_key, is_closing_of_kind}
use Rattle.sd_rules.specs.LoginScript.{LoginWords, LoginCourse, login_need, login_replied, online_said, after_cached, after_open, after_try, after_login_pick, after_online, after_login_fall, after_login_outage, after_hash, after_look, after_verdict, after_guess, found_by, finding, proving, login_course_need, login_course_told, login_course_replied, login_course_fetched, login_course_bound, login_key, is_login_of_kind}
use Rattle.sd_rules.specs.LoginScript as logins
use Rattle.sd_rules.specs.AccessScript.{AccessWords, AccessCourse, is_some_dn, is_no_answer, ends_check, gather, gathered, gathering, rule_said, access_said, access_need, access_told, access_replied, access_fetched, access_key, is_access_of_kind}
use Rattle.sd_rules.specs.AccessScript as checks
use Rattle.sd_rules.specs.Scripts.{answers_search, fits_found, is_need_of_kind, is_tellable}
use Rattle.sd_rules.proofs.LookupKinds.{replied_of_kind, fetched_of_kind, stage_search_of_kind, need_of_kind, no_saying, sayable_of_kind}

begun_of_kind : (led : List Led) → is_closing_of_kind (begun led) ≡ true
begun_of_kind [] = refl
begun_of_kind (first ∷ led) = refl

carried_of_kind : (key : Key) (led : List Led) (step : LookupStep) →
    is_step_of_kind key step ≡ true → is_closing_of_kind (carried_out key led step) ≡ true
carried_of_kind key led (steps.Next stage) h = h
carried_of_kind key led (steps.Ended said) h = begun_of_kind led
carried_of_kind key led (steps.Renew said request) h = begun_of_kind led

pub closing_told_of_kind : (closing : Closing) →
    is_closing_of_kind closing ≡ true → is_closing_of_kind (closing_told closing) ≡ true
closing_told_of_kind (Saying said led) s = begun_of_kind led
closing_told_of_kind (Renewing key stage led) s = s
closing_told_of_kind Over s = refl

pub closing_replied_of_kind : (closing : Closing) (given : Given) → is_closing_of_kind closing ≡ true →
    fits_found (closing_key closing) given.found ≡ true → is_closing_of_kind (closing_replied closing given) ≡ true
closing_replied_of_kind (Saying said led) given s h = s
closing_replied_of_kind (Renewing key stage led) given s h =
    carried_of_kind key led (lookup_replied stage given) (replied_of_kind key stage given s h)
closing_replied_of_kind Over given s h = refl

pub closing_fetched_of_kind : (closing : Closing) (fetched : Fetched) → is_closing_of_kind closing ≡ true →
    answers_search (closing_need closing) fetched ≡ true → is_closing_of_kind (closing_fetched closing fetched) ≡ true
closing_fetched_of_kind (Saying said led) fetched s h = s
closing_fetched_of_kind (Renewing key stage led) fetched s h =
    fetched_of_kind key stage fetched s (stage_search_of_kind key stage fetched h)
closing_fetched_of_kind Over fetched s h = refl

pub closing_need_of_kind : (closing : Closing) → is_closing_of_kind closing ≡ true →
    is_need_of_kind (closing_key closing) (closing_need closing) ≡ true
closing_need_of_kind (Saying said led) s = refl
closing_need_of_kind (Renewing key stage led) s = need_of_kind key stage s
closing_need_of_kind Over s = refl

pub closing_need_tellable : (closing : Closing) → is_closing_of_kind closing ≡ true →
    is_tellable (closing_need closing) ≡ true
closing_need_tellable (Saying said led) s = s
closing_need_tellable (Renewing key stage led) s = no_saying key stage
closing_need_tellable Over s = refl

-- of a login
found_login : (user : List ℕ) (said : Said) (led : List Led) (dn : Option (List ℕ)) (words : LoginWords) →
    is_sayable said ≡ true → is_login_of_kind words (found_by said led dn) ≡ true
found_login user said led (Some dn) words h = refl
found_login user said led None words h = h

pub finding_of_kind : (words : LoginWords) (step : LookupStep) → is_step_of_kind (keys.User words.user) step ≡ true →
    is_login_of_kind words (finding words.user step) ≡ true
finding_of_kind words (steps.Next stage) h = h
finding_of_kind words (steps.Ended said) h =
    found_login words.user said [] (dn_said said) words (sayable_of_kind (keys.User words.user) said refl h)
finding_of_kind words (steps.Renew said request) h =
    found_login words.user said (record { request = request; key = keys.User words.user } ∷ []) (dn_said said) words
    (sayable_of_kind (keys.User words.user) said refl h)

abbrev is_step_sayable : LoginStep → Bool
is_step_sayable (login_steps.Next stage) = true
is_step_sayable (login_steps.Ended said) = is_sayable said

proving_of_kind : (words : LoginWords) (dn : List ℕ) (led : List Led) (step : LoginStep) →
    is_step_sayable step ≡ true → is_login_of_kind words (proving dn led step) ≡ true
proving_of_kind words dn led (login_steps.Next stage) h = refl
proving_of_kind words dn led (login_steps.Ended said) h = h

cached_sayable : (words : LoginWords) (attempt named : ℕ) (hash : Option Hash) →
    is_step_sayable (after_cached words attempt named hash) ≡ true
cached_sayable words attempt named (Some hash) = refl
cached_sayable words attempt named None = refl

open_sayable : (words : LoginWords) (number : ℕ) (hash : Option Hash) (reply : Reply) →
    is_step_sayable (after_open words number hash reply) ≡ true
open_sayable words number hash (replies.Cached attempt named) = cached_sayable words attempt named hash
open_sayable words number hash _ = refl

try_sayable : (attempt number : ℕ) (reply : Reply) → is_step_sayable (after_try attempt number reply) ≡ true
try_sayable attempt number (replies.Tried verdicts.Accepted) = refl
try_sayable attempt number _ = refl

pick_sayable : (attempt number : ℕ) (reply : Reply) → is_step_sayable (after_login_pick attempt number reply) ≡ true
pick_sayable attempt number (replies.Server server) = refl
pick_sayable attempt number _ = refl

online_sayable : (number : ℕ) (result : LoginResult) → is_sayable (online_said number result) ≡ true
online_sayable number (results.Right hash) = refl
online_sayable number results.Wrong = refl
online_sayable number (results.Refused code) = refl

after_online_sayable : (result : LoginResult) (number : ℕ) (reply : Reply) →
    is_step_sayable (after_online result number reply) ≡ true
after_online_sayable result number replies.Closed = online_sayable number result
after_online_sayable result number _ = refl

fall_sayable : (attempt number : ℕ) (reply : Reply) → is_step_sayable (after_login_fall attempt number reply) ≡ true
fall_sayable attempt number replies.Noted = refl
fall_sayable attempt number _ = refl

outage_sayable : (attempt number : ℕ) (reply : Reply) → is_step_sayable (after_login_outage attempt number reply) ≡ true
outage_sayable attempt number (replies.Servable server) = refl
outage_sayable attempt number _ = refl

hash_sayable : (words : LoginWords) (number named : ℕ) (hash : Option Hash) →
    is_step_sayable (after_hash words number named hash) ≡ true
hash_sayable words number named (Some hash) = refl
hash_sayable words number named None = refl

look_sayable : (words : LoginWords) (number : ℕ) (hash : Option Hash) (reply : Reply) →
    is_step_sayable (after_look words number hash reply) ≡ true
look_sayable words number hash (replies.Hash named) = hash_sayable words number named hash
look_sayable words number hash _ = refl

verdict_sayable : (number : ℕ) (verdict : Verdict) → is_step_sayable (after_verdict number verdict) ≡ true
verdict_sayable number verdicts.Unknown = refl
verdict_sayable number _ = refl

guess_sayable : (number : ℕ) (reply : Reply) → is_step_sayable (after_guess number reply) ≡ true
guess_sayable number (replies.Judged verdict) = verdict_sayable number verdict
guess_sayable number _ = refl

login_sayable : (words : LoginWords) (stage : LoginStage) (given : Given) →
    is_step_sayable (login_replied words stage given) ≡ true
login_sayable words stages.Open given = open_sayable words given.number given.hash given.reply
login_sayable words (stages.Try attempt named right) given = try_sayable attempt given.number given.reply
login_sayable words (stages.Pick attempt) given = pick_sayable attempt given.number given.reply
login_sayable words (stages.Bind attempt server) given = refl
login_sayable words (stages.Online attempt result) given = after_online_sayable result given.number given.reply
login_sayable words (stages.Fall attempt server why) given = fall_sayable attempt given.number given.reply
login_sayable words (stages.Outage attempt) given = outage_sayable attempt given.number given.reply
login_sayable words stages.Look given = look_sayable words given.number given.hash given.reply
login_sayable words (stages.Guess named right) given = guess_sayable given.number given.reply

pub login_told_of_kind : (words : LoginWords) (course : LoginCourse) →
    is_login_of_kind words course ≡ true → is_login_of_kind words (login_course_told course) ≡ true
login_told_of_kind words (logins.Finding stage) s = s
login_told_of_kind words (logins.Proving dn led stage) s = refl
login_told_of_kind words (logins.Closed closing) s = closing_told_of_kind closing s

pub login_replied_of_kind : (words : LoginWords) (course : LoginCourse) (given : Given) →
    is_login_of_kind words course ≡ true → fits_found (login_key words course) given.found ≡ true →
    is_login_of_kind words (login_course_replied words course given) ≡ true
login_replied_of_kind words (logins.Finding stage) given s h =
    finding_of_kind words (lookup_replied stage given) (replied_of_kind (keys.User words.user) stage given s h)
login_replied_of_kind words (logins.Proving dn led stage) given s h =
    proving_of_kind words dn led (login_replied words stage given) (login_sayable words stage given)
login_replied_of_kind words (logins.Closed closing) given s h = closing_replied_of_kind closing given s h

pub login_fetched_of_kind : (words : LoginWords) (course : LoginCourse) (fetched : Fetched) →
    is_login_of_kind words course ≡ true → answers_search (login_course_need words course) fetched ≡ true →
    is_login_of_kind words (login_course_fetched course fetched) ≡ true
login_fetched_of_kind words (logins.Finding stage) fetched s h =
    fetched_of_kind (keys.User words.user) stage fetched s (stage_search_of_kind (keys.User words.user) stage fetched h)
login_fetched_of_kind words (logins.Proving dn led stage) fetched s h = refl
login_fetched_of_kind words (logins.Closed closing) fetched s h = closing_fetched_of_kind closing fetched s h

pub login_bound_of_kind : (words : LoginWords) (course : LoginCourse) (bound : Bound) →
    is_login_of_kind words course ≡ true → is_login_of_kind words (login_course_bound words course bound) ≡ true
login_bound_of_kind words (logins.Finding stage) bound s = s
login_bound_of_kind words (logins.Proving dn led stage) bound s = refl
login_bound_of_kind words (logins.Closed closing) bound s = s

proving_need_of_kind : (words : LoginWords) (dn : List ℕ) (stage : LoginStage) →
    is_tellable (login_need words dn stage) ≡ true
proving_need_of_kind words dn stages.Open = refl
proving_need_of_kind words dn _ = refl

pub login_need_of_kind : (words : LoginWords) (course : LoginCourse) → is_login_of_kind words course ≡ true →
    is_need_of_kind (login_key words course) (login_course_need words course) ≡ true
login_need_of_kind words (logins.Finding stage) s = need_of_kind (keys.User words.user) stage s
login_need_of_kind words (logins.Proving dn led stage) s = refl
login_need_of_kind words (logins.Closed closing) s = closing_need_of_kind closing s

pub login_need_tellable : (words : LoginWords) (course : LoginCourse) → is_login_of_kind words course ≡ true →
    is_tellable (login_course_need words course) ≡ true
login_need_tellable words (logins.Finding stage) s = no_saying (keys.User words.user) stage
login_need_tellable words (logins.Proving dn led stage) s = proving_need_of_kind words dn stage
login_need_tellable words (logins.Closed closing) s = closing_need_tellable closing s

-- of an account check
user_is_client : (key : Key) → is_user_key key ≡ true → is_client_key key ≡ true
user_is_client keys.Host h = cc
user_is_client keys.Rules h = cc
user_is_client _ h = refl

no_answer_sayable : (said : Said) → is_no_answer said ≡ true → is_sayable said ≡ true
no_answer_sayable (says.Found n found) h = cc
no_answer_sayable (says.Old n o found) h = cc
no_answer_sayable _ h = refl

by_user : (user a b : Bool) (said : Said) → cond user a b ≡ true → (user ≡ true → is_sayable said ≡ true) →
    (b ≡ true → is_sayable said ≡ true) → is_sayable said ≡ true
by_user true a b said h f g = f refl
by_user false a b said h f g = g h

ends_sayable : (key : Key) (said : Said) → is_said_of_kind key said ≡ true → ends_check key said ≡ true →
    is_sayable said ≡ true
ends_sayable key said k h =
    by_user (is_user_key key) (not (is_some_dn (dn_said said))) (is_no_answer said) said h
    (λ u. sayable_of_kind key said (user_is_client key u) k) (no_answer_sayable said)

gather_of_kind : (keys : List Key) (led : List Led) → is_access_of_kind (gather keys led) ≡ true
gather_of_kind [] led = refl
gather_of_kind (key ∷ keys) led = refl

gathered_by : (ends : Bool) (keys : List Key) (led : List Led) (said : Said) →
    (ends ≡ true → is_sayable said ≡ true) →
    is_access_of_kind (cond ends (checks.Closed (Saying said led)) (gather keys led)) ≡ true
gathered_by true keys led said f = f refl
gathered_by false keys led said f = gather_of_kind keys led

gathered_of_kind : (key : Key) (keys : List Key) (led : List Led) (said : Said) → is_said_of_kind key said ≡ true →
    is_access_of_kind (gathered key keys led said) ≡ true
gathered_of_kind key keys led said k = gathered_by (ends_check key said) keys led said (ends_sayable key said k)

gathering_of_kind : (key : Key) (keys : List Key) (led : List Led) (step : LookupStep) →
    is_step_of_kind key step ≡ true → is_access_of_kind (gathering key keys led step) ≡ true
gathering_of_kind key keys led (steps.Next stage) h = h
gathering_of_kind key keys led (steps.Ended said) h = gathered_of_kind key keys led said h
gathering_of_kind key keys led (steps.Renew said request) h =
    gathered_of_kind key keys (led ++ record { request = request; key = key } ∷ []) said h

rule_sayable : (number : ℕ) (rule : Option (List ℕ)) → is_sayable (rule_said number rule) ≡ true
rule_sayable number (Some name) = refl
rule_sayable number None = refl

granted_sayable : (number : ℕ) (rule : Option (List ℕ)) (granter : By) →
    is_sayable (access_said number rule (replies.Granted granter)) ≡ true
granted_sayable number rule by.Permit = refl
granted_sayable number rule by.Simple = refl
granted_sayable number rule (by.Rule n place) = rule_sayable number rule

denied_sayable : (number : ℕ) (rule : Option (List ℕ)) (denier : NotBy) →
    is_sayable (access_said number rule (replies.Denied denier)) ≡ true
denied_sayable number rule not_by.Deny = refl
denied_sayable number rule not_by.Simple = refl
denied_sayable number rule not_by.NoRule = refl

access_sayable : (number : ℕ) (rule : Option (List ℕ)) (reply : Reply) →
    is_sayable (access_said number rule reply) ≡ true
access_sayable number rule (replies.Granted granter) = granted_sayable number rule granter
access_sayable number rule (replies.Denied denier) = denied_sayable number rule denier
access_sayable number rule _ = refl

pub access_told_of_kind : (course : AccessCourse) →
    is_access_of_kind course ≡ true → is_access_of_kind (access_told course) ≡ true
access_told_of_kind (checks.Gathering key keys led stage) s = s
access_told_of_kind (checks.Checking led) s = refl
access_told_of_kind (checks.Closed closing) s = closing_told_of_kind closing s

pub access_replied_of_kind : (course : AccessCourse) (given : Given) → is_access_of_kind course ≡ true →
    fits_found (access_key course) given.found ≡ true → is_access_of_kind (access_replied course given) ≡ true
access_replied_of_kind (checks.Gathering key keys led stage) given s h =
    gathering_of_kind key keys led (lookup_replied stage given) (replied_of_kind key stage given s h)
access_replied_of_kind (checks.Checking led) given s h = access_sayable given.number given.rule given.reply
access_replied_of_kind (checks.Closed closing) given s h = closing_replied_of_kind closing given s h

pub access_fetched_of_kind : (words : AccessWords) (course : AccessCourse) (fetched : Fetched) →
    is_access_of_kind course ≡ true → answers_search (access_need words course) fetched ≡ true →
    is_access_of_kind (access_fetched course fetched) ≡ true
access_fetched_of_kind words (checks.Gathering key keys led stage) fetched s h =
    fetched_of_kind key stage fetched s (stage_search_of_kind key stage fetched h)
access_fetched_of_kind words (checks.Checking led) fetched s h = refl
access_fetched_of_kind words (checks.Closed closing) fetched s h = closing_fetched_of_kind closing fetched s h

pub access_need_of_kind : (words : AccessWords) (course : AccessCourse) → is_access_of_kind course ≡ true →
    is_need_of_kind (access_key course) (access_need words course) ≡ true
access_need_of_kind words (checks.Gathering key keys led stage) s = need_of_kind key stage s
access_need_of_kind words (checks.Checking led) s = refl
access_need_of_kind words (checks.Closed closing) s = closing_need_of_kind closing s

pub access_need_tellable : (words : AccessWords) (course : AccessCourse) → is_access_of_kind course ≡ true →
    is_tellable (access_need words course) ≡ true
access_need_tellable words (checks.Gathering key keys led stage) s = no_saying key stage
access_need_tellable words (checks.Checking led) s = refl
access_need_tellable words (checks.Closed closing) s = closing_need_tellable closing s
