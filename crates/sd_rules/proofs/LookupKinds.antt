-- A lookup keeps records of the kind that its key asks for.
use Rattle.std.proofs.Common.{◌≡◌, ℕ, true, Option, Some, None, refl}
use Rattle.sd_rules.specs.declared.keys.Key.{Key}
use Rattle.sd_rules.specs.declared.keys.Key.TheVariants as keys
use Rattle.sd_rules.specs.declared.records.Record.{Record}
use Rattle.sd_rules.specs.declared.records.Record.TheVariants as records
use Rattle.sd_rules.specs.declared.records.Answered.{Answered}
use Rattle.sd_rules.specs.declared.records.Answered.TheVariants as answers
use Rattle.sd_rules.specs.declared.events.Refusal.{Refusal}
use Rattle.sd_rules.specs.declared.events.Refusal.TheVariants as refusals
use Rattle.sd_rules.specs.declared.replies.Given.{Given}
use Rattle.sd_rules.specs.declared.replies.Outcome.{Outcome}
use Rattle.sd_rules.specs.declared.replies.Outcome.TheVariants as outcomes
use Rattle.sd_rules.specs.declared.replies.Reply.{Reply}
use Rattle.sd_rules.specs.declared.replies.Reply.TheVariants as replies
use Rattle.sd_rules.specs.declared.scripts.LookupCourse.{LookupCourse}
use Rattle.sd_rules.specs.declared.scripts.LookupCourse.TheVariants as courses
use Rattle.sd_rules.specs.declared.scripts.LookupStage.{LookupStage}
use Rattle.sd_rules.specs.declared.scripts.LookupStage.TheVariants.{Ask, Wait, Pick, Search, Answer, Refuse, Fall, Outage}
use Rattle.sd_rules.specs.declared.scripts.LookupStep.{LookupStep}
use Rattle.sd_rules.specs.declared.scripts.LookupStep.TheVariants.{Next, Ended, Renew}
use Rattle.sd_rules.specs.declared.tasks.Fetched.{Fetched}
use Rattle.sd_rules.specs.declared.tasks.Fetched.TheVariants as fetches
use Rattle.sd_rules.specs.declared.tasks.Said.{Said}
use Rattle.sd_rules.specs.declared.tasks.Said.TheVariants as says
use Rattle.sd_rules.specs.Keys.{is_of_kind}
use Rattle.sd_rules.specs.Scripts.{is_need_of_kind, is_tellable, answers_search, awaits_reply, fits_found}
use Rattle.sd_rules.specs.Lookups.{lookup_need, course_need, course_key, found_said, old_said, refusal_said, outcome_said, answered_said, after_ask, after_collect, after_pick, after_answer, after_refuse, after_fall, after_outage, lookup_replied, after_search, lookup_fetched, is_said_of_kind, is_stage_of_kind, is_step_of_kind, is_course_of_kind, is_fetched_of_kind, is_found_of_kind, is_client_key, is_client_record, is_sayable, looked, renewed, course_replied, course_fetched, course_told}

found_of_kind : (key : Key) (number n : ℕ) (found : Option Record) →
    is_found_of_kind key found ≡ true → is_said_of_kind key (found_said number n found) ≡ true
found_of_kind key number n (Some found) h = h
found_of_kind key number n None h = refl

old_of_kind : (key : Key) (number n o : ℕ) (found : Option Record) →
    is_found_of_kind key found ≡ true → is_said_of_kind key (old_said number n o found) ≡ true
old_of_kind key number n o (Some found) h = h
old_of_kind key number n o None h = refl

refusal_of_kind : (key : Key) (refusal : Refusal) → is_said_of_kind key (refusal_said refusal) ≡ true
refusal_of_kind key (refusals.Code code) = refl
refusal_of_kind key (refusals.Many count) = refl

outcome_of_kind : (key : Key) (number : ℕ) (found : Option Record) (outcome : Outcome) →
    is_found_of_kind key found ≡ true → is_said_of_kind key (outcome_said number found outcome) ≡ true
outcome_of_kind key number found (outcomes.Found n) h = found_of_kind key number n found h
outcome_of_kind key number found (outcomes.Old n o) h = old_of_kind key number n o found h
outcome_of_kind key number found (outcomes.Refused refusal) h = refusal_of_kind key refusal
outcome_of_kind key number found _ h = refl

ask_of_kind : (key : Key) (number : ℕ) (found : Option Record) (reply : Reply) →
    is_found_of_kind key found ≡ true → is_step_of_kind key (after_ask number found reply) ≡ true
ask_of_kind key number found (replies.Fresh n) h = found_of_kind key number n found h
ask_of_kind key number found (replies.Refresh n request) h = found_of_kind key number n found h
ask_of_kind key number found (replies.Old n o) h = old_of_kind key number n o found h
ask_of_kind key number found _ h = refl

collect_of_kind : (key : Key) (ticket number : ℕ) (found : Option Record) (reply : Reply) →
    is_found_of_kind key found ≡ true → is_step_of_kind key (after_collect ticket number found reply) ≡ true
collect_of_kind key ticket number found (replies.Took outcome) h = outcome_of_kind key number found outcome h
collect_of_kind key ticket number found _ h = refl

pick_of_kind : (key : Key) (request number : ℕ) (reply : Reply) →
    is_step_of_kind key (after_pick request number reply) ≡ true
pick_of_kind key request number (replies.Server server) = refl
pick_of_kind key request number _ = refl

answered_of_kind : (key : Key) (request number : ℕ) (answered : Answered) →
    is_stage_of_kind key (Answer request answered) ≡ true → is_said_of_kind key (answered_said number answered) ≡ true
answered_of_kind key request number (answers.Found found) h = h
answered_of_kind key request number answers.Absent h = refl

answer_of_kind : (key : Key) (request : ℕ) (answered : Answered) (number : ℕ) (reply : Reply) →
    is_stage_of_kind key (Answer request answered) ≡ true →
    is_step_of_kind key (after_answer request answered number reply) ≡ true
answer_of_kind key request answered number replies.Closed h = answered_of_kind key request number answered h
answer_of_kind key request answered number _ h = refl

refuse_of_kind : (key : Key) (refusal : Refusal) (number : ℕ) (reply : Reply) →
    is_step_of_kind key (after_refuse refusal number reply) ≡ true
refuse_of_kind key refusal number replies.Closed = refusal_of_kind key refusal
refuse_of_kind key refusal number _ = refl

fall_of_kind : (key : Key) (request number : ℕ) (reply : Reply) →
    is_step_of_kind key (after_fall request number reply) ≡ true
fall_of_kind key request number replies.Noted = refl
fall_of_kind key request number _ = refl

outage_of_kind : (key : Key) (request number : ℕ) (found : Option Record) (reply : Reply) →
    is_found_of_kind key found ≡ true → is_step_of_kind key (after_outage request number found reply) ≡ true
outage_of_kind key request number found (replies.Shut outcome) h = outcome_of_kind key number found outcome h
outage_of_kind key request number found _ h = refl

-- a reply whose record is of the key's kind leads on to what is of the key's kind
pub replied_of_kind : (key : Key) (stage : LookupStage) (given : Given) →
    is_stage_of_kind key stage ≡ true → is_found_of_kind key given.found ≡ true →
    is_step_of_kind key (lookup_replied stage given) ≡ true
replied_of_kind key Ask given s h = ask_of_kind key given.number given.found given.reply h
replied_of_kind key (Wait ticket) given s h = collect_of_kind key ticket given.number given.found given.reply h
replied_of_kind key (Pick request) given s h = pick_of_kind key request given.number given.reply
replied_of_kind key (Search request server) given s h = refl
replied_of_kind key (Answer request answered) given s h = answer_of_kind key request answered given.number given.reply s
replied_of_kind key (Refuse request refusal) given s h = refuse_of_kind key refusal given.number given.reply
replied_of_kind key (Fall request server why) given s h = fall_of_kind key request given.number given.reply
replied_of_kind key (Outage request) given s h = outage_of_kind key request given.number given.found given.reply h

search_of_kind : (key : Key) (request server : ℕ) (fetched : Fetched) →
    is_fetched_of_kind key fetched ≡ true → is_stage_of_kind key (after_search request server fetched) ≡ true
search_of_kind key request server (fetches.Found found) h = h
search_of_kind key request server _ h = refl

pub fetched_of_kind : (key : Key) (stage : LookupStage) (fetched : Fetched) →
    is_stage_of_kind key stage ≡ true → is_fetched_of_kind key fetched ≡ true →
    is_stage_of_kind key (lookup_fetched stage fetched) ≡ true
fetched_of_kind key (Search request server) fetched s h = search_of_kind key request server fetched h
fetched_of_kind key (Answer request answered) fetched s h = s
fetched_of_kind key _ fetched s h = refl

looked_of_kind : (key : Key) (step : LookupStep) →
    is_step_of_kind key step ≡ true → is_course_of_kind key (looked step) ≡ true
looked_of_kind key (Next stage) h = h
looked_of_kind key (Ended said) h = h
looked_of_kind key (Renew said request) h = h

renewed_of_kind : (key : Key) (step : LookupStep) →
    is_step_of_kind key step ≡ true → is_course_of_kind key (renewed step) ≡ true
renewed_of_kind key (Next stage) h = h
renewed_of_kind key (Ended said) h = refl
renewed_of_kind key (Renew said request) h = refl

pub course_replied_of_kind : (key : Key) (course : LookupCourse) (given : Given) →
    is_course_of_kind key course ≡ true → is_found_of_kind key given.found ≡ true →
    is_course_of_kind key (course_replied course given) ≡ true
course_replied_of_kind key (courses.Looking stage) given s h =
    looked_of_kind key (lookup_replied stage given) (replied_of_kind key stage given s h)
course_replied_of_kind key (courses.Renewing stage) given s h =
    renewed_of_kind key (lookup_replied stage given) (replied_of_kind key stage given s h)
course_replied_of_kind key (courses.Saying said) given s h = s
course_replied_of_kind key (courses.SayingFirst said request) given s h = s
course_replied_of_kind key courses.Over given s h = refl

pub course_fetched_of_kind : (key : Key) (course : LookupCourse) (fetched : Fetched) →
    is_course_of_kind key course ≡ true → is_fetched_of_kind key fetched ≡ true →
    is_course_of_kind key (course_fetched course fetched) ≡ true
course_fetched_of_kind key (courses.Looking stage) fetched s h = fetched_of_kind key stage fetched s h
course_fetched_of_kind key (courses.Renewing stage) fetched s h = fetched_of_kind key stage fetched s h
course_fetched_of_kind key (courses.Saying said) fetched s h = s
course_fetched_of_kind key (courses.SayingFirst said request) fetched s h = s
course_fetched_of_kind key courses.Over fetched s h = refl

pub course_told_of_kind : (key : Key) (course : LookupCourse) →
    is_course_of_kind key course ≡ true → is_course_of_kind key (course_told course) ≡ true
course_told_of_kind key (courses.Looking stage) s = s
course_told_of_kind key (courses.Renewing stage) s = s
course_told_of_kind key (courses.Saying said) s = refl
course_told_of_kind key (courses.SayingFirst said request) s = refl
course_told_of_kind key courses.Over s = refl

-- a record of the kind of a client's key is one that clients are told
pub client_record : (key : Key) (found : Record) →
    is_client_key key ≡ true → is_of_kind found key ≡ true → is_client_record found ≡ true
client_record (keys.User name) (records.User user) k h = refl
client_record (keys.Uid uid) (records.User user) k h = refl
client_record (keys.Group name) (records.Group group) k h = refl
client_record (keys.Gid gid) (records.Group group) k h = refl
client_record (keys.GroupsOf name) (records.Groups groups) k h = refl
client_record keys.Host found k h = cc
client_record keys.Rules found k h = cc
client_record _ (records.Host host) k h = h
client_record _ (records.Rules book) k h = h
client_record _ _ k h = refl

pub sayable_of_kind : (key : Key) (said : Said) →
    is_client_key key ≡ true → is_said_of_kind key said ≡ true → is_sayable said ≡ true
sayable_of_kind key (says.Found n found) k h = client_record key found k h
sayable_of_kind key (says.Old n o found) k h = client_record key found k h
sayable_of_kind key _ k h = refl

pub need_of_kind : (key : Key) (stage : LookupStage) →
    is_stage_of_kind key stage ≡ true → is_need_of_kind (Some key) (lookup_need key stage) ≡ true
need_of_kind key (Answer request answered) s = s
need_of_kind key _ s = refl

-- what a lookup for a client is to record is of its key's kind
pub course_need_of_kind : (key : Key) (course : LookupCourse) →
    is_course_of_kind key course ≡ true → is_need_of_kind (course_key key course) (course_need key course) ≡ true
course_need_of_kind key (courses.Looking stage) s = need_of_kind key stage s
course_need_of_kind key (courses.Renewing stage) s = need_of_kind key stage s
course_need_of_kind key _ s = refl

pub no_saying : (key : Key) (stage : LookupStage) → is_tellable (lookup_need key stage) ≡ true
no_saying key Ask = refl
no_saying key _ = refl

-- what a lookup for a client is to say can be told
pub course_need_tellable : (key : Key) (course : LookupCourse) →
    is_client_key key ≡ true → is_course_of_kind key course ≡ true → is_tellable (course_need key course) ≡ true
course_need_tellable key (courses.Looking stage) k s = no_saying key stage
course_need_tellable key (courses.Renewing stage) k s = no_saying key stage
course_need_tellable key (courses.Saying said) k s = sayable_of_kind key said k s
course_need_tellable key (courses.SayingFirst said request) k s = sayable_of_kind key said k s
course_need_tellable key courses.Over k s = refl

pub stage_search_of_kind : (key : Key) (stage : LookupStage) (fetched : Fetched) →
    answers_search (lookup_need key stage) fetched ≡ true → is_fetched_of_kind key fetched ≡ true
stage_search_of_kind key (Search request server) fetched h = h
stage_search_of_kind key Ask fetched h = cc
stage_search_of_kind key (Wait ticket) fetched h = cc
stage_search_of_kind key (Pick request) fetched h = cc
stage_search_of_kind key (Answer request answered) fetched h = cc
stage_search_of_kind key (Refuse request refusal) fetched h = cc
stage_search_of_kind key (Fall request server why) fetched h = cc
stage_search_of_kind key (Outage request) fetched h = cc

pub search_answers_kind : (key : Key) (course : LookupCourse) (fetched : Fetched) →
    answers_search (course_need key course) fetched ≡ true → is_fetched_of_kind key fetched ≡ true
search_answers_kind key (courses.Looking stage) fetched h = stage_search_of_kind key stage fetched h
search_answers_kind key (courses.Renewing stage) fetched h = stage_search_of_kind key stage fetched h
search_answers_kind key (courses.Saying said) fetched h = cc
search_answers_kind key (courses.SayingFirst said request) fetched h = cc
search_answers_kind key courses.Over fetched h = cc

-- an answer to a search that is needed leads on to what is of the key's kind
pub search_keeps_kind : (key : Key) (course : LookupCourse) (fetched : Fetched) →
    is_course_of_kind key course ≡ true → answers_search (course_need key course) fetched ≡ true →
    is_course_of_kind key (course_fetched course fetched) ≡ true
search_keeps_kind key course fetched s h =
    course_fetched_of_kind key course fetched s (search_answers_kind key course fetched h)

-- of a reply: a record of the kind of the key that is looked up leads on to what is of that kind
pub reply_fits : (key : Key) (course : LookupCourse) (found : Option Record) →
    awaits_reply (course_need key course) ≡ true → fits_found (course_key key course) found ≡ true →
    is_found_of_kind key found ≡ true
reply_fits key (courses.Looking stage) found a h = h
reply_fits key (courses.Renewing stage) found a h = h
reply_fits key (courses.Saying said) found a h = cc
reply_fits key (courses.SayingFirst said request) found a h = cc
reply_fits key courses.Over found a h = cc

pub reply_keeps_kind : (key : Key) (course : LookupCourse) (given : Given) →
    is_course_of_kind key course ≡ true → awaits_reply (course_need key course) ≡ true →
    fits_found (course_key key course) given.found ≡ true →
    is_course_of_kind key (course_replied course given) ≡ true
reply_keeps_kind key course given s a h =
    course_replied_of_kind key course given s (reply_fits key course given.found a h)
