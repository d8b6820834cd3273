-- Lookups: how the lookup of a key goes on, from the question to its outcome. The outcome is said as a client is told it.
use Rattle.std.specs.Prelude.{ℕ, Bool, true, false, List, Option, Some, None}
use Rattle.sd_rules.specs.declared.keys.Key.{Key}
use Rattle.sd_rules.specs.declared.keys.Key.TheVariants as keys
use Rattle.sd_rules.specs.declared.records.Record.{Record}
use Rattle.sd_rules.specs.declared.records.Record.TheVariants as records
use Rattle.sd_rules.specs.declared.records.Answered.{Answered}
use Rattle.sd_rules.specs.declared.records.Answered.TheVariants as answers
use Rattle.sd_rules.specs.declared.events.Event.TheVariants as events
use Rattle.sd_rules.specs.declared.events.Refusal.{Refusal}
use Rattle.sd_rules.specs.declared.events.Refusal.TheVariants as refusals
use Rattle.sd_rules.specs.declared.replies.Given.{Given}
use Rattle.sd_rules.specs.declared.replies.Outcome.{Outcome}
use Rattle.sd_rules.specs.declared.replies.Outcome.TheVariants as outcomes
use Rattle.sd_rules.specs.declared.replies.Reply.{Reply}
use Rattle.sd_rules.specs.declared.replies.Reply.TheVariants as replies
use Rattle.sd_rules.specs.declared.scripts.LookupCourse.{LookupCourse}
use Rattle.sd_rules.specs.declared.scripts.LookupCourse.TheVariants.{Looking, Saying, SayingFirst, Renewing, Over}
use Rattle.sd_rules.specs.declared.scripts.LookupStage.{LookupStage}
use Rattle.sd_rules.specs.declared.scripts.LookupStage.TheVariants.{Ask, Wait, Pick, Search, Answer, Refuse, Fall, Outage}
use Rattle.sd_rules.specs.declared.scripts.LookupStep.{LookupStep}
use Rattle.sd_rules.specs.declared.scripts.LookupStep.TheVariants.{Next, Ended, Renew}
use Rattle.sd_rules.specs.declared.tasks.Fetched.{Fetched}
use Rattle.sd_rules.specs.declared.tasks.Fetched.TheVariants as fetches
use Rattle.sd_rules.specs.declared.tasks.Need.{Need}
use Rattle.sd_rules.specs.declared.tasks.Need.TheVariants.{Step, Fetch, Await, Say, End}
use Rattle.sd_rules.specs.declared.tasks.Said.{Said}
use Rattle.sd_rules.specs.declared.tasks.Said.TheVariants as says
use Rattle.sd_rules.specs.Keys.{is_of_kind, is_answer_of_kind}

-- what a lookup needs next
abbrev pub lookup_need : Key → LookupStage → Need
lookup_need key Ask = Step (events.Ask key)
lookup_need key (Wait ticket) = Await ticket
lookup_need key (Pick request) = Step (events.Pick request)
lookup_need key (Search request server) = Fetch server key
lookup_need key (Answer request answered) = Step (events.Answer request answered)
lookup_need key (Refuse request refusal) = Step (events.Refuse request refusal)
lookup_need key (Fall request server why) = Step (events.Fall request server why)
lookup_need key (Outage request) = Step (events.Outage request)

-- the found record of the answer n; where the reply of entry number brought none, the lookup counts as dropped
abbrev pub found_said : ℕ → ℕ → Option Record → Said
found_said number n (Some found) = says.Found n found
found_said number n None = says.Dropped number

-- the same of the answer n in the outage o
abbrev pub old_said : ℕ → ℕ → ℕ → Option Record → Said
old_said number n o (Some found) = says.Old n o found
old_said number n o None = says.Dropped number

abbrev pub refusal_said : Refusal → Said
refusal_said (refusals.Code code) = says.Refused code
refusal_said (refusals.Many count) = says.Many count

-- what a client is told of an outcome, which the entry number gave with this record
abbrev pub outcome_said : ℕ → Option Record → Outcome → Said
outcome_said number found (outcomes.Found n) = found_said number n found
outcome_said number found (outcomes.Absent n) = says.Absent n
outcome_said number found (outcomes.Refused refusal) = refusal_said refusal
outcome_said number found (outcomes.Old n o) = old_said number n o found
outcome_said number found (outcomes.OldGone n o) = says.OldNone n o
outcome_said number found (outcomes.Dark o) = says.Dark o
outcome_said number found (outcomes.Dropped n) = says.Dropped n

-- what a client is told of an answer that the entry number recorded
abbrev pub answered_said : ℕ → Answered → Said
answered_said number (answers.Found found) = says.Found number found
answered_said number answers.Absent = says.Absent number

-- Each event has the replies that are named here. After any other the outcome is that the lookup was dropped by the entry so
-- replied: no such request is open, or no such ticket waits.
abbrev pub after_ask : ℕ → Option Record → Reply → LookupStep
after_ask number found replies.Filtered = Ended says.Filtered
after_ask number found (replies.Fresh n) = Ended (found_said number n found)
after_ask number found (replies.Refresh n request) = Renew (found_said number n found) request
after_ask number found (replies.Gone n) = Ended (says.Absent n)
after_ask number found (replies.Old n o) = Ended (old_said number n o found)
after_ask number found (replies.OldGone n o) = Ended (says.OldNone n o)
after_ask number found (replies.Dark o) = Ended (says.Dark o)
after_ask number found (replies.Join request ticket) = Next (Wait ticket)
after_ask number found (replies.Lead request) = Next (Pick request)
after_ask number found _ = Ended (says.Dropped number)

abbrev pub after_collect : ℕ → ℕ → Option Record → Reply → LookupStep
after_collect ticket number found (replies.NotYet request) = Next (Wait ticket)
after_collect ticket number found (replies.Took outcome) = Ended (outcome_said number found outcome)
after_collect ticket number found _ = Ended (says.Dropped number)

abbrev pub after_pick : ℕ → ℕ → Reply → LookupStep
after_pick request number (replies.Server server) = Next (Search request server)
after_pick request number replies.NoServer = Next (Outage request)
after_pick request number _ = Ended (says.Dropped number)

abbrev pub after_answer : ℕ → Answered → ℕ → Reply → LookupStep
after_answer request answered number replies.Closed = Ended (answered_said number answered)
after_answer request answered number (replies.Again void) = Next (Pick request)
after_answer request answered number _ = Ended (says.Dropped number)

abbrev pub after_refuse : Refusal → ℕ → Reply → LookupStep
after_refuse refusal number replies.Closed = Ended (refusal_said refusal)
after_refuse refusal number _ = Ended (says.Dropped number)

abbrev pub after_fall : ℕ → ℕ → Reply → LookupStep
after_fall request number replies.Noted = Next (Pick request)
after_fall request number replies.NotPicked = Next (Pick request)
after_fall request number _ = Ended (says.Dropped number)

abbrev pub after_outage : ℕ → ℕ → Option Record → Reply → LookupStep
after_outage request number found (replies.Servable server) = Next (Pick request)
after_outage request number found (replies.Shut outcome) = Ended (outcome_said number found outcome)
after_outage request number found _ = Ended (says.Dropped number)

-- how a lookup goes on after a reply; while it waits for a server's answer no reply comes
abbrev pub lookup_replied : LookupStage → Given → LookupStep
lookup_replied Ask given = after_ask given.number given.found given.reply
lookup_replied (Wait ticket) given = after_collect ticket given.number given.found given.reply
lookup_replied (Pick request) given = after_pick request given.number given.reply
lookup_replied (Search request server) given = Next (Search request server)
lookup_replied (Answer request answered) given = after_answer request answered given.number given.reply
lookup_replied (Refuse request refusal) given = after_refuse refusal given.number given.reply
lookup_replied (Fall request server why) given = after_fall request given.number given.reply
lookup_replied (Outage request) given = after_outage request given.number given.found given.reply

-- what is to be recorded of a server's answer; want of memory leaves nothing to record
abbrev pub after_search : ℕ → ℕ → Fetched → LookupStage
after_search request server (fetches.Found found) = Answer request (answers.Found found)
after_search request server fetches.Absent = Answer request answers.Absent
after_search request server (fetches.Refused code) = Refuse request (refusals.Code code)
after_search request server (fetches.Many count) = Refuse request (refusals.Many count)
after_search request server (fetches.Failed why) = Fall request server why
after_search request server fetches.Memory = Search request server

-- how a lookup goes on after a server's answer
abbrev pub lookup_fetched : LookupStage → Fetched → LookupStage
lookup_fetched (Search request server) fetched = after_search request server fetched
lookup_fetched stage fetched = stage

-- The lookup of a key for a client. Where the answer is fresh and past its midpoint, the client is told first, and the key is
-- looked up anew after that.
abbrev pub begun : LookupCourse
begun = Looking Ask

abbrev pub course_need : Key → LookupCourse → Need
course_need key (Looking stage) = lookup_need key stage
course_need key (Saying said) = Say said
course_need key (SayingFirst said request) = Say said
course_need key (Renewing stage) = lookup_need key stage
course_need key Over = End

abbrev pub course_told : LookupCourse → LookupCourse
course_told (Looking stage) = Looking stage
course_told (Saying said) = Over
course_told (SayingFirst said request) = Renewing (Pick request)
course_told (Renewing stage) = Renewing stage
course_told Over = Over

abbrev pub looked : LookupStep → LookupCourse
looked (Next stage) = Looking stage
looked (Ended said) = Saying said
looked (Renew said request) = SayingFirst said request

-- nobody is told what a lookup that renews comes to
abbrev pub renewed : LookupStep → LookupCourse
renewed (Next stage) = Renewing stage
renewed (Ended said) = Over
renewed (Renew said request) = Over

abbrev pub course_replied : LookupCourse → Given → LookupCourse
course_replied (Looking stage) given = looked (lookup_replied stage given)
course_replied (Saying said) given = Saying said
course_replied (SayingFirst said request) given = SayingFirst said request
course_replied (Renewing stage) given = renewed (lookup_replied stage given)
course_replied Over given = Over

abbrev pub course_fetched : LookupCourse → Fetched → LookupCourse
course_fetched (Looking stage) fetched = Looking (lookup_fetched stage fetched)
course_fetched (Saying said) fetched = Saying said
course_fetched (SayingFirst said request) fetched = SayingFirst said request
course_fetched (Renewing stage) fetched = Renewing (lookup_fetched stage fetched)
course_fetched Over fetched = Over

-- the key that a script looks up
abbrev pub course_key : Key → LookupCourse → Option Key
course_key key (Looking stage) = Some key
course_key key (Saying said) = None
course_key key (SayingFirst said request) = None
course_key key (Renewing stage) = Some key
course_key key Over = None

-- What is told and what is to be recorded holds a record of the kind that the key asks for.
abbrev pub is_said_of_kind : Key → Said → Bool
is_said_of_kind key (says.Found n found) = is_of_kind found key
is_said_of_kind key (says.Old n o found) = is_of_kind found key
is_said_of_kind key _ = true

abbrev pub is_stage_of_kind : Key → LookupStage → Bool
is_stage_of_kind key (Answer request answered) = is_answer_of_kind answered key
is_stage_of_kind key _ = true

abbrev pub is_step_of_kind : Key → LookupStep → Bool
is_step_of_kind key (Next stage) = is_stage_of_kind key stage
is_step_of_kind key (Ended said) = is_said_of_kind key said
is_step_of_kind key (Renew said request) = is_said_of_kind key said

abbrev pub is_course_of_kind : Key → LookupCourse → Bool
is_course_of_kind key (Looking stage) = is_stage_of_kind key stage
is_course_of_kind key (Saying said) = is_said_of_kind key said
is_course_of_kind key (SayingFirst said request) = is_said_of_kind key said
is_course_of_kind key (Renewing stage) = is_stage_of_kind key stage
is_course_of_kind key Over = true

abbrev pub is_fetched_of_kind : Key → Fetched → Bool
is_fetched_of_kind key (fetches.Found found) = is_of_kind found key
is_fetched_of_kind key _ = true

abbrev pub is_found_of_kind : Key → Option Record → Bool
is_found_of_kind key (Some found) = is_of_kind found key
is_found_of_kind key None = true

-- the keys that clients ask for, and the records that they are told
abbrev pub is_client_key : Key → Bool
is_client_key keys.Host = false
is_client_key keys.Rules = false
is_client_key _ = true

abbrev pub is_client_record : Record → Bool
is_client_record (records.Host host) = false
is_client_record (records.Rules book) = false
is_client_record _ = true

abbrev pub is_sayable : Said → Bool
is_sayable (says.Found n found) = is_client_record found
is_sayable (says.Old n o found) = is_client_record found
is_sayable _ = true

-- the distinguished name of the user that an outcome found, in the directory now or earlier
abbrev pub dn_in : Record → Option (List ℕ)
dn_in (records.User user) = Some user.dn
dn_in _ = None

abbrev pub dn_said : Said → Option (List ℕ)
dn_said (says.Found n found) = dn_in found
dn_said (says.Old n o found) = dn_in found
dn_said _ = None
