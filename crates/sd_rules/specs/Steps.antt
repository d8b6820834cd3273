-- One step of the abstract daemon: the entry that an event makes, what it gives, and when there is no room for it.
use Rattle.std.specs.Prelude.{ℕ, Bool, true, false, ◌&&◌, ◌||◌, ◌==◌, ◌+◌, ◌*◌, ◌^◌, ◌-◌, max, nat_lt, not, length, slice_get, is_some, List, [], ◌∷◌, Option, Some, None, if◌then◌else◌}
use Rattle.sd_rules.specs.declared.keys.Key.{Key}
use Rattle.sd_rules.specs.declared.records.Answered.{Answered}
use Rattle.sd_rules.specs.declared.records.Answered.TheVariants.{Found}
use Rattle.sd_rules.specs.declared.records.Record.{Record}
use Rattle.sd_rules.specs.declared.records.Record.TheVariants as records
use Rattle.sd_rules.specs.declared.records.Rule.{Rule}
use Rattle.sd_rules.specs.declared.events.Event.{Event}
use Rattle.sd_rules.specs.declared.events.Event.TheVariants.{Ask, Pick, Fall, Answer, Refuse, Outage, Abandon, Collect, Leave, Void, Offline, Online, Stop, LoginOpen, LoginOnline, LoginLook, LoginGuess, LoginTry, Access, Kept}
use Rattle.sd_rules.specs.declared.events.Hash.{Hash}
use Rattle.sd_rules.specs.declared.events.LoginResult.TheVariants.{Right}
use Rattle.sd_rules.specs.declared.events.Row.TheVariants as rows
use Rattle.sd_rules.specs.declared.replies.By.TheVariants as by
use Rattle.sd_rules.specs.declared.replies.Entry.{Entry}
use Rattle.sd_rules.specs.declared.replies.Given.{Given}
use Rattle.sd_rules.specs.declared.replies.Outcome.{Outcome}
use Rattle.sd_rules.specs.declared.replies.Outcome.TheVariants as outcomes
use Rattle.sd_rules.specs.declared.replies.Reply.{Reply}
use Rattle.sd_rules.specs.declared.replies.Reply.TheVariants as replies
use Rattle.sd_rules.specs.declared.settings.Settings.{Settings}
use Rattle.sd_rules.specs.Keys.{is_answer_of_kind}
use Rattle.sd_rules.specs.Past.{Standing, newest, key_of, voids, outage_at}
use Rattle.sd_rules.specs.Requests.{is_open, is_open_request, is_open_attempt, waits_for, is_took, outcome_of, reserved_places}
use Rattle.sd_rules.specs.Servers.{picked_server, was_picked}
use Rattle.sd_rules.specs.Answers.{is_found, reply_to_ask}
use Rattle.sd_rules.specs.Logins.{Login, user_of, usable_hash, cached_login, verdict_of, verdict_of_try}
use Rattle.sd_rules.specs.Access.{access_of}
use Rattle.sd_rules.specs.TextBytes.{bytes_of_event, text_bytes}

-- The abstract daemon: its settings, the number and the moment that its next entry has at least, and its entries, the newest
-- first. Nothing else is state.
pub record Daemon : Type 0 where
  pub settings : Settings
  pub next : ℕ
  pub floor : ℕ
  pub past : List Entry

-- the number of a new entry
abbrev pub number_after : ℕ → List Entry → ℕ
number_after next [] = next
number_after next (e ∷ past) = max next (e.number + 1)

-- the moment of a new entry: that handed in, or a later one that was reached before
abbrev pub moment_after : ℕ → List Entry → ℕ → ℕ
moment_after floor [] t = max t floor
moment_after floor (e ∷ past) t = max (max t floor) e.moment

abbrev pub next_number : Daemon → ℕ
next_number d = number_after d.next d.past

abbrev pub moment_of : Daemon → ℕ → ℕ
moment_of d t = moment_after d.floor d.past t

abbrev pub is_again : Reply → Bool
is_again (replies.Again void) = true
is_again _ = false

-- an entry asks for a request: its leading entry, or an answer to it that was replied Again
abbrev pub asks_again : Event → Reply → ℕ → Bool
asks_again (Answer r answered) reply request = (r == request) && is_again reply
asks_again _ reply request = false

abbrev pub is_asking : Entry → ℕ → Bool
is_asking e request = (e.number == request) || asks_again e.event e.reply request

-- the last invalidation after the last asking of a request that covers what was answered
abbrev pub void_since : List Entry → ℕ → Key → Answered → Option ℕ
void_since [] request own answered = None
void_since (e ∷ past) request own answered =
    if voids e.event own answered then Some e.number
    else if is_asking e request then None
    else void_since past request own answered

abbrev pub reply_by_void : Option ℕ → Reply
reply_by_void (Some void) = replies.Again void
reply_by_void None = replies.Closed

abbrev pub reply_to_answer : List Entry → ℕ → Option Key → Answered → Reply
reply_to_answer past request None answered = replies.NoRequest
reply_to_answer past request (Some own) answered = reply_by_void (void_since past request own answered)

abbrev pub reply_by_pick : Option ℕ → Reply
reply_by_pick (Some server) = replies.Server server
reply_by_pick None = replies.NoServer

-- what an outage leaves to those who wait: the newest answer, whatever its age
abbrev pub outage_outcome : ℕ → Option Standing → Outcome
outage_outcome number None = outcomes.Dark number
outage_outcome number (Some a) =
    if is_found a.answered then outcomes.Old a.number number else outcomes.OldGone a.number number

abbrev pub outcome_in_outage : List Entry → ℕ → Option Key → Outcome
outcome_in_outage past number None = outcomes.Dark number
outcome_in_outage past number (Some k) = outage_outcome number (newest past k)

abbrev pub reply_to_closing_outage : List Entry → ℕ → ℕ → Reply
reply_to_closing_outage past number n =
    if is_open_request past n then replies.Shut (outcome_in_outage past number (key_of past n)) else replies.Closed

abbrev pub reply_to_outage : List Entry → ℕ → ℕ → Option ℕ → Reply
reply_to_outage past number n (Some server) = replies.Servable server
reply_to_outage past number n None = reply_to_closing_outage past number n

abbrev pub reply_to_collect : List Entry → Option ℕ → Reply
reply_to_collect past None = replies.NoTicket
reply_to_collect past (Some request) =
    if is_open_request past request then replies.NotYet request else replies.Took (outcome_of past request)

abbrev pub reply_to_leave : Option ℕ → Reply
reply_to_leave None = replies.NoTicket
reply_to_leave (Some request) = replies.Left

abbrev pub reply_by_cached : ℕ → Option ℕ → Reply
reply_by_cached number (Some login) = replies.Cached number login
reply_by_cached number None = replies.Bind number

abbrev pub reply_to_login : Settings → List Entry → ℕ → ℕ → List ℕ → Option ℕ → Reply
reply_to_login s past number t user (Some o) = replies.Offline o
reply_to_login s past number t user None = reply_by_cached number (cached_login s past t user)

abbrev pub reply_to_look : Option Login → Reply
reply_to_look None = replies.NoHash
reply_to_look (Some l) = replies.Hash l.number

abbrev pub reply_to_try : Settings → List Entry → ℕ → ℕ → Bool → Option (List ℕ) → Reply
reply_to_try s past t named right None = replies.NoRequest
reply_to_try s past t named right (Some user) = replies.Tried (verdict_of_try s past t user named right)

-- the reply to an event: the first case that holds
abbrev pub reply_to : Settings → List Entry → ℕ → ℕ → Event → Reply
reply_to s past number t (Ask k) = reply_to_ask s past number t k
reply_to s past number t (Pick n) =
    if is_open past n then reply_by_pick (picked_server s past n t) else replies.NoRequest
reply_to s past number t (Fall n i why) =
    if is_open past n then (if was_picked past n i then replies.Noted else replies.NotPicked) else replies.NoRequest
reply_to s past number t (Answer r answered) =
    if is_open_request past r then reply_to_answer past r (key_of past r) answered else replies.NoRequest
reply_to s past number t (Refuse r refusal) = if is_open_request past r then replies.Closed else replies.NoRequest
reply_to s past number t (Outage n) =
    if is_open past n then reply_to_outage past number n (picked_server s past n t) else replies.NoRequest
reply_to s past number t (Abandon n) = if is_open past n then replies.Closed else replies.NoRequest
reply_to s past number t (Collect ticket) = reply_to_collect past (waits_for past ticket)
reply_to s past number t (Leave ticket) = reply_to_leave (waits_for past ticket)
reply_to s past number t (Void what) = replies.Done
reply_to s past number t Offline = replies.Done
reply_to s past number t Online = replies.Done
reply_to s past number t Stop = replies.Done
reply_to s past number t (LoginOpen user) =
    reply_to_login s past number t user (outage_at s.offline_timeout past t)
reply_to s past number t (LoginOnline a result) = if is_open_attempt past a then replies.Closed else replies.NoRequest
reply_to s past number t (LoginLook user) = reply_to_look (usable_hash s past user)
reply_to s past number t (LoginGuess user named right) = replies.Judged (verdict_of s past t user named right)
reply_to s past number t (LoginTry a named right) =
    if is_open_attempt past a then reply_to_try s past t named right (user_of past a) else replies.NoRequest
reply_to s past number t (Access user service) = access_of s past user service
reply_to s past number t (Kept row) = replies.Held

-- the record that an entry holds
abbrev pub record_in_answer : Answered → Option Record
record_in_answer (Found found) = Some found
record_in_answer _ = None

abbrev pub record_of : Event → Option Record
record_of (Answer r answered) = record_in_answer answered
record_of (Kept (rows.Answer n m key answered voided)) = record_in_answer answered
record_of _ = None

-- the event of the entry of a number
abbrev pub event_at : List Entry → ℕ → Option Event
event_at [] n = None
event_at (e ∷ past) n = if e.number == n then Some e.event else event_at past n

abbrev pub record_in : Option Event → Option Record
record_in None = None
record_in (Some event) = record_of event

-- the hash that an entry holds
abbrev pub hash_of_event : Event → Option Hash
hash_of_event (LoginOnline a (Right hash)) = hash
hash_of_event (Kept (rows.Hash n m user hash)) = Some hash
hash_of_event _ = None

abbrev pub hash_in : Option Event → Option Hash
hash_in None = None
hash_in (Some event) = hash_of_event event

abbrev pub name_of_rule : Option Rule → Option (List ℕ)
name_of_rule None = None
name_of_rule (Some rule) = Some rule.name

abbrev pub rule_in : Option Record → ℕ → Option (List ℕ)
rule_in (Some (records.Rules book)) place = name_of_rule (slice_get book.rules place)
rule_in _ place = None

-- the answer that an outcome or a reply names, where it names one that found its key
abbrev pub answer_named_by_outcome : Outcome → Option ℕ
answer_named_by_outcome (outcomes.Found n) = Some n
answer_named_by_outcome (outcomes.Old n c) = Some n
answer_named_by_outcome _ = None

abbrev pub answer_named : Reply → Option ℕ
answer_named (replies.Fresh n) = Some n
answer_named (replies.Refresh n request) = Some n
answer_named (replies.Old n o) = Some n
answer_named (replies.Shut outcome) = answer_named_by_outcome outcome
answer_named (replies.Took outcome) = answer_named_by_outcome outcome
answer_named _ = None

abbrev pub event_named : List Entry → Option ℕ → Option Event
event_named past None = None
event_named past (Some n) = event_at past n

-- the record of the answer that a reply names
abbrev pub record_named : List Entry → Reply → Option Record
record_named past reply = record_in (event_named past (answer_named reply))

-- the login whose hash a reply names
abbrev pub login_named : Reply → Option ℕ
login_named (replies.Hash n) = Some n
login_named (replies.Cached attempt n) = Some n
login_named _ = None

abbrev pub hash_named : List Entry → Reply → Option Hash
hash_named past reply = hash_in (event_named past (login_named reply))

-- the name of the rule that a reply names
abbrev pub rule_named : List Entry → Reply → Option (List ℕ)
rule_named past (replies.Granted (by.Rule n place)) = rule_in (record_in (event_at past n)) place
rule_named past _ = None

-- the entry that a step makes
abbrev pub entry_made : Daemon → ℕ → Event → Entry
entry_made d now event = record {
  number = next_number d;
  moment = moment_of d now;
  event = event;
  reply = reply_to d.settings d.past (next_number d) (moment_of d now) event;
}

-- the daemon with one entry more
abbrev pub recorded : Daemon → Entry → Daemon
recorded d e = record d { next = e.number + 1; past = e ∷ d.past }

-- the daemon after a step
abbrev pub after : Daemon → ℕ → Event → Daemon
after d now event = recorded d (entry_made d now event)

abbrev pub given_by : List Entry → ℕ → Reply → Given
given_by past number reply = record {
  number = number;
  reply = reply;
  found = record_named past reply;
  hash = hash_named past reply;
  rule = rule_named past reply;
}

-- what a step gives
abbrev pub given : Daemon → ℕ → Event → Given
given d now event = given_by d.past (next_number d) (entry_made d now event).reply

-- the steps that give back a reserved place: an Abandon of what is open, a Leave of a ticket that waits, a Collect that takes
abbrev pub gives_back : List Entry → Event → Bool
gives_back past (Abandon n) = is_open past n
gives_back past (Leave ticket) = is_some (waits_for past ticket)
gives_back past (Collect ticket) = is_took (reply_to_collect past (waits_for past ticket))
gives_back past _ = false

-- the entries kept and the places reserved
abbrev pub full_count : Daemon → ℕ
full_count d = length d.past + reserved_places d.past

-- the journal has no room for an event: for want of places, of bytes of text (512 MiB), or of numbers
abbrev pub lacks_places : Daemon → Bool
lacks_places d = nat_lt d.settings.journal_limit (full_count d + 2)

abbrev pub lacks_text : Daemon → Event → Bool
lacks_text d event = nat_lt (512 * 1024 * 1024) (text_bytes d.past + bytes_of_event event)

abbrev pub lacks_numbers : Daemon → Bool
lacks_numbers d = nat_lt (2 ^ 64 - 1) (next_number d + reserved_places d.past + 2)

abbrev pub is_full : Daemon → Event → Bool
is_full d event =
    not (gives_back d.past event) && (lacks_places d || (lacks_text d event || lacks_numbers d))

-- the events that a step takes: any but a kept row, where an answer to an open request is of the kind of its key
abbrev pub answers_kind : Option Key → Answered → Bool
answers_kind None answered = true
answers_kind (Some key) answered = is_answer_of_kind answered key

abbrev pub is_steppable : List Entry → Event → Bool
is_steppable past (Kept row) = false
is_steppable past (Answer r answered) =
    not (is_open_request past r) || answers_kind (key_of past r) answered
is_steppable past _ = true
