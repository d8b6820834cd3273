-- Requests, login attempts and tickets: which are open, which wait, what they came to.
use Rattle.std.specs.Prelude.{ℕ, Bool, true, false, ◌&&◌, ◌||◌, ◌==◌, ◌+◌, List, [], ◌∷◌, Option, Some, None, is_some, if◌then◌else◌}
use Rattle.sd_rules.specs.declared.keys.Key.{Key}
use Rattle.sd_rules.specs.declared.records.Answered.{Answered}
use Rattle.sd_rules.specs.declared.records.Answered.TheVariants.{Found, Absent}
use Rattle.sd_rules.specs.declared.events.Event.{Event}
use Rattle.sd_rules.specs.declared.events.Event.TheVariants.{Ask, Answer, Refuse, Outage, Abandon, Collect, Leave, LoginOpen, LoginOnline, LoginTry}
use Rattle.sd_rules.specs.declared.replies.Entry.{Entry}
use Rattle.sd_rules.specs.declared.replies.Outcome.{Outcome}
use Rattle.sd_rules.specs.declared.replies.Outcome.TheVariants as outcomes
use Rattle.sd_rules.specs.declared.replies.Reply.{Reply}
use Rattle.sd_rules.specs.declared.replies.Reply.TheVariants as replies
use Rattle.sd_rules.specs.declared.replies.Verdict.TheVariants as verdicts
use Rattle.sd_rules.specs.Keys.{same_key}
use Rattle.sd_rules.specs.Past.{is_closed, is_shut}

abbrev pub is_lead : Reply → Bool
is_lead (replies.Lead request) = true
is_lead (replies.Refresh number request) = true
is_lead _ = false

abbrev pub is_bind : Reply → Bool
is_bind (replies.Bind attempt) = true
is_bind (replies.Cached attempt login) = true
is_bind _ = false

abbrev pub is_try_accepted : Reply → Bool
is_try_accepted (replies.Tried verdicts.Accepted) = true
is_try_accepted _ = false

-- an entry closes the request or attempt n
abbrev pub closes : Event → Reply → ℕ → Bool
closes (Answer request answered) reply n = (request == n) && is_closed reply
closes (Refuse request refusal) reply n = (request == n) && is_closed reply
closes (Outage request) reply n = (request == n) && (is_closed reply || is_shut reply)
closes (Abandon request) reply n = (request == n) && is_closed reply
closes (LoginOnline attempt result) reply n = (attempt == n) && is_closed reply
closes (LoginTry attempt named right) reply n = (attempt == n) && is_try_accepted reply
closes _ reply n = false

-- the entry of the number n, where nothing has closed n since
abbrev pub unclosed : List Entry → ℕ → Option Entry
unclosed [] n = None
unclosed (e ∷ past) n =
    if closes e.event e.reply n then None
    else if e.number == n then Some e
    else unclosed past n

-- an Ask that was replied Lead or Refresh opens a request
abbrev pub opens_request : Event → Reply → Bool
opens_request (Ask key) reply = is_lead reply
opens_request _ reply = false

-- a login that was replied Bind or Cached opens an attempt
abbrev pub opens_attempt : Event → Reply → Bool
opens_attempt (LoginOpen user) reply = is_bind reply
opens_attempt _ reply = false

abbrev pub has_opened_request : Option Entry → Bool
has_opened_request None = false
has_opened_request (Some e) = opens_request e.event e.reply

abbrev pub has_opened_attempt : Option Entry → Bool
has_opened_attempt None = false
has_opened_attempt (Some e) = opens_attempt e.event e.reply

-- the entry of the number opened a request, and nothing has closed it since
abbrev pub is_open_request : List Entry → ℕ → Bool
is_open_request past n = has_opened_request (unclosed past n)

abbrev pub is_open_attempt : List Entry → ℕ → Bool
is_open_attempt past n = has_opened_attempt (unclosed past n)

abbrev pub is_open : List Entry → ℕ → Bool
is_open past n = is_open_request past n || is_open_attempt past n

abbrev pub asks_for : Event → Key → Bool
asks_for (Ask key) k = same_key key k
asks_for _ k = false

-- the request that is open for a key, sought in a part of the past
abbrev pub open_among : List Entry → List Entry → Key → Option ℕ
open_among all [] k = None
open_among all (e ∷ past) k =
    if asks_for e.event k && is_open_request all e.number then Some e.number else open_among all past k

abbrev pub open_for : List Entry → Key → Option ℕ
open_for past k = open_among past past k

abbrev pub is_took : Reply → Bool
is_took (replies.Took outcome) = true
is_took _ = false

abbrev pub is_left : Reply → Bool
is_left replies.Left = true
is_left _ = false

-- an entry ends the waiting of a ticket
abbrev pub ends_waiting : Event → Reply → ℕ → Bool
ends_waiting (Collect ticket) reply t = (ticket == t) && is_took reply
ends_waiting (Leave ticket) reply t = (ticket == t) && is_left reply
ends_waiting _ reply t = false

-- the request that an entry joined
abbrev pub joined : Reply → Option ℕ
joined (replies.Join request ticket) = Some request
joined _ = None

-- the request that a ticket waits for: it waits from its Join until it took an outcome or left
abbrev pub waits_for : List Entry → ℕ → Option ℕ
waits_for [] t = None
waits_for (e ∷ past) t =
    if ends_waiting e.event e.reply t then None
    else if e.number == t then joined e.reply
    else waits_for past t

-- each open request, open attempt and waiting ticket reserves one place
abbrev pub reserves : List Entry → ℕ → Bool
reserves past n = is_open past n || is_some (waits_for past n)

abbrev pub reserved_among : List Entry → List Entry → ℕ
reserved_among all [] = 0
reserved_among all (e ∷ past) = (if reserves all e.number then 1 else 0) + reserved_among all past

abbrev pub reserved_places : List Entry → ℕ
reserved_places past = reserved_among past past

abbrev pub answered_outcome : ℕ → Answered → Outcome
answered_outcome n (Found found) = outcomes.Found n
answered_outcome n Absent = outcomes.Absent n

abbrev pub shut_outcome : ℕ → Reply → Outcome
shut_outcome n (replies.Shut outcome) = outcome
shut_outcome n _ = outcomes.Dropped n

-- what a closing entry gives to its request
abbrev pub outcome_by : ℕ → Event → Reply → Outcome
outcome_by n (Answer request answered) reply = answered_outcome n answered
outcome_by n (Refuse request refusal) reply = outcomes.Refused refusal
outcome_by n (Outage request) reply = shut_outcome n reply
outcome_by n _ reply = outcomes.Dropped n

-- the outcome of a closed request, by its closing entry; one that no entry closed counts as dropped by itself
abbrev pub outcome_of : List Entry → ℕ → Outcome
outcome_of [] request = outcomes.Dropped request
outcome_of (e ∷ past) request =
    if closes e.event e.reply request then outcome_by e.number e.event e.reply else outcome_of past request
