-- The entries that a later reply can look at. A forget keeps these and no others.
-- In each definition all are the entries of the journal and past are those before the entry spoken of, the newest first.
use Rattle.std.specs.Prelude.{ℕ, Bool, true, false, ◌&&◌, ◌||◌, ◌==◌, nat_lt, not, List, [], ◌∷◌, Option, Some, None, is_some, if◌then◌else◌}
use Rattle.std.specs.List.{list_any}
use Rattle.sd_rules.specs.declared.keys.Key.{Key}
use Rattle.sd_rules.specs.declared.keys.Key.TheVariants as keys
use Rattle.sd_rules.specs.declared.keys.What.{What}
use Rattle.sd_rules.specs.declared.keys.What.TheVariants as whats
use Rattle.sd_rules.specs.declared.records.Answered.{Answered}
use Rattle.sd_rules.specs.declared.records.Answered.TheVariants.{Found, Absent}
use Rattle.sd_rules.specs.declared.records.Record.{Record}
use Rattle.sd_rules.specs.declared.records.Record.TheVariants as records
use Rattle.sd_rules.specs.declared.events.Event.{Event}
use Rattle.sd_rules.specs.declared.events.Event.TheVariants.{Pick, Fall, Answer, Void, Stop, LoginOnline, LoginGuess, LoginTry, Kept}
use Rattle.sd_rules.specs.declared.events.Row.{Row}
use Rattle.sd_rules.specs.declared.events.Row.TheVariants as rows
use Rattle.sd_rules.specs.declared.replies.Entry.{Entry}
use Rattle.sd_rules.specs.declared.replies.Outcome.{Outcome}
use Rattle.sd_rules.specs.declared.replies.Outcome.TheVariants as outcomes
use Rattle.sd_rules.specs.declared.replies.Reply.{Reply}
use Rattle.sd_rules.specs.declared.replies.Reply.TheVariants as replies
use Rattle.sd_rules.specs.Keys.{same_name, covers}
use Rattle.sd_rules.specs.Past.{Standing, newest, answer_in, is_closed, records_outage, ends_outage}
use Rattle.sd_rules.specs.Requests.{closes, is_open, is_open_request, waits_for, outcome_of}
use Rattle.sd_rules.specs.Servers.{is_fall_of, is_noted, is_online, is_pick_of}
use Rattle.sd_rules.specs.Logins.{Login, user_of, hash_entry, last_online_login, accepts, wrongs, hash_carried}
use Rattle.sd_rules.specs.Steps.{is_again, asks_again, is_asking}

-- an entry is the one of this number, where there is one
abbrev pub is_number : ℕ → Option ℕ → Bool
is_number n None = false
is_number n (Some m) = m == n

-- the number of the last entry that meets a test
abbrev pub last_where : (Entry → Bool) → List Entry → Option ℕ
last_where test [] = None
last_where test (e ∷ past) = if test e then Some e.number else last_where test past

abbrev pub is_last_where : (Entry → Bool) → List Entry → Entry → Bool
is_last_where test all e = test e && is_number e.number (last_where test all)

-- the keys of which an answer speaks
abbrev pub keys_of_record : Record → List Key
keys_of_record (records.User user) = keys.User user.name ∷ keys.Uid user.uid ∷ []
keys_of_record (records.Group group) = keys.Group group.name ∷ keys.Gid group.gid ∷ []
keys_of_record _ = []

abbrev pub keys_of_answer : Key → Answered → List Key
keys_of_answer own (Found found) = own ∷ keys_of_record found
keys_of_answer own Absent = own ∷ []

abbrev pub is_number_of : ℕ → Option Standing → Bool
is_number_of n None = false
is_number_of n (Some a) = a.number == n

abbrev pub is_newest_of : List Entry → ℕ → Key → Bool
is_newest_of all n key = is_number_of n (newest all key)

-- an answer is the newest of a key of which it speaks
abbrev pub is_newest_of_some : List Entry → Option Standing → Bool
is_newest_of_some all None = false
is_newest_of_some all (Some a) = list_any (λ key. is_newest_of all a.number key) (keys_of_answer a.own a.answered)

abbrev pub is_newest_answer : List Entry → List Entry → Entry → Bool
is_newest_answer all past e = is_newest_of_some all (answer_in past e)

-- two invalidations name the same
abbrev pub same_what : What → What → Bool
same_what whats.All whats.All = true
same_what whats.Users whats.Users = true
same_what whats.Groups whats.Groups = true
same_what (whats.User a) (whats.User b) = same_name a b
same_what (whats.Group a) (whats.Group b) = same_name a b
same_what _ _ = false

abbrev pub is_void_of : What → Event → Bool
is_void_of what (Void other) = same_what other what
is_void_of what _ = false

abbrev pub is_last_void : List Entry → What → Entry → Bool
is_last_void all what e = is_last_where (λ (x : Entry). is_void_of what x.event) all e

abbrev pub is_covered : What → Option Standing → Bool
is_covered what None = false
is_covered what (Some a) = covers what a.own a.answered

-- an invalidation covers an answer before it that is the newest of a key
abbrev pub covers_newest : List Entry → What → List Entry → Bool
covers_newest all what [] = false
covers_newest all what (e ∷ past) =
    (is_newest_answer all past e && is_covered what (answer_in past e)) || covers_newest all what past

-- the last asking of a request has this number or a lesser one
abbrev pub is_asked_by : Option ℕ → ℕ → Bool
is_asked_by None n = false
is_asked_by (Some m) n = nat_lt m n

abbrev pub is_asked_before : List Entry → ℕ → ℕ → Bool
is_asked_before all request n = is_asked_by (last_where (λ (x : Entry). is_asking x request) all) n

-- an entry stands after the last asking of an open request, sought in a part of the journal
abbrev pub is_after_asking : List Entry → ℕ → List Entry → Bool
is_after_asking all n [] = false
is_after_asking all n (e ∷ past) =
    (is_open_request all e.number && is_asked_before all e.number n) || is_after_asking all n past

-- an invalidation is the last of its kind, and covers the newest answer of a key or the asking of an open request
abbrev pub is_void_needed : List Entry → List Entry → Entry → Event → Bool
is_void_needed all past e (Void what) =
    is_last_void all what e && (covers_newest all what past || is_after_asking all e.number all)
is_void_needed all past e _ = false

-- an answer to a request was replied Again
abbrev pub is_last_again : List Entry → ℕ → Entry → Bool
is_last_again all request e = is_last_where (λ (x : Entry). asks_again x.event x.reply request) all e

abbrev pub is_last_pick : List Entry → ℕ → Entry → Bool
is_last_pick all request e = is_last_where (λ (x : Entry). is_pick_of x.event request) all e

-- what an open request or attempt still looks at: its last Answer that was replied Again, its last Pick, its falls
abbrev pub serves_open : List Entry → Entry → Event → Bool
serves_open all e (Answer request answered) = is_open all request && is_last_again all request e
serves_open all e (Pick request) = is_open all request && is_last_pick all request e
serves_open all e (Fall request server why) = is_open all request && is_noted e.reply
serves_open all e _ = false

-- the last fall of a server since the last word that the directory can be reached
abbrev pub last_fall : List Entry → ℕ → Option ℕ
last_fall [] server = None
last_fall (e ∷ past) server =
    if is_online e.event then None
    else if is_fall_of e.event e.reply server then Some e.number
    else last_fall past server

abbrev pub is_fall_needed : List Entry → Entry → Event → Bool
is_fall_needed all e (Fall request server why) = is_number e.number (last_fall all server)
is_fall_needed all e (Kept (rows.Fall n m server)) = is_number e.number (last_fall all server)
is_fall_needed all e _ = false

abbrev pub is_last_online : List Entry → Entry → Bool
is_last_online all e = is_last_where (λ (x : Entry). is_online x.event) all e

-- the last outage that was recorded and that nothing has ended since, however long ago
abbrev pub last_outage : List Entry → Option ℕ
last_outage [] = None
last_outage (e ∷ past) =
    if records_outage e.event e.reply then Some e.number
    else if ends_outage e.event e.reply then None
    else last_outage past

-- the entry that closed a request: the last that did
abbrev pub closing_of : List Entry → ℕ → Option ℕ
closing_of all request = last_where (λ (x : Entry). closes x.event x.reply request) all

-- the answer that an outcome names
abbrev pub answer_of_outcome : Outcome → Option ℕ
answer_of_outcome (outcomes.Found n) = Some n
answer_of_outcome (outcomes.Absent n) = Some n
answer_of_outcome (outcomes.Old n o) = Some n
answer_of_outcome (outcomes.OldGone n o) = Some n
answer_of_outcome _ = None

-- what a ticket that waits for a request will look at: the request's closing entry, and the answer that its outcome names
abbrev pub serves_ticket : List Entry → ℕ → Option ℕ → Bool
serves_ticket all n None = false
serves_ticket all n (Some request) =
    is_number n (closing_of all request) || is_number n (answer_of_outcome (outcome_of all request))

-- some ticket that waits will look at the entry n, sought among a part of the entries
abbrev pub serves_waiting : List Entry → ℕ → List Entry → Bool
serves_waiting all n [] = false
serves_waiting all n (e ∷ past) = serves_ticket all n (waits_for all e.number) || serves_waiting all n past

-- the user whose online login an entry is
abbrev pub user_if_right : Option Bool → Option (List ℕ) → Option (List ℕ)
user_if_right (Some hashed) user = user
user_if_right None user = None

abbrev pub user_of_row : Row → Option (List ℕ)
user_of_row (rows.Hash n m user hash) = Some user
user_of_row (rows.Online n m user) = Some user
user_of_row _ = None

abbrev pub user_logged_in : List Entry → Event → Reply → Option (List ℕ)
user_logged_in past (LoginOnline attempt result) reply =
    if is_closed reply then user_if_right (hash_carried result) (user_of past attempt) else None
user_logged_in past (Kept row) reply = user_of_row row
user_logged_in past _ reply = None

abbrev pub is_login : ℕ → Option Login → Bool
is_login n None = false
is_login n (Some l) = l.number == n

-- an entry is the hash entry or the last online login of its user
abbrev pub is_login_needed : List Entry → ℕ → Option (List ℕ) → Bool
is_login_needed all n None = false
is_login_needed all n (Some user) = is_login n (hash_entry all user) || is_login n (last_online_login all user)

-- the entry n stands after the last entry that accepted the user
abbrev pub is_since_accepted : List Entry → List ℕ → ℕ → Bool
is_since_accepted [] user n = false
is_since_accepted (e ∷ past) user n =
    if accepts past user e.event e.reply then false else (e.number == n) || is_since_accepted past user n

-- the user for whom an entry may count as wrong guesses
abbrev pub user_guessed : Event → Option (List ℕ)
user_guessed (LoginGuess user named right) = Some user
user_guessed (Kept (rows.Wrong n m user count)) = Some user
user_guessed _ = None

-- wrong guesses that still count
abbrev pub is_wrong_needed : List Entry → Entry → Option (List ℕ) → Bool
is_wrong_needed all e None = false
is_wrong_needed all e (Some user) =
    not (wrongs user e.event e.reply == 0) && is_since_accepted all user e.number

abbrev pub is_stop : Event → Bool
is_stop Stop = true
is_stop _ = false

abbrev pub is_last_stop : List Entry → Entry → Bool
is_last_stop all e = is_last_where (λ (x : Entry). is_stop x.event) all e

abbrev pub is_last : List Entry → Entry → Bool
is_last all e = is_last_where (λ (x : Entry). true) all e

-- an entry is looked at for its own sake
abbrev pub is_looked_at : List Entry → List Entry → Entry → Bool
is_looked_at all past e =
    is_newest_answer all past e
    || (is_void_needed all past e e.event
    || (is_open all e.number
    || (serves_open all e e.event
    || (is_fall_needed all e e.event
    || (is_last_online all e
    || (is_number e.number (last_outage all)
    || (is_some (waits_for all e.number)
    || (serves_waiting all e.number all
    || (is_login_needed all e.number (user_logged_in past e.event e.reply)
    || (is_wrong_needed all e (user_guessed e.event)
    || (is_last_stop all e
    || is_last all e)))))))))))

abbrev pub is_tried : Reply → Bool
is_tried (replies.Tried verdict) = true
is_tried _ = false

-- the request or attempt with whose leading entry an entry is read
abbrev pub read_with : Event → Reply → Option ℕ
read_with (Answer request answered) reply = if is_closed reply || is_again reply then Some request else None
read_with (LoginOnline attempt result) reply = if is_closed reply then Some attempt else None
read_with (LoginTry attempt named right) reply = if is_tried reply then Some attempt else None
read_with _ reply = None

abbrev pub is_answer_to : Event → ℕ → Bool
is_answer_to (Answer request answered) n = request == n
is_answer_to _ n = false

-- an entry is the leading entry of the request or attempt that another is read with, or, of an answer's request, the last
-- answer that was replied Again
abbrev pub is_read_for : List Entry → Entry → Event → Option ℕ → Bool
is_read_for all e other None = false
is_read_for all e other (Some request) =
    (e.number == request) || (is_answer_to other request && is_last_again all request e)

-- an entry is read with one that is looked at, sought among a part of the entries
abbrev pub is_read_with : List Entry → Entry → List Entry → Bool
is_read_with all e [] = false
is_read_with all e (other ∷ past) =
    (is_looked_at all past other && is_read_for all e other.event (read_with other.event other.reply))
    || is_read_with all e past

-- an entry is needed where it is looked at, or read with one that is
abbrev pub is_needed : List Entry → List Entry → Entry → Bool
is_needed all past e = is_looked_at all past e || is_read_with all e all

abbrev pub needed_among : List Entry → List Entry → List Entry
needed_among all [] = []
needed_among all (e ∷ past) = if is_needed all past e then e ∷ needed_among all past else needed_among all past

abbrev pub forgotten_among : List Entry → List Entry → List Entry
forgotten_among all [] = []
forgotten_among all (e ∷ past) =
    if is_needed all past e then forgotten_among all past else e ∷ forgotten_among all past

-- what a forget keeps, and what it hands back
abbrev pub needed : List Entry → List Entry
needed past = needed_among past past

abbrev pub forgotten : List Entry → List Entry
forgotten past = forgotten_among past past
