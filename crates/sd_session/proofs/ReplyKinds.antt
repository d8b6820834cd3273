-- Which replies an event has: what opens a request or an attempt, and what gives a ticket, has the number of its own entry.
use Rattle.std.proofs.Common.{◌≡◌, ℕ, Bool, true, false, ◌&&◌, ◌==◌, List, Option, Some, None, refl}
use Rattle.std.specs.Prelude.{not, if◌then◌else◌}
use Rattle.sd_rules.specs.declared.keys.Key.{Key}
use Rattle.sd_rules.specs.declared.keys.Key.TheVariants as keys
use Rattle.sd_rules.specs.declared.records.Answered.{Answered}
use Rattle.sd_rules.specs.declared.records.Answered.TheVariants as answers
use Rattle.sd_rules.specs.declared.records.Record.{Record}
use Rattle.sd_rules.specs.declared.records.Record.TheVariants as records
use Rattle.sd_rules.specs.declared.events.Event.{Event}
use Rattle.sd_rules.specs.declared.events.Event.TheVariants as events
use Rattle.sd_rules.specs.declared.replies.Entry.{Entry}
use Rattle.sd_rules.specs.declared.replies.Reply.{Reply}
use Rattle.sd_rules.specs.declared.replies.Reply.TheVariants as replies
use Rattle.sd_rules.specs.declared.settings.AccessMode.{AccessMode}
use Rattle.sd_rules.specs.declared.settings.AccessMode.TheVariants as modes
use Rattle.sd_rules.specs.declared.settings.Settings.{Settings}
use Rattle.sd_rules.specs.Access.{Asker, asker_of, user_groups, simple_allows, granting_rule, reply_by_rule, reply_by_book, reply_by_rules, reply_by_lists, access_by}
use Rattle.sd_rules.specs.Answers.{is_filtered, is_found, is_fresh, is_past_midpoint, is_renewable, reply_in_outage, reply_by_request, reply_unless_fresh, reply_if_fresh, reply_by_newest, reply_to_ask}
use Rattle.sd_rules.specs.Logins.{Login, usable_hash, user_of, cached_login}
use Rattle.sd_rules.specs.Past.{Standing, newest, outage_at, key_of}
use Rattle.sd_rules.specs.Requests.{is_open, is_open_request, is_open_attempt, open_for, waits_for, outcome_of}
use Rattle.sd_rules.specs.Servers.{picked_server, was_picked}
use Rattle.sd_rules.specs.Steps.{reply_to, reply_to_answer, reply_by_void, void_since, reply_by_pick, reply_to_outage, reply_to_closing_outage, outcome_in_outage, reply_to_collect, reply_to_leave, reply_to_login, reply_by_cached, reply_to_look, reply_to_try}
use Rattle.sd_core.proofs.LawProofs.{pick_law}
use Rattle.sd_core.proofs.Room.{same_number}

-- the reply opens nothing, and gives no ticket
abbrev pub is_plain : Reply → Bool
is_plain (replies.Lead request) = false
is_plain (replies.Refresh n request) = false
is_plain (replies.Join request ticket) = false
is_plain (replies.Bind attempt) = false
is_plain (replies.Cached attempt login) = false
is_plain _ = true

abbrev pub answers_ask : ℕ → Reply → Bool
answers_ask number (replies.Lead request) = request == number
answers_ask number (replies.Refresh n request) = request == number
answers_ask number (replies.Join request ticket) = ticket == number
answers_ask number (replies.Bind attempt) = false
answers_ask number (replies.Cached attempt login) = false
answers_ask number _ = true

abbrev pub answers_login : ℕ → Reply → Bool
answers_login number (replies.Bind attempt) = attempt == number
answers_login number (replies.Cached attempt login) = attempt == number
answers_login number (replies.Offline outage) = true
answers_login number _ = false

abbrev pub answers_pick : Reply → Bool
answers_pick (replies.Server server) = true
answers_pick replies.NoServer = true
answers_pick replies.NoRequest = true
answers_pick _ = false

abbrev pub answers_fall : Reply → Bool
answers_fall replies.Noted = true
answers_fall replies.NotPicked = true
answers_fall replies.NoRequest = true
answers_fall _ = false

abbrev pub answers_answer : Reply → Bool
answers_answer replies.Closed = true
answers_answer (replies.Again void) = true
answers_answer replies.NoRequest = true
answers_answer _ = false

abbrev pub answers_close : Reply → Bool
answers_close replies.Closed = true
answers_close replies.NoRequest = true
answers_close _ = false

abbrev pub answers_outage : Reply → Bool
answers_outage (replies.Servable server) = true
answers_outage (replies.Shut outcome) = true
answers_outage replies.Closed = true
answers_outage replies.NoRequest = true
answers_outage _ = false

abbrev pub answers_try : Reply → Bool
answers_try (replies.Tried verdict) = true
answers_try replies.NoRequest = true
answers_try _ = false

abbrev pub answers_collect : Reply → Bool
answers_collect (replies.NotYet request) = true
answers_collect (replies.Took outcome) = true
answers_collect replies.NoTicket = true
answers_collect _ = false

-- the replies that an event can have, where its entry has this number
abbrev pub replies_as : ℕ → Event → Reply → Bool
replies_as number (events.Ask k) reply = answers_ask number reply
replies_as number (events.Pick n) reply = answers_pick reply
replies_as number (events.Fall n i why) reply = answers_fall reply
replies_as number (events.Answer r answered) reply = answers_answer reply
replies_as number (events.Refuse r refusal) reply = answers_close reply
replies_as number (events.Outage n) reply = answers_outage reply
replies_as number (events.Abandon n) reply = answers_close reply
replies_as number (events.Collect ticket) reply = answers_collect reply
replies_as number (events.LoginOpen user) reply = answers_login number reply
replies_as number (events.LoginOnline a result) reply = answers_close reply
replies_as number (events.LoginTry a named right) reply = answers_try reply
replies_as number _ reply = is_plain reply

-- ---- a question

abbrev AsksAs : ℕ → Reply → Type 0
AsksAs number reply = answers_ask number reply ≡ true

outage_kind : (number o : ℕ) (x : Option Standing) → AsksAs number (reply_in_outage o x)
outage_kind number o None = refl
outage_kind number o (Some a) = pick_law (AsksAs number) (is_found a.answered) (replies.Old a.number o) (replies.OldGone a.number o) (λ _. refl) (λ _. refl)

request_kind : (number : ℕ) (running : Option ℕ) → AsksAs number (reply_by_request number running)
request_kind number None = same_number number
request_kind number (Some r) = same_number number

stale_kind : (number : ℕ) (x : Option Standing) (outage running : Option ℕ) → AsksAs number (reply_unless_fresh number x outage running)
stale_kind number x None running = request_kind number running
stale_kind number x (Some o) running = outage_kind number o x

fresh_kind : (s : Settings) (number t : ℕ) (a : Standing) (outage running : Option ℕ) → AsksAs number (reply_if_fresh s number t a outage running)
fresh_kind s number t a outage running =
    pick_law (AsksAs number) (not (is_found a.answered)) (replies.Gone a.number)
    (if is_past_midpoint s t a && is_renewable outage running then replies.Refresh a.number number else replies.Fresh a.number)
    (λ _. refl)
    (λ _. pick_law (AsksAs number) (is_past_midpoint s t a && is_renewable outage running) (replies.Refresh a.number number) (replies.Fresh a.number) (λ _. same_number number) (λ _. refl))

newest_kind : (s : Settings) (past : List Entry) (number t : ℕ) (x : Option Standing) (outage running : Option ℕ) → AsksAs number (reply_by_newest s past number t x outage running)
newest_kind s past number t None outage running = stale_kind number None outage running
newest_kind s past number t (Some a) outage running =
    pick_law (AsksAs number) (is_fresh s past t a) (reply_if_fresh s number t a outage running) (reply_unless_fresh number (Some a) outage running)
    (λ _. fresh_kind s number t a outage running) (λ _. stale_kind number (Some a) outage running)

ask_kind : (s : Settings) (past : List Entry) (number t : ℕ) (k : Key) → AsksAs number (reply_to_ask s past number t k)
ask_kind s past number t k =
    pick_law (AsksAs number) (is_filtered s k) replies.Filtered
    (reply_by_newest s past number t (newest past k) (outage_at s.offline_timeout past t) (open_for past k)) (λ _. refl)
    (λ _. newest_kind s past number t (newest past k) (outage_at s.offline_timeout past t) (open_for past k))

-- ---- the other events

abbrev PicksAs : Reply → Type 0
PicksAs reply = answers_pick reply ≡ true

server_kind : (o : Option ℕ) → PicksAs (reply_by_pick o)
server_kind None = refl
server_kind (Some server) = refl

abbrev AnswersAs : Reply → Type 0
AnswersAs reply = answers_answer reply ≡ true

void_kind : (o : Option ℕ) → AnswersAs (reply_by_void o)
void_kind None = refl
void_kind (Some void) = refl

answer_kind : (past : List Entry) (r : ℕ) (own : Option Key) (a : Answered) → AnswersAs (reply_to_answer past r own a)
answer_kind past r None a = refl
answer_kind past r (Some own) a = void_kind (void_since past r own a)

abbrev OutageAs : Reply → Type 0
OutageAs reply = answers_outage reply ≡ true

closing_outage_kind : (past : List Entry) (number n : ℕ) → OutageAs (reply_to_closing_outage past number n)
closing_outage_kind past number n = pick_law OutageAs (is_open_request past n) (replies.Shut (outcome_in_outage past number (key_of past n))) replies.Closed (λ _. refl) (λ _. refl)

to_outage_kind : (past : List Entry) (number n : ℕ) (o : Option ℕ) → OutageAs (reply_to_outage past number n o)
to_outage_kind past number n (Some server) = refl
to_outage_kind past number n None = closing_outage_kind past number n

abbrev CollectsAs : Reply → Type 0
CollectsAs reply = answers_collect reply ≡ true

collect_kind : (past : List Entry) (w : Option ℕ) → CollectsAs (reply_to_collect past w)
collect_kind past None = refl
collect_kind past (Some r) = pick_law CollectsAs (is_open_request past r) (replies.NotYet r) (replies.Took (outcome_of past r)) (λ _. refl) (λ _. refl)

leave_kind : (w : Option ℕ) → is_plain (reply_to_leave w) ≡ true
leave_kind None = refl
leave_kind (Some r) = refl

cached_kind : (number : ℕ) (o : Option ℕ) → answers_login number (reply_by_cached number o) ≡ true
cached_kind number None = same_number number
cached_kind number (Some login) = same_number number

login_kind : (s : Settings) (past : List Entry) (number t : ℕ) (user : List ℕ) (o : Option ℕ) → answers_login number (reply_to_login s past number t user o) ≡ true
login_kind s past number t user None = cached_kind number (cached_login s past t user)
login_kind s past number t user (Some outage) = refl

look_kind : (l : Option Login) → is_plain (reply_to_look l) ≡ true
look_kind None = refl
look_kind (Some l) = refl

abbrev TriesAs : Reply → Type 0
TriesAs reply = answers_try reply ≡ true

try_kind : (s : Settings) (past : List Entry) (t named : ℕ) (right : Bool) (o : Option (List ℕ)) → TriesAs (reply_to_try s past t named right o)
try_kind s past t named right None = refl
try_kind s past t named right (Some user) = refl

abbrev IsPlain : Reply → Type 0
IsPlain reply = is_plain reply ≡ true

rule_kind : (n : ℕ) (place : Option ℕ) → IsPlain (reply_by_rule n place)
rule_kind n None = refl
rule_kind n (Some place) = refl

found_book_kind : (who : Asker) (n : ℕ) (found : Record) → IsPlain (reply_by_book who n (answers.Found found))
found_book_kind who n (records.Rules book) = rule_kind n (granting_rule book who)
found_book_kind who n _ = refl

book_kind : (who : Asker) (n : ℕ) (a : Answered) → IsPlain (reply_by_book who n a)
book_kind who n (answers.Found found) = found_book_kind who n found
book_kind who n answers.Absent = refl

rules_kind : (who : Asker) (a : Option Standing) → IsPlain (reply_by_rules who a)
rules_kind who None = refl
rules_kind who (Some a) = book_kind who a.number a.answered

lists_kind : (allowed : Bool) → IsPlain (reply_by_lists allowed)
lists_kind true = refl
lists_kind false = refl

access_kind : (mode : AccessMode) (s : Settings) (past : List Entry) (user service : List ℕ) → IsPlain (access_by mode s past user service)
access_kind modes.Permit s past user service = refl
access_kind modes.Deny s past user service = refl
access_kind modes.Simple s past user service = lists_kind (simple_allows s.simple user (user_groups past user))
access_kind modes.Ipa s past user service = rules_kind (asker_of s past user service) (newest past keys.Rules)

abbrev ClosesAs : Reply → Type 0
ClosesAs reply = answers_close reply ≡ true

abbrev FallsAs : Reply → Type 0
FallsAs reply = answers_fall reply ≡ true

-- each event is replied as it can be
pub reply_kind : (s : Settings) (past : List Entry) (number t : ℕ) (event : Event) → replies_as number event (reply_to s past number t event) ≡ true
reply_kind s past number t (events.Ask k) = ask_kind s past number t k
reply_kind s past number t (events.Pick n) =
    pick_law PicksAs (is_open past n) (reply_by_pick (picked_server s past n t)) replies.NoRequest (λ _. server_kind (picked_server s past n t)) (λ _. refl)
reply_kind s past number t (events.Fall n i why) =
    pick_law FallsAs (is_open past n) (if was_picked past n i then replies.Noted else replies.NotPicked) replies.NoRequest
    (λ _. pick_law FallsAs (was_picked past n i) replies.Noted replies.NotPicked (λ _. refl) (λ _. refl)) (λ _. refl)
reply_kind s past number t (events.Answer r a) =
    pick_law AnswersAs (is_open_request past r) (reply_to_answer past r (key_of past r) a) replies.NoRequest (λ _. answer_kind past r (key_of past r) a) (λ _. refl)
reply_kind s past number t (events.Refuse r refusal) = pick_law ClosesAs (is_open_request past r) replies.Closed replies.NoRequest (λ _. refl) (λ _. refl)
reply_kind s past number t (events.Outage n) =
    pick_law OutageAs (is_open past n) (reply_to_outage past number n (picked_server s past n t)) replies.NoRequest (λ _. to_outage_kind past number n (picked_server s past n t)) (λ _. refl)
reply_kind s past number t (events.Abandon n) = pick_law ClosesAs (is_open past n) replies.Closed replies.NoRequest (λ _. refl) (λ _. refl)
reply_kind s past number t (events.Collect ticket) = collect_kind past (waits_for past ticket)
reply_kind s past number t (events.Leave ticket) = leave_kind (waits_for past ticket)
reply_kind s past number t (events.LoginOpen user) = login_kind s past number t user (outage_at s.offline_timeout past t)
reply_kind s past number t (events.LoginOnline a result) = pick_law ClosesAs (is_open_attempt past a) replies.Closed replies.NoRequest (λ _. refl) (λ _. refl)
reply_kind s past number t (events.LoginLook user) = look_kind (usable_hash s past user)
reply_kind s past number t (events.LoginGuess user named right) = refl
reply_kind s past number t (events.LoginTry a named right) =
    pick_law TriesAs (is_open_attempt past a) (reply_to_try s past t named right (user_of past a)) replies.NoRequest (λ _. try_kind s past t named right (user_of past a)) (λ _. refl)
reply_kind s past number t (events.Access user service) = access_kind s.access s past user service
reply_kind s past number t (events.Void what) = refl
reply_kind s past number t events.Offline = refl
reply_kind s past number t events.Online = refl
reply_kind s past number t events.Stop = refl
reply_kind s past number t (events.Kept row) = refl
