-- Only a question joins a request, and it joins the one that is open for its key.
use Rattle.std.proofs.Common.{◌≡◌, ℕ, Bool, true, false, List, refl}
use Rattle.std.specs.Prelude.{Option, Some, None, not, ◌&&◌, if◌then◌else◌}
use Rattle.sd_rules.specs.declared.keys.Key.{Key}
use Rattle.sd_rules.specs.declared.keys.Key.TheVariants as keys
use Rattle.sd_rules.specs.declared.records.Answered.{Answered}
use Rattle.sd_rules.specs.declared.records.Answered.TheVariants.{Found, Absent}
use Rattle.sd_rules.specs.declared.records.Record.TheVariants as records
use Rattle.sd_rules.specs.declared.events.Event.{Event}
use Rattle.sd_rules.specs.declared.events.Event.TheVariants as events
use Rattle.sd_rules.specs.declared.replies.By.TheVariants as by
use Rattle.sd_rules.specs.declared.replies.NotBy.TheVariants as not_by
use Rattle.sd_rules.specs.declared.replies.Entry.{Entry}
use Rattle.sd_rules.specs.declared.replies.Reply.{Reply}
use Rattle.sd_rules.specs.declared.replies.Reply.TheVariants as replies
use Rattle.sd_rules.specs.declared.settings.AccessMode.{AccessMode}
use Rattle.sd_rules.specs.declared.settings.AccessMode.TheVariants.{Permit, Deny, Simple, Ipa}
use Rattle.sd_rules.specs.declared.settings.Settings.{Settings}
use Rattle.sd_rules.specs.Past.{Standing, newest, outage_at, key_asked, key_of}
use Rattle.sd_rules.specs.Requests.{joined, open_for, is_open, is_open_request, is_open_attempt, outcome_of, waits_for}
use Rattle.sd_rules.specs.Servers.{picked_server, was_picked}
use Rattle.sd_rules.specs.Answers.{is_found, is_fresh, is_filtered, is_past_midpoint, is_renewable, reply_in_outage, reply_by_request, reply_unless_fresh, reply_if_fresh, reply_by_newest, reply_to_ask}
use Rattle.sd_rules.specs.Logins.{Login, user_of, usable_hash, cached_login}
use Rattle.sd_rules.specs.Access.{Asker, asker_of, granting_rule, simple_allows, user_groups, reply_by_rule, reply_by_book, reply_by_rules, access_by}
use Rattle.sd_rules.specs.Steps.{reply_to, reply_to_answer, reply_by_void, void_since, reply_by_pick, reply_to_outage, outcome_in_outage, reply_to_collect, reply_to_leave, reply_to_login, reply_by_cached, reply_to_look, reply_to_try}
use Rattle.sd_core.proofs.LawProofs.{pick_law}

-- a reply joins nothing
abbrev JoinsNothing : Reply → Type 0
JoinsNothing reply = joined reply ≡ None

pick_none : (b : Bool) (f g : Reply) → JoinsNothing f → JoinsNothing g → JoinsNothing (if b then f else g)
pick_none true f g h k = h
pick_none false f g h k = k

void_joins : (void : Option ℕ) → JoinsNothing (reply_by_void void)
void_joins None = refl
void_joins (Some v) = refl

answer_joins : (past : List Entry) (r : ℕ) (own : Option Key) (answered : Answered) → JoinsNothing (reply_to_answer past r own answered)
answer_joins past r None answered = refl
answer_joins past r (Some own) answered = void_joins (void_since past r own answered)

server_joins : (picked : Option ℕ) → JoinsNothing (reply_by_pick picked)
server_joins None = refl
server_joins (Some i) = refl

outage_joins : (past : List Entry) (number n : ℕ) (picked : Option ℕ) → JoinsNothing (reply_to_outage past number n picked)
outage_joins past number n (Some i) = refl
outage_joins past number n None =
    pick_none (is_open_request past n) (replies.Shut (outcome_in_outage past number (key_of past n))) replies.Closed refl refl

collect_joins : (past : List Entry) (w : Option ℕ) → JoinsNothing (reply_to_collect past w)
collect_joins past None = refl
collect_joins past (Some r) = pick_none (is_open_request past r) (replies.NotYet r) (replies.Took (outcome_of past r)) refl refl

leave_joins : (w : Option ℕ) → JoinsNothing (reply_to_leave w)
leave_joins None = refl
leave_joins (Some r) = refl

cached_joins : (number : ℕ) (login : Option ℕ) → JoinsNothing (reply_by_cached number login)
cached_joins number None = refl
cached_joins number (Some n) = refl

login_joins : (s : Settings) (past : List Entry) (number t : ℕ) (user : List ℕ) (outage : Option ℕ) → JoinsNothing (reply_to_login s past number t user outage)
login_joins s past number t user (Some o) = refl
login_joins s past number t user None = cached_joins number (cached_login s past t user)

look_joins : (l : Option Login) → JoinsNothing (reply_to_look l)
look_joins None = refl
look_joins (Some l) = refl

try_joins : (s : Settings) (past : List Entry) (t named : ℕ) (right : Bool) (user : Option (List ℕ)) → JoinsNothing (reply_to_try s past t named right user)
try_joins s past t named right None = refl
try_joins s past t named right (Some user) = refl

rule_joins : (n : ℕ) (rule : Option ℕ) → JoinsNothing (reply_by_rule n rule)
rule_joins n None = refl
rule_joins n (Some place) = refl

book_joins : (who : Asker) (n : ℕ) (answered : Answered) → JoinsNothing (reply_by_book who n answered)
book_joins who n Absent = refl
book_joins who n (Found (records.Rules book)) = rule_joins n (granting_rule book who)
book_joins who n (Found (records.User x)) = refl
book_joins who n (Found (records.Group x)) = refl
book_joins who n (Found (records.Groups x)) = refl
book_joins who n (Found (records.Host x)) = refl

rules_join : (who : Asker) (x : Option Standing) → JoinsNothing (reply_by_rules who x)
rules_join who None = refl
rules_join who (Some a) = book_joins who a.number a.answered

access_joins : (s : Settings) (past : List Entry) (user service : List ℕ) (m : AccessMode) → JoinsNothing (access_by m s past user service)
access_joins s past user service Permit = refl
access_joins s past user service Deny = refl
access_joins s past user service Simple =
    pick_none (simple_allows s.simple user (user_groups past user)) (replies.Granted by.Simple) (replies.Denied not_by.Simple) refl refl
access_joins s past user service Ipa = rules_join (asker_of s past user service) (newest past keys.Rules)

-- a question joins only the request that is open for its key
abbrev Joins : Option ℕ → Reply → Type 0
Joins running reply = (r : ℕ) → joined reply ≡ Some r → running ≡ Some r

joins_none : (running : Option ℕ) (reply : Reply) → JoinsNothing reply → Joins running reply
joins_none running reply h r e = let clash : ⊥ = cc in absurd clash

outage_joins_none : (o : ℕ) (x : Option Standing) → JoinsNothing (reply_in_outage o x)
outage_joins_none o None = refl
outage_joins_none o (Some a) = pick_none (is_found a.answered) (replies.Old a.number o) (replies.OldGone a.number o) refl refl

request_joins : (number : ℕ) (running : Option ℕ) → Joins running (reply_by_request number running)
request_joins number None r e = let clash : ⊥ = cc in absurd clash
request_joins number (Some q) r e = e

stale_joins : (number : ℕ) (x : Option Standing) (outage running : Option ℕ) → Joins running (reply_unless_fresh number x outage running)
stale_joins number x None running = request_joins number running
stale_joins number x (Some o) running = joins_none running (reply_in_outage o x) (outage_joins_none o x)

fresh_joins : (s : Settings) (number t : ℕ) (a : Standing) (outage running : Option ℕ) → JoinsNothing (reply_if_fresh s number t a outage running)
fresh_joins s number t a outage running =
    pick_none (not (is_found a.answered)) (replies.Gone a.number)
    (if is_past_midpoint s t a && is_renewable outage running then replies.Refresh a.number number else replies.Fresh a.number) refl
    (pick_none (is_past_midpoint s t a && is_renewable outage running) (replies.Refresh a.number number) (replies.Fresh a.number) refl refl)

newest_joins : (s : Settings) (past : List Entry) (number t : ℕ) (x : Option Standing) (outage running : Option ℕ) → Joins running (reply_by_newest s past number t x outage running)
newest_joins s past number t None outage running = stale_joins number None outage running
newest_joins s past number t (Some a) outage running =
    pick_law (Joins running) (is_fresh s past t a) (reply_if_fresh s number t a outage running) (reply_unless_fresh number (Some a) outage running)
    (λ _. joins_none running (reply_if_fresh s number t a outage running) (fresh_joins s number t a outage running))
    (λ _. stale_joins number (Some a) outage running)

ask_joins : (s : Settings) (past : List Entry) (number t : ℕ) (k : Key) → Joins (open_for past k) (reply_to_ask s past number t k)
ask_joins s past number t k =
    pick_law (Joins (open_for past k)) (is_filtered s k) replies.Filtered
    (reply_by_newest s past number t (newest past k) (outage_at s.offline_timeout past t) (open_for past k))
    (λ _. joins_none (open_for past k) replies.Filtered refl)
    (λ _. newest_joins s past number t (newest past k) (outage_at s.offline_timeout past t) (open_for past k))

-- what an event that joined a request asked for
pub record HasJoined (past : List Entry) (event : Event) (r : ℕ) : Type 0 where
  pub key : Key
  pub asked : key_asked event ≡ Some key
  pub running : open_for past key ≡ Some r

no_join : (past : List Entry) (event : Event) (reply : Reply) (r : ℕ) → JoinsNothing reply → joined reply ≡ Some r → HasJoined past event r
no_join past event reply r h e = let clash : ⊥ = cc in absurd clash

pub has_joined : (s : Settings) (past : List Entry) (number t : ℕ) (event : Event) (r : ℕ) → joined (reply_to s past number t event) ≡ Some r → HasJoined past event r
has_joined s past number t (events.Ask k) r e = record { key = k; asked = refl; running = ask_joins s past number t k r e }
has_joined s past number t (events.Pick n) r e =
    no_join past (events.Pick n) (reply_to s past number t (events.Pick n)) r
    (pick_none (is_open past n) (reply_by_pick (picked_server s past n t)) replies.NoRequest (server_joins (picked_server s past n t)) refl) e
has_joined s past number t (events.Fall n i why) r e =
    no_join past (events.Fall n i why) (reply_to s past number t (events.Fall n i why)) r
    (pick_none (is_open past n) (if was_picked past n i then replies.Noted else replies.NotPicked) replies.NoRequest
    (pick_none (was_picked past n i) replies.Noted replies.NotPicked refl refl) refl) e
has_joined s past number t (events.Answer n answered) r e =
    no_join past (events.Answer n answered) (reply_to s past number t (events.Answer n answered)) r
    (pick_none (is_open_request past n) (reply_to_answer past n (key_of past n) answered) replies.NoRequest (answer_joins past n (key_of past n) answered) refl) e
has_joined s past number t (events.Refuse n refusal) r e =
    no_join past (events.Refuse n refusal) (reply_to s past number t (events.Refuse n refusal)) r
    (pick_none (is_open_request past n) replies.Closed replies.NoRequest refl refl) e
has_joined s past number t (events.Outage n) r e =
    no_join past (events.Outage n) (reply_to s past number t (events.Outage n)) r
    (pick_none (is_open past n) (reply_to_outage past number n (picked_server s past n t)) replies.NoRequest (outage_joins past number n (picked_server s past n t)) refl) e
has_joined s past number t (events.Abandon n) r e =
    no_join past (events.Abandon n) (reply_to s past number t (events.Abandon n)) r
    (pick_none (is_open past n) replies.Closed replies.NoRequest refl refl) e
has_joined s past number t (events.Collect n) r e =
    no_join past (events.Collect n) (reply_to s past number t (events.Collect n)) r (collect_joins past (waits_for past n)) e
has_joined s past number t (events.Leave n) r e =
    no_join past (events.Leave n) (reply_to s past number t (events.Leave n)) r (leave_joins (waits_for past n)) e
has_joined s past number t (events.LoginOpen user) r e =
    no_join past (events.LoginOpen user) (reply_to s past number t (events.LoginOpen user)) r
    (login_joins s past number t user (outage_at s.offline_timeout past t)) e
has_joined s past number t (events.LoginOnline n result) r e =
    no_join past (events.LoginOnline n result) (reply_to s past number t (events.LoginOnline n result)) r
    (pick_none (is_open_attempt past n) replies.Closed replies.NoRequest refl refl) e
has_joined s past number t (events.LoginLook user) r e =
    no_join past (events.LoginLook user) (reply_to s past number t (events.LoginLook user)) r (look_joins (usable_hash s past user)) e
has_joined s past number t (events.LoginTry n named right) r e =
    no_join past (events.LoginTry n named right) (reply_to s past number t (events.LoginTry n named right)) r
    (pick_none (is_open_attempt past n) (reply_to_try s past t named right (user_of past n)) replies.NoRequest (try_joins s past t named right (user_of past n)) refl) e
has_joined s past number t (events.Access user service) r e =
    no_join past (events.Access user service) (reply_to s past number t (events.Access user service)) r (access_joins s past user service s.access) e
has_joined s past number t (events.LoginGuess user named right) r e = let clash : ⊥ = cc in absurd clash
has_joined s past number t (events.Void what) r e = let clash : ⊥ = cc in absurd clash
has_joined s past number t events.Offline r e = let clash : ⊥ = cc in absurd clash
has_joined s past number t events.Online r e = let clash : ⊥ = cc in absurd clash
has_joined s past number t events.Stop r e = let clash : ⊥ = cc in absurd clash
has_joined s past number t (events.Kept row) r e = let clash : ⊥ = cc in absurd clash
