-- The texts of events, as a journal's lines have them.
use Rattle.std.specs.Prelude.{ℕ, Bool, true, false, ◌++◌, codes, List, []}
use Rattle.std.specs.Fmt.{decimal}
use Rattle.sd_base.specs.declared.Why.{Why}
use Rattle.sd_base.specs.declared.Why.TheVariants as whys
use Rattle.sd_rules.specs.declared.events.Event.{Event}
use Rattle.sd_rules.specs.declared.events.Event.TheVariants as events
use Rattle.sd_rules.specs.declared.events.LoginResult.{LoginResult}
use Rattle.sd_rules.specs.declared.events.LoginResult.TheVariants as results
use Rattle.sd_rules.specs.declared.events.Refusal.{Refusal}
use Rattle.sd_rules.specs.declared.events.Refusal.TheVariants as refusals
use Rattle.sd_rules.specs.declared.keys.Key.{Key}
use Rattle.sd_rules.specs.declared.keys.Key.TheVariants as keys
use Rattle.sd_rules.specs.declared.keys.What.{What}
use Rattle.sd_rules.specs.declared.keys.What.TheVariants as whats
use Rattle.sd_rules.specs.declared.records.Answered.{Answered}
use Rattle.sd_rules.specs.declared.records.Answered.TheVariants as answers
use Rattle.sd_wire.specs.Escapes.{field}
use Rattle.sd_wire.specs.Forms.{numbered, numbered_twice, worded}

abbrev pub key_text : Key → List ℕ
key_text (keys.User name) = worded (codes "user:") name
key_text (keys.Uid uid) = numbered (codes "uid:") uid
key_text (keys.Group name) = worded (codes "group:") name
key_text (keys.Gid gid) = numbered (codes "gid:") gid
key_text (keys.GroupsOf name) = worded (codes "groups:") name
key_text keys.Host = codes "host"
key_text keys.Rules = codes "rules"

-- why a server gave no answer
abbrev pub why_text : Why → List ℕ
why_text whys.Link = codes " link"
why_text (whys.Bytes place) = numbered (codes " bytes ") place
why_text (whys.Code code) = numbered (codes " code ") code
why_text (whys.Message tag) = numbered (codes " message ") tag
why_text (whys.Flood taken) = numbered (codes " flood ") taken

abbrev pub answered_text : Answered → List ℕ
answered_text (answers.Found found) = codes " found"
answered_text answers.Absent = codes " absent"

abbrev pub refusal_text : Refusal → List ℕ
refusal_text (refusals.Code code) = numbered (codes " code ") code
refusal_text (refusals.Many count) = numbered (codes " many ") count

-- which answers an invalidation covers
abbrev pub what_text : What → List ℕ
what_text whats.All = codes "all"
what_text whats.Users = codes "users"
what_text whats.Groups = codes "groups"
what_text (whats.User name) = worded (codes "user ") name
what_text (whats.Group name) = worded (codes "group ") name

abbrev pub result_text : LoginResult → List ℕ
result_text (results.Right hash) = codes " right"
result_text results.Wrong = codes " wrong"
result_text (results.Refused code) = numbered (codes " refused ") code

-- whether a password was right
abbrev pub right_text : Bool → List ℕ
right_text true = codes " right"
right_text false = codes " wrong"

abbrev pub ask_text : Key → List ℕ
ask_text key = codes "ask " ++ key_text key

abbrev pub fall_text : ℕ → ℕ → Why → List ℕ
fall_text request server why = numbered_twice (codes "fall ") request server ++ why_text why

abbrev pub answer_text : ℕ → Answered → List ℕ
answer_text request answered = numbered (codes "answer ") request ++ answered_text answered

abbrev pub refuse_text : ℕ → Refusal → List ℕ
refuse_text request refusal = numbered (codes "refuse ") request ++ refusal_text refusal

abbrev pub void_text : What → List ℕ
void_text what = codes "void " ++ what_text what

abbrev pub online_text : ℕ → LoginResult → List ℕ
online_text attempt result = numbered (codes "result ") attempt ++ result_text result

abbrev pub guess_text : List ℕ → ℕ → Bool → List ℕ
guess_text user named right = worded (codes "guess ") user ++ (codes " " ++ (decimal named ++ right_text right))

abbrev pub try_text : ℕ → ℕ → Bool → List ℕ
try_text attempt named right = numbered_twice (codes "try ") attempt named ++ right_text right

abbrev pub check_text : List ℕ → List ℕ → List ℕ
check_text user service = worded (codes "access ") user ++ (codes " " ++ field service)

-- events of logins and account checks, and what an operator does
abbrev pub login_event_text : Event → List ℕ
login_event_text (events.LoginOpen user) = worded (codes "login ") user
login_event_text (events.LoginOnline attempt result) = online_text attempt result
login_event_text (events.LoginLook user) = worded (codes "look ") user
login_event_text (events.LoginGuess user named right) = guess_text user named right
login_event_text (events.LoginTry attempt named right) = try_text attempt named right
login_event_text (events.Access user service) = check_text user service
login_event_text (events.Void what) = void_text what
login_event_text events.Offline = codes "offline"
login_event_text events.Online = codes "online"
login_event_text events.Stop = codes "stop"
login_event_text _ = []

-- The text of an event. Names are fields; of a kept row, a hash or a record nothing more is printed.
abbrev pub event_text : Event → List ℕ
event_text (events.Ask key) = ask_text key
event_text (events.Pick request) = numbered (codes "pick ") request
event_text (events.Fall request server why) = fall_text request server why
event_text (events.Answer request answered) = answer_text request answered
event_text (events.Refuse request refusal) = refuse_text request refusal
event_text (events.Outage request) = numbered (codes "outage ") request
event_text (events.Abandon request) = numbered (codes "abandon ") request
event_text (events.Collect ticket) = numbered (codes "collect ") ticket
event_text (events.Leave ticket) = numbered (codes "leave ") ticket
event_text (events.Kept row) = codes "kept"
event_text event = login_event_text event
