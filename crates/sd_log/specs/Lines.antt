-- The lines of the log.
use Rattle.std.specs.Prelude.{ℕ, ◌++◌, ◌==◌, codes, List, [], if◌then◌else◌}
use Rattle.sd_wire.specs.Escapes.{field}
use Rattle.sd_wire.specs.Forms.{numbered, numbered_within, worded}
use Rattle.sd_log.specs.declared.news.Place.{Place}
use Rattle.sd_log.specs.declared.news.Fallen.{Fallen}
use Rattle.sd_log.specs.declared.news.Fallen.TheVariants as falls
use Rattle.sd_log.specs.declared.news.Order.{Order}
use Rattle.sd_log.specs.declared.news.Order.TheVariants as orders
use Rattle.sd_log.specs.declared.news.Asked.{Asked}
use Rattle.sd_log.specs.declared.news.Asked.TheVariants as asks
use Rattle.sd_log.specs.declared.news.Told.{Told}
use Rattle.sd_log.specs.declared.news.Told.TheVariants as tells
use Rattle.sd_log.specs.declared.news.News.{News}
use Rattle.sd_log.specs.declared.news.News.TheVariants as kinds
use Rattle.sd_log.specs.Levels.{priority_of}

-- ---- parts of lines

-- a server: its number, its name and its port
abbrev pub place_text : Place → List ℕ
place_text p = numbered (codes "server ") p.number ++ (worded (codes " ") p.host ++ numbered (codes ":") p.port)

-- what result codes of LDAP say
abbrev pub code_words : ℕ → List ℕ
code_words code =
    if code == 3 then codes " (time limit exceeded)"
    else if code == 4 then codes " (size limit exceeded)"
    else if code == 8 then codes " (stronger authentication required)"
    else if code == 13 then codes " (confidentiality required)"
    else if code == 32 then codes " (no such object)"
    else if code == 48 then codes " (inappropriate authentication)"
    else if code == 49 then codes " (invalid credentials)"
    else if code == 50 then codes " (insufficient access rights)"
    else if code == 51 then codes " (busy)"
    else if code == 52 then codes " (unavailable)"
    else if code == 53 then codes " (unwilling to perform)"
    else []

abbrev pub code_text : ℕ → List ℕ
code_text code = numbered_within (codes "code ") code (code_words code)

-- why a server counts as one that fell
abbrev pub fallen_text : Fallen → List ℕ
fallen_text falls.NoConnection = codes "no connection"
fallen_text falls.TimedOut = codes "timed out"
fallen_text falls.Closed = codes "closed the connection"
fallen_text (falls.Bytes at) = numbered_within (codes "bytes at ") at (codes " are no LDAP")
fallen_text (falls.Code code) = code_text code
fallen_text (falls.Message tag) = numbered_within (codes "message ") tag (codes " out of place")
fallen_text (falls.Flood taken) = numbered_within (codes "flood, ") taken (codes " bytes")

-- words, and the entry of the journal that says so
abbrev pub with_entry : List ℕ → ℕ → List ℕ
with_entry words entry = words ++ numbered (codes ", entry ") entry

abbrev pub rule_text : ℕ → List ℕ → List ℕ
rule_text entry rule = codes "granted by rule " ++ with_entry rule entry

-- ---- what clients were told

abbrev pub login_text : Told → List ℕ
login_text (tells.AcceptedOnline n) = with_entry (codes "accepted online") n
login_text (tells.WrongOnline n) = with_entry (codes "wrong password online") n
login_text (tells.AcceptedOffline n) = with_entry (codes "accepted offline") n
login_text (tells.WrongOffline n) = with_entry (codes "wrong password offline") n
login_text tells.DeniedEmpty = codes "empty password"
login_text (tells.Expired moment) = numbered (codes "offline, and the hash expired, at ") moment
login_text (tells.Blocked until) = numbered (codes "blocked after wrong passwords until ") until
login_text tells.BlockedOnline = codes "blocked after wrong passwords until an online login"
login_text tells.NoHash = codes "offline, and no hash is kept"
login_text _ = codes "answered"

abbrev pub access_text : Told → List ℕ
access_text (tells.GrantedPermit n) = with_entry (codes "granted by permit") n
access_text (tells.GrantedSimple n) = with_entry (codes "granted by simple lists") n
access_text (tells.GrantedRule n name) = rule_text n name
access_text (tells.DeniedDeny n) = with_entry (codes "denied, access_provider is deny") n
access_text (tells.DeniedSimple n) = with_entry (codes "denied, simple lists") n
access_text (tells.DeniedNoRule n) = with_entry (codes "denied, no rule lets in") n
access_text told = login_text told

abbrev pub old_text : List ℕ → ℕ → ℕ → List ℕ
old_text words entry outage = with_entry words entry ++ numbered (codes ", outage ") outage

abbrev pub refused_text : ℕ → List ℕ
refused_text code = codes "refused, " ++ code_text code

abbrev pub told_text : Told → List ℕ
told_text (tells.Found n) = with_entry (codes "found") n
told_text (tells.Absent n) = with_entry (codes "not in the directory") n
told_text (tells.Old n outage) = old_text (codes "found earlier") n outage
told_text (tells.OldNone n outage) = old_text (codes "not in the directory earlier") n outage
told_text (tells.Dark outage) = numbered (codes "no server answers, outage ") outage
told_text tells.Filtered = codes "a filtered name"
told_text (tells.Refused code) = refused_text code
told_text (tells.Many count) = numbered_within (codes "refused, ") count (codes " entries fit")
told_text (tells.Dropped n) = with_entry (codes "given up") n
told_text (tells.Done n) = with_entry (codes "done") n
told_text told = access_text told

-- ---- what clients asked

abbrev pub order_text : Order → List ℕ
order_text orders.Offline = codes "offline"
order_text orders.Online = codes "online"
order_text orders.Stop = codes "stop"
order_text orders.All = codes "invalidate all"
order_text orders.Users = codes "invalidate users"
order_text orders.Groups = codes "invalidate groups"
order_text (orders.User name) = worded (codes "invalidate user ") name
order_text (orders.Group name) = worded (codes "invalidate group ") name

abbrev pub check_text : List ℕ → List ℕ → List ℕ
check_text user service = worded (codes "account check of ") user ++ worded (codes " for ") service

abbrev pub asked_order : Order → List ℕ
asked_order order = codes "administrator: " ++ order_text order

abbrev pub asked_text : Asked → List ℕ
asked_text (asks.User name) = worded (codes "user ") name
asked_text (asks.Uid uid) = numbered (codes "uid ") uid
asked_text (asks.Group name) = worded (codes "group ") name
asked_text (asks.Gid gid) = numbered (codes "gid ") gid
asked_text (asks.GroupsOf name) = worded (codes "groups of ") name
asked_text (asks.Login user) = worded (codes "login of ") user
asked_text (asks.Access user service) = check_text user service
asked_text (asks.Order order) = asked_order order

abbrev pub answered_text : Asked → Told → List ℕ
answered_text asked told = asked_text asked ++ (codes ": " ++ told_text told)

-- ---- whole lines

abbrev pub fell_text : Place → Fallen → List ℕ
fell_text place why = place_text place ++ (codes " fell: " ++ fallen_text why)

abbrev pub returned_text : Place → List ℕ
returned_text place = place_text place ++ codes " answers again"

abbrev pub ended_text : ℕ → ℕ → List ℕ
ended_text outage entry = numbered (codes "outage ") outage ++ with_entry (codes " ends: the directory answers") entry

abbrev pub refuses_text : ℕ → List ℕ
refuses_text code = codes "the directory refuses: " ++ code_text code

abbrev pub slow_text : ℕ → ℕ → List ℕ
slow_text whole store = numbered (codes "a forget and a flush took ") whole ++ numbered_within (codes " milliseconds, ") store (codes " of them the store")

abbrev pub option_text : ℕ → List ℕ → List ℕ → List ℕ
option_text line section key = numbered (codes "option passed over: line ") line ++ (worded (codes ", [") section ++ worded (codes "], ") key)

abbrev pub of_modules_text : ℕ → List ℕ → List ℕ → List ℕ
of_modules_text line section key = option_text line section key ++ codes "; it belongs into /etc/bixethomi/modules.conf"

abbrev pub provider_text : ℕ → List ℕ → List ℕ
provider_text line provider = numbered (codes "line ") line ++ (worded (codes ": auth_provider = ") provider ++ codes ", but logins are asked of the LDAP servers")

abbrev pub in_clear_text : Place → List ℕ
in_clear_text place = codes "passwords of logins go in clear to " ++ place_text place

abbrev pub warning_text : News → List ℕ
warning_text (kinds.PassedOver line section key) = option_text line section key
warning_text (kinds.OfModules line section key) = of_modules_text line section key
warning_text (kinds.OtherProvider line provider) = provider_text line provider
warning_text (kinds.BaseWithFilter line) = numbered_within (codes "line ") line (codes ": ldap_search_base has a question mark, and no scope or filter is read")
warning_text (kinds.InClear place) = in_clear_text place
warning_text kinds.JournalFills = codes "the journal has nine tenths of the entries that journal_limit allows"
warning_text kinds.JournalHasRoom = codes "the journal has room again"
warning_text kinds.StoreUnwritten = codes "the store cannot be written"
warning_text kinds.StoreWritten = codes "the store is written again"
warning_text _ = []

abbrev pub news_text : News → List ℕ
news_text (kinds.Fell place why) = fell_text place why
news_text (kinds.Returned place) = returned_text place
news_text (kinds.OutageBegan n) = numbered_within (codes "outage ") n (codes " begins: no server answers")
news_text (kinds.OutageOrdered n) = numbered_within (codes "outage ") n (codes " begins: an administrator said so")
news_text (kinds.OutageEnded n entry) = ended_text n entry
news_text (kinds.OutageLifted n) = numbered_within (codes "outage ") n (codes " ends: an administrator said so")
news_text (kinds.Refuses code) = refuses_text code
news_text (kinds.Fits count) = numbered_within (codes "the directory refuses: ") count (codes " entries fit where one may")
news_text (kinds.Answered asked told) = answered_text asked told
news_text (kinds.Slow whole store) = slow_text whole store
news_text news = warning_text news

-- the priority in front, as the journal of systemd reads it, and the program's name
abbrev pub front_text : ℕ → List ℕ
front_text priority = numbered_within (codes "<") priority (codes ">bixethomi: ")

-- the line for news, without its line feed
abbrev pub line_of : News → List ℕ
line_of news = front_text (priority_of news) ++ news_text news
