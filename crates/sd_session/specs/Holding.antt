-- What a client's request goes on with: the requests that it leads, its login attempt, and the ticket that it waits with.
use Rattle.std.specs.Prelude.{ℕ, Bool, true, false, ◌||◌, ◌==◌, List, [], ◌∷◌, Option, Some, None}
use Rattle.sd_rules.specs.declared.scripts.Led.{Led}
use Rattle.sd_rules.specs.declared.scripts.LookupCourse.{LookupCourse}
use Rattle.sd_rules.specs.declared.scripts.LookupCourse.TheVariants.{Looking, Saying, SayingFirst, Renewing, Over}
use Rattle.sd_rules.specs.declared.scripts.LookupStage.{LookupStage}
use Rattle.sd_rules.specs.declared.scripts.LookupStage.TheVariants.{Ask, Wait, Pick, Search, Answer, Refuse, Fall, Outage}
use Rattle.sd_rules.specs.declared.scripts.LoginStage.{LoginStage}
use Rattle.sd_rules.specs.declared.scripts.LoginStage.TheVariants as stages
use Rattle.sd_rules.specs.AccessScript as checks
use Rattle.sd_rules.specs.AccessScript.{AccessCourse}
use Rattle.sd_rules.specs.Closings as closings
use Rattle.sd_rules.specs.Closings.{Closing}
use Rattle.sd_rules.specs.LoginScript as logins
use Rattle.sd_rules.specs.LoginScript.{LoginCourse}
use Rattle.sd_rules.specs.Scripts as orders
use Rattle.sd_rules.specs.Scripts.{AdminCourse}
use Rattle.sd_engine.specs.Courses.{Client, Course, LookingUp, LoggingIn, Checking, Ordering}

abbrev pub lists : List ℕ → ℕ → Bool
lists [] n = false
lists (m ∷ ms) n = (m == n) || lists ms n

-- the requests that are led to renew answers
abbrev pub requests_of : List Led → List ℕ
requests_of [] = []
requests_of (l ∷ led) = l.request ∷ requests_of led

-- the request that a lookup leads, in front of others
abbrev pub stage_leads : LookupStage → List ℕ → List ℕ
stage_leads Ask led = led
stage_leads (Wait ticket) led = led
stage_leads (Pick request) led = request ∷ led
stage_leads (Search request server) led = request ∷ led
stage_leads (Answer request answered) led = request ∷ led
stage_leads (Refuse request refusal) led = request ∷ led
stage_leads (Fall request server why) led = request ∷ led
stage_leads (Outage request) led = request ∷ led

-- the ticket that a lookup waits with
abbrev pub stage_waits : LookupStage → Option ℕ
stage_waits (Wait ticket) = Some ticket
stage_waits _ = None

-- the attempt of a login
abbrev pub stage_attempt : LoginStage → Option ℕ
stage_attempt stages.Open = None
stage_attempt (stages.Try attempt named right) = Some attempt
stage_attempt (stages.Pick attempt) = Some attempt
stage_attempt (stages.Bind attempt server) = Some attempt
stage_attempt (stages.Online attempt result) = Some attempt
stage_attempt (stages.Fall attempt server why) = Some attempt
stage_attempt (stages.Outage attempt) = Some attempt
stage_attempt stages.Look = None
stage_attempt (stages.Guess named right) = None

abbrev pub lookup_leads : LookupCourse → List ℕ
lookup_leads (Looking stage) = stage_leads stage []
lookup_leads (Saying said) = []
lookup_leads (SayingFirst said request) = request ∷ []
lookup_leads (Renewing stage) = stage_leads stage []
lookup_leads Over = []

abbrev pub lookup_waits : LookupCourse → Option ℕ
lookup_waits (Looking stage) = stage_waits stage
lookup_waits (Renewing stage) = stage_waits stage
lookup_waits _ = None

abbrev pub closing_leads : Closing → List ℕ
closing_leads (closings.Saying said led) = requests_of led
closing_leads (closings.Renewing key stage led) = stage_leads stage (requests_of led)
closing_leads closings.Over = []

abbrev pub closing_waits : Closing → Option ℕ
closing_waits (closings.Renewing key stage led) = stage_waits stage
closing_waits _ = None

abbrev pub login_leads : LoginCourse → List ℕ
login_leads (logins.Finding stage) = stage_leads stage []
login_leads (logins.Proving dn led stage) = requests_of led
login_leads (logins.Closed closing) = closing_leads closing

abbrev pub login_waits : LoginCourse → Option ℕ
login_waits (logins.Finding stage) = stage_waits stage
login_waits (logins.Proving dn led stage) = None
login_waits (logins.Closed closing) = closing_waits closing

abbrev pub access_leads : AccessCourse → List ℕ
access_leads (checks.Gathering key later led stage) = stage_leads stage (requests_of led)
access_leads (checks.Checking led) = requests_of led
access_leads (checks.Closed closing) = closing_leads closing

abbrev pub access_waits : AccessCourse → Option ℕ
access_waits (checks.Gathering key later led stage) = stage_waits stage
access_waits (checks.Checking led) = None
access_waits (checks.Closed closing) = closing_waits closing

abbrev pub login_attempt : LoginCourse → Option ℕ
login_attempt (logins.Proving dn led stage) = stage_attempt stage
login_attempt _ = None

-- the requests that are led
abbrev pub leads_in : Course → List ℕ
leads_in (LookingUp key course) = lookup_leads course
leads_in (LoggingIn words course) = login_leads course
leads_in (Checking words course) = access_leads course
leads_in (Ordering course) = []

-- the attempt of a login, where it has one
abbrev pub attempt_in : Course → Option ℕ
attempt_in (LoggingIn words course) = login_attempt course
attempt_in _ = None

abbrev pub waits_in : Course → Option ℕ
waits_in (LookingUp key course) = lookup_waits course
waits_in (LoggingIn words course) = login_waits course
waits_in (Checking words course) = access_waits course
waits_in (Ordering course) = None

-- no request in hand leads nothing, and waits for nothing
abbrev pub leads_of : Option Client → List ℕ
leads_of None = []
leads_of (Some client) = leads_in client.course

abbrev pub attempt_of : Option Client → Option ℕ
attempt_of None = None
attempt_of (Some client) = attempt_in client.course

abbrev pub waits_of : Option Client → Option ℕ
waits_of None = None
waits_of (Some client) = waits_in client.course

-- a lookup that renews an answer leads its request from its first stage on
abbrev pub is_leading : LookupStage → Bool
is_leading Ask = false
is_leading (Wait ticket) = false
is_leading _ = true

abbrev pub renews_in : LookupCourse → Bool
renews_in (Renewing stage) = is_leading stage
renews_in _ = true

abbrev pub closing_renews : Closing → Bool
closing_renews (closings.Renewing key stage led) = is_leading stage
closing_renews _ = true

abbrev pub login_renews : LoginCourse → Bool
login_renews (logins.Closed closing) = closing_renews closing
login_renews _ = true

abbrev pub access_renews : AccessCourse → Bool
access_renews (checks.Closed closing) = closing_renews closing
access_renews _ = true

abbrev pub renews : Course → Bool
renews (LookingUp key course) = renews_in course
renews (LoggingIn words course) = login_renews course
renews (Checking words course) = access_renews course
renews (Ordering course) = true

abbrev pub client_renews : Option Client → Bool
client_renews None = true
client_renews (Some client) = renews client.course

-- the client was told, and the request goes on for its own sake, or is over
abbrev pub lookup_is_told : LookupCourse → Bool
lookup_is_told (Renewing stage) = true
lookup_is_told Over = true
lookup_is_told _ = false

abbrev pub closing_is_told : Closing → Bool
closing_is_told (closings.Saying said led) = false
closing_is_told _ = true

abbrev pub login_is_told : LoginCourse → Bool
login_is_told (logins.Closed closing) = closing_is_told closing
login_is_told _ = false

abbrev pub access_is_told : AccessCourse → Bool
access_is_told (checks.Closed closing) = closing_is_told closing
access_is_told _ = false

abbrev pub order_is_told : AdminCourse → Bool
order_is_told orders.Over = true
order_is_told _ = false

abbrev pub is_told : Course → Bool
is_told (LookingUp key course) = lookup_is_told course
is_told (LoggingIn words course) = login_is_told course
is_told (Checking words course) = access_is_told course
is_told (Ordering course) = order_is_told course
