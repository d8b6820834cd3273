-- The script of a login: its user is looked up, then logged in at a server, or by a stored hash.
use Rattle.std.specs.Prelude.{ℕ, Bool, true, ◌||◌, ◌==◌, List, [], ◌∷◌, Option, Some, None, if◌then◌else◌}
use Rattle.sd_base.specs.declared.Why.TheVariants as whys
use Rattle.sd_rules.specs.declared.keys.Key.{Key}
use Rattle.sd_rules.specs.declared.keys.Key.TheVariants as keys
use Rattle.sd_rules.specs.declared.events.Event.TheVariants as events
use Rattle.sd_rules.specs.declared.events.Hash.{Hash}
use Rattle.sd_rules.specs.declared.events.LoginResult.{LoginResult}
use Rattle.sd_rules.specs.declared.events.LoginResult.TheVariants as results
use Rattle.sd_rules.specs.declared.replies.Given.{Given}
use Rattle.sd_rules.specs.declared.replies.Reply.{Reply}
use Rattle.sd_rules.specs.declared.replies.Reply.TheVariants as replies
use Rattle.sd_rules.specs.declared.replies.Verdict.{Verdict}
use Rattle.sd_rules.specs.declared.replies.Verdict.TheVariants as verdicts
use Rattle.sd_rules.specs.declared.scripts.LoginStage.{LoginStage}
use Rattle.sd_rules.specs.declared.scripts.LoginStage.TheVariants.{Open, Try, Pick, Bind, Online, Fall, Outage, Look, Guess}
use Rattle.sd_rules.specs.declared.scripts.LoginStep.{LoginStep}
use Rattle.sd_rules.specs.declared.scripts.LoginStep.TheVariants.{Next, Ended}
use Rattle.sd_rules.specs.declared.tasks.Bound.{Bound}
use Rattle.sd_rules.specs.declared.tasks.Bound.TheVariants as bounds
use Rattle.sd_rules.specs.declared.tasks.Said.TheVariants as says
use Rattle.sd_rules.specs.declared.scripts.Led.{Led}
use Rattle.sd_rules.specs.declared.scripts.LookupStage.{LookupStage}
use Rattle.sd_rules.specs.declared.scripts.LookupStage.TheVariants as stages
use Rattle.sd_rules.specs.declared.scripts.LookupStep.{LookupStep}
use Rattle.sd_rules.specs.declared.scripts.LookupStep.TheVariants as steps
use Rattle.sd_rules.specs.declared.tasks.Fetched.{Fetched}
use Rattle.sd_rules.specs.declared.tasks.Need.{Need}
use Rattle.sd_rules.specs.declared.tasks.Need.TheVariants as needs
use Rattle.sd_rules.specs.declared.tasks.Said.{Said}
use Rattle.sd_rules.specs.Keys.{same_name}
use Rattle.sd_rules.specs.Lookups.{lookup_need, lookup_replied, lookup_fetched, dn_said, is_stage_of_kind}
use Rattle.sd_rules.specs.Closings.{Closing, Saying, closing_need, closing_told, closing_replied, closing_fetched, closing_key, is_closing_of_kind}

-- How passwords are hashed: the hash of a password with a salt, and the salt of an attempt.
pub record Hashing : Type 0 where
  pub hash_of : List ℕ → List ℕ → Hash
  pub salt_of : ℕ → List ℕ

-- The words of a login, whether the hashes of passwords are stored, and how passwords are hashed.
pub record LoginWords : Type 0 where
  pub user : List ℕ
  pub password : List ℕ
  pub stores : Bool
  pub hashing : Hashing

-- a password is right by a hash where hashing it with the same salt gives the same digest
abbrev pub is_right_by : LoginWords → Hash → Bool
is_right_by words hash = same_name (words.hashing.hash_of hash.salt words.password).digest hash.digest

-- the hash that a right password leaves, where hashes are stored
abbrev pub hash_left : LoginWords → ℕ → Option Hash
hash_left words attempt =
    if words.stores then Some (words.hashing.hash_of (words.hashing.salt_of attempt) words.password) else None

-- What the login of a user with this distinguished name needs next.
abbrev pub login_need : LoginWords → List ℕ → LoginStage → Need
login_need words dn Open = needs.Step (events.LoginOpen words.user)
login_need words dn (Try attempt named right) = needs.Step (events.LoginTry attempt named right)
login_need words dn (Pick attempt) = needs.Step (events.Pick attempt)
login_need words dn (Bind attempt server) = needs.Bind server dn words.password
login_need words dn (Online attempt result) = needs.Step (events.LoginOnline attempt result)
login_need words dn (Fall attempt server why) = needs.Step (events.Fall attempt server why)
login_need words dn (Outage attempt) = needs.Step (events.Outage attempt)
login_need words dn Look = needs.Step (events.LoginLook words.user)
login_need words dn (Guess named right) = needs.Step (events.LoginGuess words.user named right)

-- Each event has the replies that are named here. After any other the outcome is that the login was dropped by the entry so
-- replied: no such attempt is open. A reply that names a hash brings it; without it a login goes to a server, or counts as dropped
-- where it may not go there.
abbrev pub after_cached : LoginWords → ℕ → ℕ → Option Hash → LoginStep
after_cached words attempt named (Some hash) = Next (Try attempt named (is_right_by words hash))
after_cached words attempt named None = Next (Pick attempt)

abbrev pub after_open : LoginWords → ℕ → Option Hash → Reply → LoginStep
after_open words number hash (replies.Offline outage) = Next Look
after_open words number hash (replies.Cached attempt named) = after_cached words attempt named hash
after_open words number hash (replies.Bind attempt) = Next (Pick attempt)
after_open words number hash _ = Ended (says.Dropped number)

-- a try that is not accepted goes on at a server
abbrev pub after_try : ℕ → ℕ → Reply → LoginStep
after_try attempt number (replies.Tried verdicts.Accepted) = Ended (says.AcceptedOnline number)
after_try attempt number (replies.Tried verdict) = Next (Pick attempt)
after_try attempt number _ = Ended (says.Dropped number)

abbrev pub after_login_pick : ℕ → ℕ → Reply → LoginStep
after_login_pick attempt number (replies.Server server) = Next (Bind attempt server)
after_login_pick attempt number replies.NoServer = Next (Outage attempt)
after_login_pick attempt number _ = Ended (says.Dropped number)

abbrev pub online_said : ℕ → LoginResult → Said
online_said number (results.Right hash) = says.AcceptedOnline number
online_said number results.Wrong = says.WrongOnline number
online_said number (results.Refused code) = says.Refused code

abbrev pub after_online : LoginResult → ℕ → Reply → LoginStep
after_online result number replies.Closed = Ended (online_said number result)
after_online result number _ = Ended (says.Dropped number)

abbrev pub after_login_fall : ℕ → ℕ → Reply → LoginStep
after_login_fall attempt number replies.Noted = Next (Pick attempt)
after_login_fall attempt number replies.NotPicked = Next (Pick attempt)
after_login_fall attempt number _ = Ended (says.Dropped number)

abbrev pub after_login_outage : ℕ → ℕ → Reply → LoginStep
after_login_outage attempt number (replies.Servable server) = Next (Pick attempt)
after_login_outage attempt number replies.Closed = Next Look
after_login_outage attempt number _ = Ended (says.Dropped number)

abbrev pub after_hash : LoginWords → ℕ → ℕ → Option Hash → LoginStep
after_hash words number named (Some hash) = Next (Guess named (is_right_by words hash))
after_hash words number named None = Ended (says.Dropped number)

abbrev pub after_look : LoginWords → ℕ → Option Hash → Reply → LoginStep
after_look words number hash replies.NoHash = Ended says.NoHash
after_look words number hash (replies.Hash named) = after_hash words number named hash
after_look words number hash _ = Ended (says.Dropped number)

-- a verdict on a guess; the stored hash is looked for again where a newer one was stored
abbrev pub after_verdict : ℕ → Verdict → LoginStep
after_verdict number verdicts.Unknown = Ended says.NoHash
after_verdict number (verdicts.Expired moment) = Ended (says.Expired moment)
after_verdict number (verdicts.Blocked until) = Ended (says.Blocked until)
after_verdict number (verdicts.Stale newest) = Next Look
after_verdict number verdicts.Accepted = Ended (says.AcceptedOffline number)
after_verdict number verdicts.Wrong = Ended (says.WrongOffline number)

abbrev pub after_guess : ℕ → Reply → LoginStep
after_guess number (replies.Judged verdict) = after_verdict number verdict
after_guess number _ = Ended (says.Dropped number)

-- how a login goes on after a reply
abbrev pub login_replied : LoginWords → LoginStage → Given → LoginStep
login_replied words Open given = after_open words given.number given.hash given.reply
login_replied words (Try attempt named right) given = after_try attempt given.number given.reply
login_replied words (Pick attempt) given = after_login_pick attempt given.number given.reply
login_replied words (Bind attempt server) given = Next (Bind attempt server)
login_replied words (Online attempt result) given = after_online result given.number given.reply
login_replied words (Fall attempt server why) given = after_login_fall attempt given.number given.reply
login_replied words (Outage attempt) given = after_login_outage attempt given.number given.reply
login_replied words Look given = after_look words given.number given.hash given.reply
login_replied words (Guess named right) given = after_guess given.number given.reply

-- what is recorded of a result code of a bind (RFC 4511 section 4.1.9): 0 is success, 49 wrong credentials, and 51 and 52 say
-- that the server can't serve
abbrev pub after_code : LoginWords → ℕ → ℕ → ℕ → LoginStage
after_code words attempt server code =
    if code == 0 then Online attempt (results.Right (hash_left words attempt))
    else if code == 49 then Online attempt results.Wrong
    else if (code == 51) || (code == 52) then Fall attempt server (whys.Code code)
    else Online attempt (results.Refused code)

-- what is recorded of a bind; want of memory gives nothing to record
abbrev pub after_bind : LoginWords → ℕ → ℕ → Bound → LoginStage
after_bind words attempt server (bounds.Code code) = after_code words attempt server code
after_bind words attempt server (bounds.Failed why) = Fall attempt server why
after_bind words attempt server bounds.Memory = Bind attempt server

abbrev pub login_bound : LoginWords → LoginStage → Bound → LoginStage
login_bound words (Bind attempt server) bound = after_bind words attempt server bound
login_bound words stage bound = stage

-- How far a login has come: its user is looked up; then the user with this distinguished name is logged in; then it closes.
-- The list is of the requests that it leads to renew answers.
pub data LoginCourse : Type 0 where
  Finding : LookupStage → LoginCourse
  Proving : List ℕ → List Led → LoginStage → LoginCourse
  Closed : Closing → LoginCourse

-- any outcome but a found user is the answer
abbrev pub found_by : Said → List Led → Option (List ℕ) → LoginCourse
found_by said led (Some dn) = Proving dn led Open
found_by said led None = Closed (Saying said led)

abbrev pub finding : List ℕ → LookupStep → LoginCourse
finding user (steps.Next stage) = Finding stage
finding user (steps.Ended said) = found_by said [] (dn_said said)
finding user (steps.Renew said request) =
    found_by said (record { request = request; key = keys.User user } ∷ []) (dn_said said)

abbrev pub proving : List ℕ → List Led → LoginStep → LoginCourse
proving dn led (Next stage) = Proving dn led stage
proving dn led (Ended said) = Closed (Saying said led)

abbrev pub login_course_need : LoginWords → LoginCourse → Need
login_course_need words (Finding stage) = lookup_need (keys.User words.user) stage
login_course_need words (Proving dn led stage) = login_need words dn stage
login_course_need words (Closed closing) = closing_need closing

abbrev pub login_course_told : LoginCourse → LoginCourse
login_course_told (Closed closing) = Closed (closing_told closing)
login_course_told course = course

abbrev pub login_course_replied : LoginWords → LoginCourse → Given → LoginCourse
login_course_replied words (Finding stage) given = finding words.user (lookup_replied stage given)
login_course_replied words (Proving dn led stage) given = proving dn led (login_replied words stage given)
login_course_replied words (Closed closing) given = Closed (closing_replied closing given)

abbrev pub login_course_fetched : LoginCourse → Fetched → LoginCourse
login_course_fetched (Finding stage) fetched = Finding (lookup_fetched stage fetched)
login_course_fetched (Proving dn led stage) fetched = Proving dn led stage
login_course_fetched (Closed closing) fetched = Closed (closing_fetched closing fetched)

abbrev pub login_course_bound : LoginWords → LoginCourse → Bound → LoginCourse
login_course_bound words (Proving dn led stage) bound = Proving dn led (login_bound words stage bound)
login_course_bound words course bound = course

abbrev pub login_key : LoginWords → LoginCourse → Option Key
login_key words (Finding stage) = Some (keys.User words.user)
login_key words (Proving dn led stage) = None
login_key words (Closed closing) = closing_key closing

-- an empty password is denied at once
abbrev pub login_begun : List ℕ → LoginCourse
login_begun [] = Closed (Saying says.DeniedEmpty [])
login_begun (byte ∷ bytes) = Finding stages.Ask

abbrev pub is_login_of_kind : LoginWords → LoginCourse → Bool
is_login_of_kind words (Finding stage) = is_stage_of_kind (keys.User words.user) stage
is_login_of_kind words (Proving dn led stage) = true
is_login_of_kind words (Closed closing) = is_closing_of_kind closing
