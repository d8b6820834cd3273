-- Logins: stored hashes, online logins, wrong guesses, and the verdict on a password that was compared with a stored hash.
use Rattle.std.specs.Prelude.{ℕ, Bool, true, false, ◌&&◌, ◌==◌, ◌+◌, ◌-◌, ◌*◌, ◌%◌, ◌^◌, min, not, nat_lt, List, [], ◌∷◌, Option, Some, None, if◌then◌else◌}
use Rattle.sd_rules.specs.declared.events.Event.{Event}
use Rattle.sd_rules.specs.declared.events.Event.TheVariants.{LoginOpen, LoginOnline, LoginGuess, LoginTry, Kept}
use Rattle.sd_rules.specs.declared.events.LoginResult.{LoginResult}
use Rattle.sd_rules.specs.declared.events.LoginResult.TheVariants.{Right}
use Rattle.sd_rules.specs.declared.events.Row.{Row}
use Rattle.sd_rules.specs.declared.events.Row.TheVariants as rows
use Rattle.sd_rules.specs.declared.settings.Settings.{Settings}
use Rattle.sd_rules.specs.declared.replies.Entry.{Entry}
use Rattle.sd_rules.specs.declared.replies.Reply.{Reply}
use Rattle.sd_rules.specs.declared.replies.Reply.TheVariants as replies
use Rattle.sd_rules.specs.declared.replies.Verdict.{Verdict}
use Rattle.sd_rules.specs.declared.replies.Verdict.TheVariants as verdicts
use Rattle.sd_rules.specs.Keys.{same_name}
use Rattle.sd_rules.specs.Past.{is_closed}
use Rattle.sd_rules.specs.Requests.{is_try_accepted}

abbrev pub user_opened : Event → Option (List ℕ)
user_opened (LoginOpen user) = Some user
user_opened _ = None

-- the user of an attempt, named by the entry of its number
abbrev pub user_of : List Entry → ℕ → Option (List ℕ)
user_of [] attempt = None
user_of (e ∷ past) attempt = if e.number == attempt then user_opened e.event else user_of past attempt

abbrev pub is_name : Option (List ℕ) → List ℕ → Bool
is_name None user = false
is_name (Some name) user = same_name name user

abbrev pub is_attempt_of : List Entry → ℕ → List ℕ → Bool
is_attempt_of past attempt user = is_name (user_of past attempt) user

-- whether a right password carries its hash; no other result is an online login
abbrev pub hash_carried : LoginResult → Option Bool
hash_carried (Right (Some hash)) = Some true
hash_carried (Right None) = Some false
hash_carried _ = None

-- whether a kept row is an online login of the user, and then whether it carries a hash
abbrev pub kept_login : Row → List ℕ → Option Bool
kept_login (rows.Hash n m u hash) user = if same_name u user then Some true else None
kept_login (rows.Online n m u) user = if same_name u user then Some false else None
kept_login _ user = None

-- whether an entry is an online login of the user, and then whether it carries a hash
abbrev pub login_by : List Entry → List ℕ → Event → Reply → Option Bool
login_by past user (LoginOnline attempt result) reply =
    if is_closed reply && is_attempt_of past attempt user then hash_carried result else None
login_by past user (Kept row) reply = kept_login row user
login_by past user _ reply = None

-- an online login of a user, as it stands in the past
pub record Login : Type 0 where
  pub number : ℕ
  pub moment : ℕ
  pub hashed : Bool

abbrev pub login_in : Entry → Option Bool → Option Login
login_in e None = None
login_in e (Some hashed) = Some (record { number = e.number; moment = e.moment; hashed = hashed })

abbrev pub or_earlier : Option Login → Option Login → Option Login
or_earlier (Some l) earlier = Some l
or_earlier None earlier = earlier

-- the last online login of a user
abbrev pub last_online_login : List Entry → List ℕ → Option Login
last_online_login [] user = None
last_online_login (e ∷ past) user =
    or_earlier (login_in e (login_by past user e.event e.reply)) (last_online_login past user)

abbrev pub only_hashed : Option Login → Option Login
only_hashed None = None
only_hashed (Some l) = if l.hashed then Some l else None

-- the hash entry of a user: the last online login that carries a hash
abbrev pub hash_entry : List Entry → List ℕ → Option Login
hash_entry [] user = None
hash_entry (e ∷ past) user =
    or_earlier (only_hashed (login_in e (login_by past user e.event e.reply))) (hash_entry past user)

abbrev pub is_right : LoginResult → Bool
is_right (Right hash) = true
is_right _ = false

abbrev pub is_accepted : Reply → Bool
is_accepted (replies.Judged verdicts.Accepted) = true
is_accepted _ = false

abbrev pub is_wrong : Reply → Bool
is_wrong (replies.Judged verdicts.Wrong) = true
is_wrong _ = false

-- an entry accepts the user, online or by a stored hash
abbrev pub accepts : List Entry → List ℕ → Event → Reply → Bool
accepts past user (LoginOnline attempt result) reply =
    is_right result && (is_closed reply && is_attempt_of past attempt user)
accepts past user (LoginGuess u named right) reply = is_accepted reply && same_name u user
accepts past user (LoginTry attempt named right) reply = is_try_accepted reply && is_attempt_of past attempt user
accepts past user _ reply = false

-- how many wrong guesses of the user an entry counts for
abbrev pub wrongs : List ℕ → Event → Reply → ℕ
wrongs user (LoginGuess u named right) reply = if is_wrong reply && same_name u user then 1 else 0
wrongs user (Kept (rows.Wrong n m u count)) reply = if same_name u user then count else 0
wrongs user _ reply = 0

-- how many guesses of the user were judged wrong since the last entry that accepted the user
abbrev pub wrong_count : List Entry → List ℕ → ℕ
wrong_count [] user = 0
wrong_count (e ∷ past) user =
    if accepts past user e.event e.reply then 0 else wrongs user e.event e.reply + wrong_count past user

-- the moment of the user's last wrong guess
abbrev pub last_wrong : List Entry → List ℕ → Option ℕ
last_wrong [] user = None
last_wrong (e ∷ past) user = if wrongs user e.event e.reply == 0 then last_wrong past user else Some e.moment

-- the last moment at which the hash of a login may be used
abbrev pub expiry_of : Settings → Login → ℕ
expiry_of s l = l.moment + 86400 * s.expiration_days

abbrev pub is_expired : Settings → ℕ → Login → Bool
is_expired s t l = not (s.expiration_days == 0) && nat_lt (expiry_of s l) t

-- so many wrong guesses block
abbrev pub is_at_limit : Settings → ℕ → Bool
is_at_limit s w = not (s.attempts == 0) && (not (w == 0) && (w % s.attempts == 0))

-- a block until a moment, as far as a number of 64 bits can say it, or until an online login
abbrev pub block_until : Settings → ℕ → Option ℕ → Option Verdict
block_until s t None = None
block_until s t (Some wrong) =
    if s.delay_minutes == 0 then Some (verdicts.Blocked None)
    else if nat_lt t (wrong + 60 * s.delay_minutes) then
    Some (verdicts.Blocked (Some (min (wrong + 60 * s.delay_minutes) (2 ^ 64 - 1))))
    else None

-- the block that so many wrong guesses, of which the last was at a moment, bring at t
abbrev pub block_of : Settings → ℕ → ℕ → Option ℕ → Option Verdict
block_of s t w wrong = if is_at_limit s w then block_until s t wrong else None

-- the verdict where only the hash that was compared and the guess matter
abbrev pub verdict_by_guess : Login → ℕ → Bool → Verdict
verdict_by_guess l named right =
    if not (l.number == named) then verdicts.Stale l.number
    else if right then verdicts.Accepted
    else verdicts.Wrong

abbrev pub verdict_unless_blocked : Option Verdict → Login → ℕ → Bool → Verdict
verdict_unless_blocked (Some block) l named right = block
verdict_unless_blocked None l named right = verdict_by_guess l named right

-- the verdict by the hash entry, the wrong guesses and the moment of the last of them
abbrev pub verdict_by_hash : Settings → ℕ → ℕ → Option ℕ → Option Login → ℕ → Bool → Verdict
verdict_by_hash s t w wrong None named right = verdicts.Unknown
verdict_by_hash s t w wrong (Some l) named right =
    if is_expired s t l then verdicts.Expired (expiry_of s l)
    else verdict_unless_blocked (block_of s t w wrong) l named right

-- the hash entry of a user, where hashes are used
abbrev pub usable_hash : Settings → List Entry → List ℕ → Option Login
usable_hash s past user = if s.cache_credentials then hash_entry past user else None

-- the verdict on a guess: the first case that holds
abbrev pub verdict_of : Settings → List Entry → ℕ → List ℕ → ℕ → Bool → Verdict
verdict_of s past t user named right =
    verdict_by_hash s t (wrong_count past user) (last_wrong past user) (usable_hash s past user) named right

-- the first moment at which an online login lets its hash be used no more without the directory
abbrev pub cached_until : Settings → Login → ℕ
cached_until s l = l.moment + s.cached_auth_timeout

-- the last online login of a user, where it carries a hash and hashes are used
abbrev pub usable_login : Settings → List Entry → List ℕ → Option Login
usable_login s past user = if s.cache_credentials then only_hashed (last_online_login past user) else None

abbrev pub still_cached : Settings → ℕ → Option Login → Option ℕ
still_cached s t None = None
still_cached s t (Some l) = if nat_lt t (cached_until s l) then Some l.number else None

-- the online login whose hash a login may use while the directory can be reached
abbrev pub cached_login : Settings → List Entry → ℕ → List ℕ → Option ℕ
cached_login s past t user =
    if s.cached_auth_timeout == 0 then None else still_cached s t (usable_login s past user)

abbrev pub verdict_by_login : Settings → ℕ → Option Login → ℕ → Bool → Verdict
verdict_by_login s t None named right = verdicts.Unknown
verdict_by_login s t (Some l) named right =
    if nat_lt t (cached_until s l) then verdict_by_guess l named right
    else verdicts.Expired (min (cached_until s l) (2 ^ 64 - 1))

-- the verdict on a try: the first case that holds
abbrev pub verdict_of_try : Settings → List Entry → ℕ → List ℕ → ℕ → Bool → Verdict
verdict_of_try s past t user named right = verdict_by_login s t (usable_login s past user) named right
