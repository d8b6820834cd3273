-- What a journal says of users, by their names. A past is the list of its entries, the newest first.
use Rattle.std.specs.Prelude.{◌≡◌, ℕ, Bool, true, false, nat_lt, List, [], ◌∷◌, ◌++◌, Option, Some, None, if◌then◌else◌}
use Rattle.std.specs.Map.{lookup}
use Rattle.sd_rules.specs.declared.events.Event.{Event}
use Rattle.sd_rules.specs.declared.events.Event.TheVariants.{LoginOnline, LoginGuess, LoginTry, Kept}
use Rattle.sd_rules.specs.declared.events.LoginResult.{LoginResult}
use Rattle.sd_rules.specs.declared.events.LoginResult.TheVariants.{Right}
use Rattle.sd_rules.specs.declared.events.Row.{Row}
use Rattle.sd_rules.specs.declared.events.Row.TheVariants as rows
use Rattle.sd_rules.specs.declared.replies.Entry.{Entry}
use Rattle.sd_rules.specs.declared.replies.Reply.{Reply}
use Rattle.sd_rules.specs.Keys.{same_name}
use Rattle.sd_rules.specs.Logins.{Login, user_of, accepts, is_right, is_accepted, hash_entry, last_online_login}
use Rattle.sd_rules.specs.Past.{is_closed}
use Rattle.sd_rules.specs.Requests.{is_try_accepted}
use Rattle.sd_findings.specs.declared.users.Users.{Users}

-- the number that is kept under a name
abbrev pub number_under : List (List ℕ × ℕ) → List ℕ → Option ℕ
number_under names name = lookup (same_name name) names

-- a name, where there is one, has this number now, and each other name what it had
abbrev pub put_under : Option (List ℕ) → ℕ → List ℕ → Option ℕ → Option ℕ
put_under None number name before = before
put_under (Some user) number name before = if same_name user name then Some number else before

-- a right password carries its hash
abbrev pub carries_hash : LoginResult → Bool
carries_hash (Right (Some hash)) = true
carries_hash _ = false

-- the user whose online login, which carries a hash, an entry is
abbrev pub user_of_hash : Row → Option (List ℕ)
user_of_hash (rows.Hash n m user hash) = Some user
user_of_hash _ = None

abbrev pub user_hashed : List Entry → Event → Reply → Option (List ℕ)
user_hashed past (LoginOnline attempt result) reply =
    if is_closed reply then (if carries_hash result then user_of past attempt else None) else None
user_hashed past (Kept row) reply = user_of_hash row
user_hashed past _ reply = None

-- the user whom an entry accepts
abbrev pub user_accepted : List Entry → Event → Reply → Option (List ℕ)
user_accepted past (LoginOnline attempt result) reply =
    if is_right result then (if is_closed reply then user_of past attempt else None) else None
user_accepted past (LoginGuess user named right) reply = if is_accepted reply then Some user else None
user_accepted past (LoginTry attempt named right) reply = if is_try_accepted reply then user_of past attempt else None
user_accepted past _ reply = None

-- the last entry that accepted a user
abbrev pub last_accepting : List Entry → List ℕ → Option ℕ
last_accepting [] user = None
last_accepting (e ∷ past) user = if accepts past user e.event e.reply then Some e.number else last_accepting past user

abbrev pub number_of_login : Option Login → Option ℕ
number_of_login None = None
number_of_login (Some l) = Some l.number

-- the numbers of the last online login of each user, of each user's hash entry, and of the last entry that accepted each
pub record HoldLogins (past : List Entry) (names : List (List ℕ × ℕ)) : Type 0 where
  pub each : (user : List ℕ) → number_under names user ≡ number_of_login (last_online_login past user)

pub record HoldHashes (past : List Entry) (names : List (List ℕ × ℕ)) : Type 0 where
  pub each : (user : List ℕ) → number_under names user ≡ number_of_login (hash_entry past user)

pub record HoldAccepts (past : List Entry) (names : List (List ℕ × ℕ)) : Type 0 where
  pub each : (user : List ℕ) → number_under names user ≡ last_accepting past user

pub record HoldUsers (past : List Entry) (u : Users) : Type 0 where
  pub logins : HoldLogins past u.logins.entries
  pub hashes : HoldHashes past u.hashes.entries
  pub accepts : HoldAccepts past u.accepts.entries

-- an entry is among those of a past: behind newer ones, before older ones
pub record StandsIn (all : List Entry) (e : Entry) : Type 0 where
  pub newer : List Entry
  pub past : List Entry
  pub split : all ≡ newer ++ e ∷ past

-- an entry of this number stands after the last that accepted
abbrev pub is_after : ℕ → Option ℕ → Bool
is_after n None = true
is_after n (Some m) = nat_lt m n
