-- What entries say of users' logins, and marks of users that say it.
use Rattle.std.specs.Prelude.{◌≡◌, ◌≢◌, ◌<◌, ◌+◌, ◌^◌, ◌==◌, ℕ, Bool, true, false, List, [], ◌∷◌, Option, Some, None, ⊤, if◌then◌else◌}
use Rattle.std.specs.Option.{option_map}
use Rattle.sd_rules.specs.declared.events.Event.{Event}
use Rattle.sd_rules.specs.declared.events.Event.TheVariants.{LoginOnline, LoginGuess, LoginTry, Kept}
use Rattle.sd_rules.specs.declared.events.Row.{Row}
use Rattle.sd_rules.specs.declared.events.Row.TheVariants as rows
use Rattle.sd_rules.specs.declared.replies.Entry.{Entry}
use Rattle.sd_rules.specs.declared.replies.Reply.{Reply}
use Rattle.sd_rules.specs.declared.replies.Reply.TheVariants as replies
use Rattle.sd_rules.specs.declared.replies.Verdict.TheVariants as verdicts
use Rattle.sd_rules.specs.Logins as logins
use Rattle.sd_rules.specs.Past.{is_closed}
use Rattle.sd_rules.specs.Requests.{is_try_accepted}
use Rattle.sd_keeping.specs.Counts.{HasCounts}
use Rattle.sd_creds.specs.declared.marks.Mark.{Mark}
use Rattle.sd_creds.specs.Marks.{Sets, is_marked, mark_of, with_accept, with_hash, with_login, with_wrong}
use Rattle.sd_rules.specs.Limits as seen
use Rattle.sd_books.specs.declared.notes.LoginWord.{LoginWord}
use Rattle.sd_books.specs.declared.notes.LoginWord.TheVariants.{Login, KeptLogin, Acceptance, WrongGuesses, Nothing}
use Rattle.sd_books.specs.declared.notes.Note.{Note}

-- the user of a kept row that tells of logins
abbrev pub user_of_row : Row → Option (List ℕ)
user_of_row (rows.Hash n m user hash) = Some user
user_of_row (rows.Online n m user) = Some user
user_of_row (rows.Wrong n m user count) = Some user
user_of_row _ = None

-- the user whose logins an event may tell of
abbrev pub user_concerned : List Entry → Event → Option (List ℕ)
user_concerned past (LoginOnline attempt result) = logins.user_of past attempt
user_concerned past (LoginTry attempt named right) = logins.user_of past attempt
user_concerned past (LoginGuess user named right) = Some user
user_concerned past (Kept row) = user_of_row row
user_concerned past _ = None

abbrev pub word_of_login : Option Bool → LoginWord
word_of_login (Some hashed) = Login hashed
word_of_login None = Nothing

abbrev pub word_of_guess : Reply → LoginWord
word_of_guess (replies.Judged verdicts.Accepted) = Acceptance
word_of_guess (replies.Judged verdicts.Wrong) = WrongGuesses 1
word_of_guess _ = Nothing

abbrev pub word_of_row : Row → LoginWord
word_of_row (rows.Hash n m user hash) = KeptLogin true
word_of_row (rows.Online n m user) = KeptLogin false
word_of_row (rows.Wrong n m user count) = WrongGuesses count
word_of_row _ = Nothing

-- what an event and its reply tell of that user's logins
abbrev pub word_of : Event → Reply → LoginWord
word_of (LoginOnline attempt result) reply = if is_closed reply then word_of_login (logins.hash_carried result) else Nothing
word_of (LoginGuess user named right) reply = word_of_guess reply
word_of (LoginTry attempt named right) reply = if is_try_accepted reply then Acceptance else Nothing
word_of (Kept row) reply = word_of_row row
word_of _ reply = Nothing

-- the user of whom a word is told
abbrev pub user_by_word : LoginWord → Option (List ℕ) → Option (List ℕ)
user_by_word Nothing user = None
user_by_word _ user = user

-- the user of whose logins an entry tells
abbrev pub user_told : List Entry → Entry → Option (List ℕ)
user_told past e = user_by_word (word_of e.event e.reply) (user_concerned past e.event)

abbrev pub note_of : Entry → Note
note_of e = record { number = e.number; moment = e.moment; word = word_of e.event e.reply }

-- whether a word is an online login, and then whether it carries a hash
abbrev pub login_told : LoginWord → Option Bool
login_told (Login hashed) = Some hashed
login_told (KeptLogin hashed) = Some hashed
login_told _ = None

abbrev pub accept_told : LoginWord → Bool
accept_told (Login hashed) = true
accept_told Acceptance = true
accept_told _ = false

abbrev pub wrongs_told : LoginWord → ℕ
wrongs_told (WrongGuesses count) = count
wrongs_told _ = 0

-- a mark with an online login, which is the hash entry where it carries a hash
abbrev pub with_own_login : Note → Bool → Mark → Mark
with_own_login note true m = with_hash note.number note.moment (with_login note.number note.moment true m)
with_own_login note false m = with_login note.number note.moment false m

abbrev pub with_word : Note → LoginWord → Mark → Mark
with_word note (Login hashed) m = with_accept (with_own_login note hashed m)
with_word note (KeptLogin hashed) m = with_own_login note hashed m
with_word note Acceptance m = with_accept m
with_word note (WrongGuesses count) m = if count == 0 then m else with_wrong note.moment count m
with_word note Nothing m = m

-- a mark with what a note tells
abbrev pub mark_with : Note → Mark → Mark
mark_with note m = with_word note note.word m

-- A mark says of a user what entries say; of the last wrong guess only where wrong guesses count, since it is asked for only there.
pub record SaysOf (past : List Entry) (user : List ℕ) (m : Mark) : Type 0 where
  pub hash : logins.hash_entry past user ≡ option_map seen.login m.hash
  pub login : logins.last_online_login past user ≡ option_map seen.login m.login
  pub wrong_count : logins.wrong_count past user ≡ m.wrong_count
  pub last_wrong : logins.wrong_count past user ≢ 0 → logins.last_wrong past user ≡ m.last_wrong

-- marks say so of every user
pub record SayOfUsers (marks : List (List ℕ × Mark)) (past : List Entry) : Type 0 where
  pub each : (user : List ℕ) → SaysOf past user (mark_of marks user)

-- the user has a mark, where one is named
abbrev pub HasMark : List (List ℕ × Mark) → Option (List ℕ) → Type 0
HasMark marks None = ⊤
HasMark marks (Some user) = is_marked marks user ≡ true

-- the wrong guesses of the user stay within 64 bits
abbrev pub HasCount : List (List ℕ × Mark) → Option (List ℕ) → Note → Type 0
HasCount marks None note = ⊤
HasCount marks (Some user) note = (mark_of marks user).wrong_count + wrongs_told note.word < 2 ^ 64

-- the mark of the user has what a note tells, and all others stay
abbrev pub Keeps : List (List ℕ × Mark) → List (List ℕ × Mark) → Option (List ℕ) → Note → Type 0
Keeps old new None note = new ≡ old
Keeps old new (Some user) note = Sets old new user (mark_with note (mark_of old user))

-- the wrong guesses of each user that count were a number of 64 bits after each entry
abbrev pub HadCounts : List Entry → Type 0
HadCounts [] = HasCounts []
HadCounts (e ∷ past) = HasCounts (e ∷ past) × HadCounts past

-- the reply to who looks for the stored hash that stands at an entry, where hashes are used
abbrev pub reply_by_hash : Bool → Option ℕ → Reply
reply_by_hash true (Some number) = replies.Hash number
reply_by_hash _ _ = replies.NoHash
