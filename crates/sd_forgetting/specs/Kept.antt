-- What a part of a journal shows to later events, where it shows all that the whole does.
use Rattle.std.specs.Prelude.{ℕ, Bool, true, false, ◌≡◌, ◌≢◌, ◌≤◌, length, is_some, List, Some}
use Rattle.sd_rules.specs.declared.keys.Key.{Key}
use Rattle.sd_rules.specs.declared.records.Answered.{Answered}
use Rattle.sd_rules.specs.declared.replies.Entry.{Entry}
use Rattle.sd_rules.specs.Past.{Standing, newest, is_void_after}
use Rattle.sd_rules.specs.Requests.{is_open, is_open_request, is_open_attempt, reserves, waits_for, outcome_of}
use Rattle.sd_rules.specs.Servers.{has_fallen_under, has_fallen_lately, was_picked}
use Rattle.sd_rules.specs.Logins.{Login, hash_entry, last_online_login, wrong_count, last_wrong}
use Rattle.sd_rules.specs.Needed.{last_where, is_stop, answer_of_outcome}
use Rattle.sd_rules.specs.Steps.{Daemon, number_after, moment_after, void_since}
use Rattle.sd_rules.specs.TextBytes.{text_bytes}
use Rattle.sd_forgetting.specs.Parts.{part, entry_at}
use Rattle.sd_forgetting.specs.Orderly.{last_word}

-- the entries that reserve a place
abbrev pub reserving : List Entry → List Entry
reserving past = part (λ before (e : Entry). reserves past e.number) past

-- the operator ended the daemon
abbrev pub has_stop : List Entry → Bool
has_stop past = is_some (last_where (λ (e : Entry). is_stop e.event) past)

-- requests and attempts: which are open, which entries opened them, their falls, their last picks, what was invalidated since the last asking
pub record SameOpen (whole kept : List Entry) : Type 0 where
  pub reserved : reserving whole ≡ reserving kept
  pub requests : (n : ℕ) → is_open_request whole n ≡ is_open_request kept n
  pub attempts : (n : ℕ) → is_open_attempt whole n ≡ is_open_attempt kept n
  pub leads : (n : ℕ) → is_open whole n ≡ true → entry_at whole n ≡ entry_at kept n
  pub falls : (n i : ℕ) → is_open whole n ≡ true → has_fallen_under whole n i ≡ has_fallen_under kept n i
  pub picks : (n i : ℕ) → is_open whole n ≡ true → was_picked whole n i ≡ was_picked kept n i
  pub voids : (n : ℕ) (own : Key) (answered : Answered) → is_open_request whole n ≡ true →
      void_since whole n own answered ≡ void_since kept n own answered

-- answers: the newest of each key, and whether it is voided
pub record SameAnswers (whole kept : List Entry) : Type 0 where
  pub is_newest : (k : Key) → newest whole k ≡ newest kept k
  pub voided : (k : Key) (a : Standing) → newest whole k ≡ Some a → is_void_after whole a ≡ is_void_after kept a
  pub entries : (k : Key) (a : Standing) → newest whole k ≡ Some a → entry_at whole a.number ≡ entry_at kept a.number

-- tickets: which wait, who asked, and what they will take
pub record SameTickets (whole kept : List Entry) : Type 0 where
  pub waiting : (t : ℕ) → waits_for whole t ≡ waits_for kept t
  pub joins : (t r : ℕ) → waits_for whole t ≡ Some r → entry_at whole t ≡ entry_at kept t
  pub outcomes : (t r : ℕ) → waits_for whole t ≡ Some r → is_open_request whole r ≡ false → outcome_of whole r ≡ outcome_of kept r
  pub named : (t r n : ℕ) → waits_for whole t ≡ Some r → is_open_request whole r ≡ false → answer_of_outcome (outcome_of whole r) ≡ Some n →
      entry_at whole n ≡ entry_at kept n

-- logins: the last online one and the hash entry of each user, and the wrong guesses that count
pub record SameLogins (whole kept : List Entry) : Type 0 where
  pub hashes : (user : List ℕ) → hash_entry whole user ≡ hash_entry kept user
  pub hashed : (user : List ℕ) (l : Login) → hash_entry whole user ≡ Some l → entry_at whole l.number ≡ entry_at kept l.number
  pub logins : (user : List ℕ) → last_online_login whole user ≡ last_online_login kept user
  pub online : (user : List ℕ) (l : Login) → last_online_login whole user ≡ Some l → entry_at whole l.number ≡ entry_at kept l.number
  pub wrongs : (user : List ℕ) → wrong_count whole user ≡ wrong_count kept user
  pub last_wrongs : (user : List ℕ) → wrong_count whole user ≢ 0 → last_wrong whole user ≡ last_wrong kept user

-- servers, outages, and the end of the journal
pub record SameEnds (whole kept : List Entry) : Type 0 where
  pub lately : (t i : ℕ) → has_fallen_lately whole t i ≡ has_fallen_lately kept t i
  pub word : last_word whole ≡ last_word kept
  pub stopped : has_stop whole ≡ has_stop kept
  pub number : (next : ℕ) → number_after next whole ≡ number_after next kept
  pub moment : (floor t : ℕ) → moment_after floor whole t ≡ moment_after floor kept t

-- A part of a journal shows all that the whole shows, and is no longer.
pub record IsKeptOf (whole kept : List Entry) : Type 0 where
  pub opens : SameOpen whole kept
  pub answers : SameAnswers whole kept
  pub tickets : SameTickets whole kept
  pub logins : SameLogins whole kept
  pub ends : SameEnds whole kept
  pub shorter : length kept ≤ length whole
  pub texts : text_bytes kept ≤ text_bytes whole

-- One daemon keeps of another what a later event can look at.
pub record Keeps (d f : Daemon) : Type 0 where
  pub settings : d.settings ≡ f.settings
  pub next : d.next ≡ f.next
  pub floor : d.floor ≡ f.floor
  pub past : IsKeptOf d.past f.past
