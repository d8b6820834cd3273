-- What holds of every journal that a core keeps.
use Rattle.std.specs.Prelude.{ℕ, Bool, true, false, ◌&&◌, ◌||◌, ◌==◌, ◌≡◌, ◌<◌, ◌≤◌, ◌+◌, ◌-◌, ◌*◌, ◌^◌, nat_lt, nat_le, not, List, [], ◌∷◌, Option, Some, None, if◌then◌else◌}
use Rattle.sd_rules.specs.declared.keys.Key.{Key}
use Rattle.sd_rules.specs.declared.records.Record.{Record}
use Rattle.sd_rules.specs.declared.events.Event.{Event}
use Rattle.sd_rules.specs.declared.events.Event.TheVariants.{Abandon, Ask, Answer, Collect, Fall, Kept, LoginGuess, LoginOnline, LoginTry, Outage, Pick, Refuse}
use Rattle.sd_rules.specs.declared.replies.Entry.{Entry}
use Rattle.sd_rules.specs.declared.replies.Reply.{Reply}
use Rattle.sd_rules.specs.declared.replies.Reply.TheVariants.{NoRequest}
use Rattle.sd_rules.specs.Keys.{is_of_kind, is_answer_of_kind}
use Rattle.sd_rules.specs.Logins.{wrong_count}
use Rattle.sd_rules.specs.Past.{Standing, is_closed, key_of, answer_in}
use Rattle.sd_rules.specs.Requests.{reserved_places}
use Rattle.sd_rules.specs.Steps.{Daemon}
use Rattle.sd_rules.specs.TextBytes.{text_bytes}

-- the numbers of the entries fall from below a number, the newest first
abbrev pub falls_from : ℕ → List Entry → Bool
falls_from next [] = true
falls_from next (e ∷ past) = nat_lt e.number next && falls_from e.number past

-- an entry of which a row can be kept
abbrev pub holds_row : Event → Bool
holds_row (Answer request answered) = true
holds_row (LoginOnline attempt result) = true
holds_row (LoginGuess user named right) = true
holds_row (Fall n server why) = true
holds_row (Kept row) = true
holds_row _ = false

abbrev pub row_holders : List Entry → ℕ
row_holders [] = 0
row_holders (e ∷ past) = (if holds_row e.event then 1 else 0) + row_holders past

-- the request or attempt that an entry closed, and whose leading entry is read for the entry's row
abbrev pub closed_by : Event → Reply → Option ℕ
closed_by (Answer request answered) reply = if is_closed reply then Some request else None
closed_by (LoginOnline attempt result) reply = if is_closed reply then Some attempt else None
closed_by _ reply = None

abbrev pub is_closing_of : Option ℕ → ℕ → Bool
is_closing_of None n = false
is_closing_of (Some m) n = m == n

-- some entry closed n so
abbrev pub is_closed_among : List Entry → ℕ → Bool
is_closed_among [] n = false
is_closed_among (e ∷ past) n = is_closing_of (closed_by e.event e.reply) n || is_closed_among past n

-- what an entry closes so stands before it, and no entry before it closed the same so
abbrev pub closes_first : List Entry → ℕ → Option ℕ → Bool
closes_first past number None = true
closes_first past number (Some n) = nat_lt n number && not (is_closed_among past n)

abbrev pub closes_once : List Entry → Bool
closes_once [] = true
closes_once (e ∷ past) = closes_first past e.number (closed_by e.event e.reply) && closes_once past

-- the request or attempt that an event names
abbrev pub named_by : Event → Option ℕ
named_by (Pick n) = Some n
named_by (Fall n server why) = Some n
named_by (Answer n answered) = Some n
named_by (Refuse n refusal) = Some n
named_by (Outage n) = Some n
named_by (Abandon n) = Some n
named_by (LoginOnline n result) = Some n
named_by (LoginTry n named right) = Some n
named_by _ = None

abbrev pub is_no_request : Reply → Bool
is_no_request NoRequest = true
is_no_request _ = false

-- what an entry names stands before it, or it is replied NoRequest
abbrev pub names_earlier : ℕ → Option ℕ → Reply → Bool
names_earlier number None reply = true
names_earlier number (Some n) reply = nat_lt n number || is_no_request reply

abbrev pub all_name_earlier : List Entry → Bool
all_name_earlier [] = true
all_name_earlier (e ∷ past) = names_earlier e.number (named_by e.event) e.reply && all_name_earlier past

-- no entry has an earlier moment than one before it
abbrev pub last_moment : List Entry → ℕ
last_moment [] = 0
last_moment (e ∷ past) = e.moment

abbrev pub moments_rise : List Entry → Bool
moments_rise [] = true
moments_rise (e ∷ past) = nat_le (last_moment past) e.moment && moments_rise past

-- the wrong guesses of each user that still count are fewer than the next number
pub record CountsFewWrongs (d : Daemon) : Type 0 where
  pub fewer : (user : List ℕ) → wrong_count d.past user < d.next

-- Numbers rise and are below the next one, each reserved place still has its number, and the texts fit. Of the rows that can be kept
-- there are few enough, and each has a text of its own among those of the entries.
pub record IsSound (d : Daemon) : Type 0 where
  pub servers : d.settings.primaries + d.settings.backups ≤ 64
  pub numbers : falls_from d.next d.past ≡ true
  pub room : d.next + reserved_places d.past ≤ 2 ^ 64 - 1
  pub texts : text_bytes d.past ≤ 512 * 1024 * 1024
  pub rows : row_holders d.past < 2 ^ 32 - 1
  pub wrongs : CountsFewWrongs d
  pub closings : closes_once d.past ≡ true

-- the answer that an entry holds is absence, or a record of its own key's kind
abbrev pub holds_kind : Option Standing → Bool
holds_kind None = true
holds_kind (Some a) = is_answer_of_kind a.answered a.own

-- so is every answer of the journal
abbrev pub holds_kinds : List Entry → Bool
holds_kinds [] = true
holds_kinds (e ∷ past) = holds_kind (answer_in past e) && holds_kinds past

-- a record, where there is one, is of the kind of a key
abbrev pub is_of_kind_of : Key → Option Record → Bool
is_of_kind_of k None = true
is_of_kind_of k (Some found) = is_of_kind found k

abbrev pub fits_key : Option Key → Option Record → Bool
fits_key None found = true
fits_key (Some k) found = is_of_kind_of k found

-- the record that is given for an event is of the kind of the key that was asked: by a question itself, by the request that an outage
-- closes, or by the question of the ticket that is collected
abbrev pub found_fits : List Entry → Event → Option Record → Bool
found_fits past (Ask k) found = is_of_kind_of k found
found_fits past (Outage n) found = fits_key (key_of past n) found
found_fits past (Collect ticket) found = fits_key (key_of past ticket) found
found_fits past _ found = true
