-- What holds of the order of every journal: of its numbers and moments, and of what its entries name.
use Rattle.std.specs.Prelude.{ℕ, Bool, true, false, ◌&&◌, ◌||◌, ◌==◌, ◌≡◌, nat_lt, not, List, [], ◌∷◌, Option, Some, None, is_some}
use Rattle.sd_rules.specs.declared.keys.Key.{Key}
use Rattle.sd_rules.specs.declared.events.Event.{Event}
use Rattle.sd_rules.specs.declared.events.Event.TheVariants.{Ask, Pick, Fall, Answer, Refuse, Outage, Abandon, LoginOnline, LoginTry, Kept}
use Rattle.sd_rules.specs.declared.events.Row.TheVariants as rows
use Rattle.sd_rules.specs.declared.replies.Entry.{Entry}
use Rattle.sd_rules.specs.declared.replies.Reply.{Reply}
use Rattle.sd_rules.specs.declared.replies.Reply.TheVariants as replies
use Rattle.sd_rules.specs.Past.{Standing, is_closed, newest, records_outage, ends_outage}
use Rattle.sd_rules.specs.Requests.{closes, opens_request, opens_attempt, is_open, is_open_request, joined, waits_for, outcome_of}
use Rattle.sd_rules.specs.Needed.{answer_of_outcome, read_with}
use Rattle.sd_forgetting.specs.Parts.{entry_at, last_entry, numbers_fall, moments_fall}

abbrev pub is_no_request : Reply → Bool
is_no_request replies.NoRequest = true
is_no_request _ = false

abbrev pub named_unless : Bool → ℕ → Option ℕ
named_unless true n = None
named_unless false n = Some n

-- the request or attempt that an entry is about, unless it was none
abbrev pub named_by : Event → Reply → Option ℕ
named_by (Pick n) reply = named_unless (is_no_request reply) n
named_by (Fall n server why) reply = named_unless (is_no_request reply) n
named_by (Answer n answered) reply = named_unless (is_no_request reply) n
named_by (Refuse n refusal) reply = named_unless (is_no_request reply) n
named_by (Outage n) reply = named_unless (is_no_request reply) n
named_by (Abandon n) reply = named_unless (is_no_request reply) n
named_by (LoginOnline n result) reply = named_unless (is_no_request reply) n
named_by (LoginTry n named right) reply = named_unless (is_no_request reply) n
named_by _ reply = None

abbrev pub is_ask : Event → Bool
is_ask (Ask key) = true
is_ask _ = false

-- an entry opened a request or an attempt
abbrev pub is_lead : Entry → Bool
is_lead e = opens_request e.event e.reply || opens_attempt e.event e.reply

abbrev pub is_below : Option ℕ → ℕ → Bool
is_below None n = true
is_below (Some m) n = nat_lt m n

-- the entries of a number are leading ones, and none closes it
abbrev pub leads_or_other : ℕ → Entry → Bool
leads_or_other n e = (not (e.number == n) || is_lead e) && not (closes e.event e.reply n)

abbrev pub are_leads : ℕ → List Entry → Bool
are_leads n [] = true
are_leads n (e ∷ past) = leads_or_other n e && are_leads n past

abbrev pub names_leads : Option ℕ → List Entry → Bool
names_leads None past = true
names_leads (Some n) past = are_leads n past

-- an entry is about a request or an attempt that was opened before it and not closed, and only a question joins
abbrev pub entry_fits : List Entry → Entry → Bool
entry_fits past e =
    (is_below (named_by e.event e.reply) e.number && names_leads (named_by e.event e.reply) past)
    && (not (is_some (joined e.reply)) || is_ask e.event)

abbrev pub entries_fit : List Entry → Bool
entries_fit [] = true
entries_fit (e ∷ past) = entry_fits past e && entries_fit past

-- an entry holds an answer
abbrev pub is_answer : Event → Reply → Bool
is_answer (Answer request answered) reply = is_closed reply
is_answer (Kept (rows.Answer n m own answered marked)) reply = true
is_answer _ reply = false

abbrev pub holds_answer : Option Entry → Bool
holds_answer None = false
holds_answer (Some e) = is_answer e.event e.reply

-- the last entry that records or ends an outage
abbrev pub is_word : Entry → Bool
is_word e = records_outage e.event e.reply || ends_outage e.event e.reply

abbrev pub last_word : List Entry → Option Entry
last_word past = last_entry is_word past

-- the request or attempt that the last entry of all is read with is open, unless that entry closed it
abbrev pub closed_or_open : Entry → List Entry → Option ℕ → Bool
closed_or_open e all None = true
closed_or_open e all (Some n) = closes e.event e.reply n || is_open all n

abbrev pub head_is_open : List Entry → Bool
head_is_open [] = true
head_is_open (e ∷ past) = closed_or_open e (e ∷ past) (read_with e.event e.reply)

-- an entry is the newest answer of a key
pub record IsNewestAnswer (past : List Entry) (n : ℕ) : Type 0 where
  pub own : Key
  pub answer : Standing
  pub is_newest : newest past own ≡ Some answer
  pub number : answer.number ≡ n

-- What holds of every journal that is reached: numbers rise below the next and moments never fall; an entry is about what was opened
-- before it and not closed; an answer that ended the last outage is the newest of its key; what a ticket will take names answers.
pub record IsOrderly (next : ℕ) (past : List Entry) : Type 0 where
  pub numbers : numbers_fall next past ≡ true
  pub latest : ℕ
  pub moments : moments_fall latest past ≡ true
  pub fits : entries_fit past ≡ true
  pub head : head_is_open past ≡ true
  pub ended : (e : Entry) → last_word past ≡ Some e → is_answer e.event e.reply ≡ true → IsNewestAnswer past e.number
  pub named : (t r n : ℕ) → waits_for past t ≡ Some r → is_open_request past r ≡ false → answer_of_outcome (outcome_of past r) ≡ Some n →
      holds_answer (entry_at past n) ≡ true
