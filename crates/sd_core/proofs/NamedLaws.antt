-- The record that is given for a question, or for an outage that closes a request, is of the kind of its key.
use Rattle.std.proofs.Common.{◌≡◌, ℕ, Bool, true, false, List, refl, ap, ◌∙◌}
use Rattle.std.specs.Prelude.{Option, Some, None, not, ◌&&◌, if◌then◌else◌}
use Rattle.sd_rules.specs.declared.keys.Key.{Key}
use Rattle.sd_rules.specs.declared.records.Answered.{Answered}
use Rattle.sd_rules.specs.declared.records.Answered.TheVariants.{Found, Absent}
use Rattle.sd_rules.specs.declared.events.Event.{Event}
use Rattle.sd_rules.specs.declared.events.Event.TheVariants as events
use Rattle.sd_rules.specs.declared.replies.Entry.{Entry}
use Rattle.sd_rules.specs.declared.replies.Outcome.TheVariants as outcomes
use Rattle.sd_rules.specs.declared.replies.Reply.{Reply}
use Rattle.sd_rules.specs.declared.replies.Reply.TheVariants as replies
use Rattle.sd_rules.specs.declared.settings.Settings.{Settings}
use Rattle.sd_rules.specs.Keys.{is_answer_of_kind}
use Rattle.sd_rules.specs.Past.{Standing, newest, outage_at, key_of}
use Rattle.sd_rules.specs.Requests.{open_for, is_open, is_open_request, waits_for}
use Rattle.sd_rules.specs.Servers.{picked_server}
use Rattle.sd_rules.specs.Answers.{is_found, is_fresh, is_filtered, is_past_midpoint, is_renewable, reply_in_outage, reply_by_request, reply_unless_fresh, reply_if_fresh, reply_by_newest, reply_to_ask}
use Rattle.sd_rules.specs.Steps.{Daemon, next_number, moment_of, reply_to, reply_to_collect, reply_to_outage, outage_outcome, outcome_in_outage, answer_named, answer_named_by_outcome, event_named, record_in, record_in_answer, record_named, event_at, given}
use Rattle.sd_core.specs.Sound.{holds_kinds, falls_from, is_of_kind_of, fits_key, found_fits}
use Rattle.sd_core.proofs.KindLaws.{is_kind_for, newest_kind, Stood, newest_stood}

-- a reply names no answer that found its key, or the one given
abbrev pub Names : Option Standing → Option ℕ → Type 0
Names x None = Unit {0}
Names None (Some n) = ⊥
Names (Some a) (Some n) = n ≡ a.number

named_if : (b : Bool) (x : Option Standing) (f g : Reply) → Names x (answer_named f) → Names x (answer_named g) → Names x (answer_named (if b then f else g))
named_if true x f g h k = h
named_if false x f g h k = k

outage_names : (o : ℕ) (x : Option Standing) → Names x (answer_named (reply_in_outage o x))
outage_names o None = tt
outage_names o (Some a) = named_if (is_found a.answered) (Some a) (replies.Old a.number o) (replies.OldGone a.number o) refl tt

request_names : (number : ℕ) (x : Option Standing) (running : Option ℕ) → Names x (answer_named (reply_by_request number running))
request_names number x None = tt
request_names number x (Some r) = tt

stale_names : (number : ℕ) (x : Option Standing) (outage running : Option ℕ) → Names x (answer_named (reply_unless_fresh number x outage running))
stale_names number x None running = request_names number x running
stale_names number x (Some o) running = outage_names o x

fresh_names : (s : Settings) (number t : ℕ) (a : Standing) (outage running : Option ℕ) → Names (Some a) (answer_named (reply_if_fresh s number t a outage running))
fresh_names s number t a outage running =
    named_if (not (is_found a.answered)) (Some a) (replies.Gone a.number)
    (if is_past_midpoint s t a && is_renewable outage running then replies.Refresh a.number number else replies.Fresh a.number) tt
    (named_if (is_past_midpoint s t a && is_renewable outage running) (Some a) (replies.Refresh a.number number) (replies.Fresh a.number) refl refl)

newest_names : (s : Settings) (past : List Entry) (number t : ℕ) (x : Option Standing) (outage running : Option ℕ) →
    Names x (answer_named (reply_by_newest s past number t x outage running))
newest_names s past number t None outage running = stale_names number None outage running
newest_names s past number t (Some a) outage running =
    named_if (is_fresh s past t a) (Some a) (reply_if_fresh s number t a outage running) (reply_unless_fresh number (Some a) outage running)
    (fresh_names s number t a outage running) (stale_names number (Some a) outage running)

ask_names : (s : Settings) (past : List Entry) (number t : ℕ) (k : Key) → Names (newest past k) (answer_named (reply_to_ask s past number t k))
ask_names s past number t k =
    named_if (is_filtered s k) (newest past k) replies.Filtered
    (reply_by_newest s past number t (newest past k) (outage_at s.offline_timeout past t) (open_for past k)) tt
    (newest_names s past number t (newest past k) (outage_at s.offline_timeout past t) (open_for past k))

-- the record of an answer that is of a key's kind, named or not
answered_fits : (k : Key) (answered : Answered) → is_answer_of_kind answered k ≡ true → is_of_kind_of k (record_in_answer answered) ≡ true
answered_fits k Absent h = refl
answered_fits k (Found found) h = h

named_fits : (k : Key) (past : List Entry) (x : Option Standing) (m : Option ℕ) → Names x m → Stood past x → is_kind_for k x ≡ true →
    is_of_kind_of k (record_in (event_named past m)) ≡ true
named_fits k past x None n s h = refl
named_fits k past None (Some m) n s h = absurd n
named_fits k past (Some a) (Some m) n s h =
    let at : record_in (event_at past m) ≡ record_in_answer a.answered = ap (λ i. record_in (event_at past i)) n ∙ s in
    ap (is_of_kind_of k) at ∙ answered_fits k a.answered h

ask_fits : (s : Settings) (past : List Entry) (next number t : ℕ) (k : Key) → falls_from next past ≡ true → holds_kinds past ≡ true →
    is_of_kind_of k (record_named past (reply_to_ask s past number t k)) ≡ true
ask_fits s past next number t k falls kinds =
    named_fits k past (newest past k) (answer_named (reply_to_ask s past number t k)) (ask_names s past number t k)
    (newest_stood next past k falls) (newest_kind past k kinds)

-- an outage names no answer but the newest of the key
pub outcome_names : (number : ℕ) (x : Option Standing) → Names x (answer_named_by_outcome (outage_outcome number x))
outcome_names number None = tt
outcome_names number (Some a) = by_found (is_found a.answered)
  where
    by_found : (b : Bool) → Names (Some a) (answer_named_by_outcome (if b then outcomes.Old a.number number else outcomes.OldGone a.number number))
    by_found true = refl
    by_found false = tt

pub closing_fits : (past : List Entry) (next number : ℕ) (own : Option Key) → falls_from next past ≡ true → holds_kinds past ≡ true →
    fits_key own (record_named past (replies.Shut (outcome_in_outage past number own))) ≡ true
closing_fits past next number None falls kinds = refl
closing_fits past next number (Some k) falls kinds =
    named_fits k past (newest past k) (answer_named_by_outcome (outage_outcome number (newest past k))) (outcome_names number (newest past k))
    (newest_stood next past k falls) (newest_kind past k kinds)

fits_nothing : (own : Option Key) → fits_key own None ≡ true
fits_nothing None = refl
fits_nothing (Some k) = refl

shut_fits : (b : Bool) (past : List Entry) (next number : ℕ) (own : Option Key) → falls_from next past ≡ true → holds_kinds past ≡ true →
    fits_key own (record_named past (if b then replies.Shut (outcome_in_outage past number own) else replies.Closed)) ≡ true
shut_fits true past next number own falls kinds = closing_fits past next number own falls kinds
shut_fits false past next number own falls kinds = fits_nothing own

servable_fits : (past : List Entry) (next number n : ℕ) (picked : Option ℕ) → falls_from next past ≡ true → holds_kinds past ≡ true →
    fits_key (key_of past n) (record_named past (reply_to_outage past number n picked)) ≡ true
servable_fits past next number n None falls kinds = shut_fits (is_open_request past n) past next number (key_of past n) falls kinds
servable_fits past next number n (Some server) falls kinds = fits_nothing (key_of past n)

outage_fits : (b : Bool) (past : List Entry) (next number n : ℕ) (picked : Option ℕ) → falls_from next past ≡ true → holds_kinds past ≡ true →
    fits_key (key_of past n) (record_named past (if b then reply_to_outage past number n picked else replies.NoRequest)) ≡ true
outage_fits true past next number n picked falls kinds = servable_fits past next number n picked falls kinds
outage_fits false past next number n picked falls kinds = fits_nothing (key_of past n)

-- what a ticket takes fits the key of its question
abbrev pub FitsTickets : List Entry → Type 0
FitsTickets past = (ticket : ℕ) → fits_key (key_of past ticket) (record_named past (reply_to_collect past (waits_for past ticket))) ≡ true

-- the record that a step gives fits
step_fits : (s : Settings) (past : List Entry) (next number t : ℕ) (event : Event) → falls_from next past ≡ true → holds_kinds past ≡ true → FitsTickets past →
    found_fits past event (record_named past (reply_to s past number t event)) ≡ true
step_fits s past next number t (events.Ask k) falls kinds tickets = ask_fits s past next number t k falls kinds
step_fits s past next number t (events.Outage n) falls kinds tickets =
    outage_fits (is_open past n) past next number n (picked_server s past n t) falls kinds
step_fits s past next number t (events.Collect ticket) falls kinds tickets = tickets ticket
step_fits s past next number t _ falls kinds tickets = refl

pub given_fits : (d : Daemon) (now : ℕ) (event : Event) → falls_from d.next d.past ≡ true → holds_kinds d.past ≡ true → FitsTickets d.past →
    found_fits d.past event (given d now event).found ≡ true
given_fits d now event falls kinds tickets = step_fits d.settings d.past d.next (next_number d) (moment_of d now) event falls kinds tickets
