-- Which reasons to look at an entry its event leaves.
use Rattle.std.proofs.Common.{◌≡◌, ℕ, Bool, true, false, List, refl, sym, ap, ◌∙◌}
use Rattle.std.specs.Prelude.{Some, None, not, ◌==◌, ◌&&◌, ◌||◌, if◌then◌else◌}
use Rattle.sd_rules.specs.declared.records.Answered.{Answered}
use Rattle.sd_rules.specs.declared.events.Event.{Event}
use Rattle.sd_rules.specs.declared.events.Event.TheVariants as events
use Rattle.sd_rules.specs.declared.events.Row.TheVariants as rows
use Rattle.sd_rules.specs.declared.replies.Entry.{Entry}
use Rattle.sd_rules.specs.declared.replies.Reply.{Reply}
use Rattle.sd_rules.specs.declared.replies.Reply.TheVariants as replies
use Rattle.sd_rules.specs.declared.replies.Verdict.TheVariants as verdicts
use Rattle.sd_rules.specs.Past.{is_closed, is_shut, key_of, answer_under, answer_by, records_outage}
use Rattle.sd_rules.specs.Requests.{is_bind, is_try_accepted, closes, opens_request, opens_attempt, is_open, ends_waiting, joined}
use Rattle.sd_rules.specs.Requests as requests
use Rattle.sd_rules.specs.Servers.{is_online}
use Rattle.sd_rules.specs.Steps.{asks_again, is_again}
use Rattle.sd_rules.specs.Logins.{wrongs}
use Rattle.sd_rules.specs.Needed.{is_void_needed, serves_open, is_fall_needed, user_logged_in, user_guessed, is_stop, is_tried, is_last_again, read_with}
use Rattle.sd_forgetting.specs.Orderly.{is_no_request, named_unless, named_by, is_ask, is_answer}
use Rattle.sd_forgetting.proofs.Tests.{not_true, none_is_not, same_some, both, either, first_holds, second_holds, equal_numbers, is_equal}

-- events that are looked at only as what is open or waits, as a guess that counts, or as the last
abbrev pub is_quiet : Event → Reply → Bool
is_quiet (events.Ask k) reply = true
is_quiet (events.LoginOpen u) reply = true
is_quiet (events.LoginGuess u named right) reply = true
is_quiet (events.LoginTry a named right) reply = true
is_quiet (events.Kept (rows.Wrong n m u count)) reply = true
is_quiet (events.Answer r answered) reply = not (is_closed reply)
is_quiet _ reply = false

no_answer_if : (c : Bool) (e : Entry) (past : List Entry) (r : ℕ) (answered : Answered) → not c ≡ true → (if c then answer_under e answered (key_of past r) else None) ≡ None
no_answer_if true e past r answered h = absurd (not_true h)
no_answer_if false e past r answered h = refl

pub quiet_answers : (past : List Entry) (e : Entry) (event : Event) → is_quiet event e.reply ≡ true → answer_by past e event ≡ None
quiet_answers past e (events.Ask k) h = refl
quiet_answers past e (events.LoginOpen u) h = refl
quiet_answers past e (events.LoginGuess u named right) h = refl
quiet_answers past e (events.LoginTry a named right) h = refl
quiet_answers past e (events.Kept (rows.Wrong n m u count)) h = refl
quiet_answers past e (events.Answer r answered) h = no_answer_if (is_closed e.reply) e past r answered h
quiet_answers past e _ h = absurd (not_true h)

pub quiet_voids : (all past : List Entry) (e : Entry) (event : Event) (reply : Reply) → is_quiet event reply ≡ true → is_void_needed all past e event ≡ false
quiet_voids all past e (events.Ask k) reply h = refl
quiet_voids all past e (events.LoginOpen u) reply h = refl
quiet_voids all past e (events.LoginGuess u named right) reply h = refl
quiet_voids all past e (events.LoginTry a named right) reply h = refl
quiet_voids all past e (events.Kept (rows.Wrong n m u count)) reply h = refl
quiet_voids all past e (events.Answer r answered) reply h = refl
quiet_voids all past e _ reply h = absurd (not_true h)

pub quiet_falls : (all : List Entry) (e : Entry) (event : Event) (reply : Reply) → is_quiet event reply ≡ true → is_fall_needed all e event ≡ false
quiet_falls all e (events.Ask k) reply h = refl
quiet_falls all e (events.LoginOpen u) reply h = refl
quiet_falls all e (events.LoginGuess u named right) reply h = refl
quiet_falls all e (events.LoginTry a named right) reply h = refl
quiet_falls all e (events.Kept (rows.Wrong n m u count)) reply h = refl
quiet_falls all e (events.Answer r answered) reply h = refl
quiet_falls all e _ reply h = absurd (not_true h)

pub quiet_online : (event : Event) (reply : Reply) → is_quiet event reply ≡ true → is_online event ≡ false
quiet_online (events.Ask k) reply h = refl
quiet_online (events.LoginOpen u) reply h = refl
quiet_online (events.LoginGuess u named right) reply h = refl
quiet_online (events.LoginTry a named right) reply h = refl
quiet_online (events.Kept (rows.Wrong n m u count)) reply h = refl
quiet_online (events.Answer r answered) reply h = refl
quiet_online _ reply h = absurd (not_true h)

pub quiet_stop : (event : Event) (reply : Reply) → is_quiet event reply ≡ true → is_stop event ≡ false
quiet_stop (events.Ask k) reply h = refl
quiet_stop (events.LoginOpen u) reply h = refl
quiet_stop (events.LoginGuess u named right) reply h = refl
quiet_stop (events.LoginTry a named right) reply h = refl
quiet_stop (events.Kept (rows.Wrong n m u count)) reply h = refl
quiet_stop (events.Answer r answered) reply h = refl
quiet_stop _ reply h = absurd (not_true h)

pub quiet_records : (event : Event) (reply : Reply) → is_quiet event reply ≡ true → records_outage event reply ≡ false
quiet_records (events.Ask k) reply h = refl
quiet_records (events.LoginOpen u) reply h = refl
quiet_records (events.LoginGuess u named right) reply h = refl
quiet_records (events.LoginTry a named right) reply h = refl
quiet_records (events.Kept (rows.Wrong n m u count)) reply h = refl
quiet_records (events.Answer r answered) reply h = refl
quiet_records _ reply h = absurd (not_true h)

pub quiet_logs_in : (past : List Entry) (event : Event) (reply : Reply) → is_quiet event reply ≡ true → user_logged_in past event reply ≡ None
quiet_logs_in past (events.Ask k) reply h = refl
quiet_logs_in past (events.LoginOpen u) reply h = refl
quiet_logs_in past (events.LoginGuess u named right) reply h = refl
quiet_logs_in past (events.LoginTry a named right) reply h = refl
quiet_logs_in past (events.Kept (rows.Wrong n m u count)) reply h = refl
quiet_logs_in past (events.Answer r answered) reply h = refl
quiet_logs_in past _ reply h = absurd (not_true h)

not_if : (c : Bool) → not c ≡ true → c ≡ false
not_if true h = absurd (not_true h)
not_if false h = refl

pub quiet_holds : (event : Event) (reply : Reply) → is_quiet event reply ≡ true → is_answer event reply ≡ false
quiet_holds (events.Ask k) reply h = refl
quiet_holds (events.LoginOpen u) reply h = refl
quiet_holds (events.LoginGuess u named right) reply h = refl
quiet_holds (events.LoginTry a named right) reply h = refl
quiet_holds (events.Kept (rows.Wrong n m u count)) reply h = refl
quiet_holds (events.Answer r answered) reply h = not_if (is_closed reply) h
quiet_holds _ reply h = absurd (not_true h)

-- leading entries
lead_alone : (reply : Reply) → requests.is_lead reply ≡ true → joined reply ≡ None
lead_alone (replies.Lead r) h = refl
lead_alone (replies.Refresh n r) h = refl
lead_alone _ h = absurd (not_true h)

bind_alone : (reply : Reply) → is_bind reply ≡ true → joined reply ≡ None
bind_alone (replies.Bind a) h = refl
bind_alone (replies.Cached a l) h = refl
bind_alone _ h = absurd (not_true h)

or_nothing : (b : Bool) → (b || false) ≡ true → b ≡ true
or_nothing true h = refl
or_nothing false h = h

pub lead_joins : (event : Event) (reply : Reply) → (opens_request event reply || opens_attempt event reply) ≡ true → joined reply ≡ None
lead_joins (events.Ask k) reply h = lead_alone reply (or_nothing (requests.is_lead reply) h)
lead_joins (events.LoginOpen u) reply h = bind_alone reply h
lead_joins _ reply h = absurd (not_true h)

pub lead_quiet : (event : Event) (reply : Reply) → (opens_request event reply || opens_attempt event reply) ≡ true → is_quiet event reply ≡ true
lead_quiet (events.Ask k) reply h = refl
lead_quiet (events.LoginOpen u) reply h = refl
lead_quiet _ reply h = absurd (not_true h)

pub lead_serves : (all : List Entry) (e : Entry) (event : Event) (reply : Reply) → (opens_request event reply || opens_attempt event reply) ≡ true → serves_open all e event ≡ false
lead_serves all e (events.Ask k) reply h = refl
lead_serves all e (events.LoginOpen u) reply h = refl
lead_serves all e _ reply h = absurd (not_true h)

pub lead_closes : (event : Event) (reply : Reply) (n : ℕ) → (opens_request event reply || opens_attempt event reply) ≡ true → closes event reply n ≡ false
lead_closes (events.Ask k) reply n h = refl
lead_closes (events.LoginOpen u) reply n h = refl
lead_closes _ reply n h = absurd (not_true h)

pub lead_guesses : (event : Event) (reply : Reply) → (opens_request event reply || opens_attempt event reply) ≡ true → user_guessed event ≡ None
lead_guesses (events.Ask k) reply h = refl
lead_guesses (events.LoginOpen u) reply h = refl
lead_guesses _ reply h = absurd (not_true h)

pub lead_again : (event : Event) (reply : Reply) (n : ℕ) → (opens_request event reply || opens_attempt event reply) ≡ true → asks_again event reply n ≡ false
lead_again (events.Ask k) reply n h = refl
lead_again (events.LoginOpen u) reply n h = refl
lead_again _ reply n h = absurd (not_true h)

-- questions
pub ask_quiet : (event : Event) (reply : Reply) → is_ask event ≡ true → is_quiet event reply ≡ true
ask_quiet (events.Ask k) reply h = refl
ask_quiet _ reply h = absurd (not_true h)

pub ask_serves : (all : List Entry) (e : Entry) (event : Event) → is_ask event ≡ true → serves_open all e event ≡ false
ask_serves all e (events.Ask k) h = refl
ask_serves all e _ h = absurd (not_true h)

pub ask_closes : (event : Event) (reply : Reply) (n : ℕ) → is_ask event ≡ true → closes event reply n ≡ false
ask_closes (events.Ask k) reply n h = refl
ask_closes _ reply n h = absurd (not_true h)

pub ask_guesses : (event : Event) → is_ask event ≡ true → user_guessed event ≡ None
ask_guesses (events.Ask k) h = refl
ask_guesses _ h = absurd (not_true h)

pub ask_again : (event : Event) (reply : Reply) (n : ℕ) → is_ask event ≡ true → asks_again event reply n ≡ false
ask_again (events.Ask k) reply n h = refl
ask_again _ reply n h = absurd (not_true h)

pub ask_ends : (event : Event) (reply : Reply) (n : ℕ) → is_ask event ≡ true → ends_waiting event reply n ≡ false
ask_ends (events.Ask k) reply n h = refl
ask_ends _ reply n h = absurd (not_true h)

-- guesses
abbrev pub is_guess : Event → Bool
is_guess (events.LoginGuess u named right) = true
is_guess (events.Kept (rows.Wrong n m u count)) = true
is_guess _ = false

pub wrong_guess : (user : List ℕ) (event : Event) (reply : Reply) → (wrongs user event reply == 0) ≡ false → is_guess event ≡ true
wrong_guess user (events.LoginGuess u named right) reply h = refl
wrong_guess user (events.Kept (rows.Wrong n m u count)) reply h = refl
wrong_guess user _ reply h = absurd (not_true (sym h))

pub guess_quiet : (event : Event) (reply : Reply) → is_guess event ≡ true → is_quiet event reply ≡ true
guess_quiet (events.LoginGuess u named right) reply h = refl
guess_quiet (events.Kept (rows.Wrong n m u count)) reply h = refl
guess_quiet _ reply h = absurd (not_true h)

pub guess_serves : (all : List Entry) (e : Entry) (event : Event) → is_guess event ≡ true → serves_open all e event ≡ false
guess_serves all e (events.LoginGuess u named right) h = refl
guess_serves all e (events.Kept (rows.Wrong n m u count)) h = refl
guess_serves all e _ h = absurd (not_true h)

pub guess_closes : (event : Event) (reply : Reply) (n : ℕ) → is_guess event ≡ true → closes event reply n ≡ false
guess_closes (events.LoginGuess u named right) reply n h = refl
guess_closes (events.Kept (rows.Wrong k m u count)) reply n h = refl
guess_closes _ reply n h = absurd (not_true h)

pub guess_leads : (event : Event) (reply : Reply) → is_guess event ≡ true → (opens_request event reply || opens_attempt event reply) ≡ false
guess_leads (events.LoginGuess u named right) reply h = refl
guess_leads (events.Kept (rows.Wrong n m u count)) reply h = refl
guess_leads _ reply h = absurd (not_true h)

pub guess_asks : (event : Event) → is_guess event ≡ true → is_ask event ≡ false
guess_asks (events.LoginGuess u named right) h = refl
guess_asks (events.Kept (rows.Wrong n m u count)) h = refl
guess_asks _ h = absurd (not_true h)

pub guess_again : (event : Event) (reply : Reply) (n : ℕ) → is_guess event ≡ true → asks_again event reply n ≡ false
guess_again (events.LoginGuess u named right) reply n h = refl
guess_again (events.Kept (rows.Wrong k m u count)) reply n h = refl
guess_again _ reply n h = absurd (not_true h)

-- entries that are read with a leading one
some_if : (c : Bool) (q r : ℕ) → (if c then Some q else None) ≡ Some r → (c ≡ true) × (q ≡ r)
some_if true q r h = (refl, same_some q r h)
some_if false q r h = absurd (none_is_not r h)

equal_and : (a b : ℕ) (c : Bool) → a ≡ b → c ≡ true → ((a == b) && c) ≡ true
equal_and a b c e h = both (a == b) c (is_equal a b e) h

unless_closed : (c d : Bool) (q r : ℕ) → (if c || d then Some q else None) ≡ Some r → ((q == r) && c) ≡ false → not c ≡ true
unless_closed true d q r h f = absurd (not_true (sym f ∙ equal_and q r true (same_some q r h) refl))
unless_closed false d q r h f = refl

pub reader_quiet : (event : Event) (reply : Reply) (r : ℕ) → read_with event reply ≡ Some r → closes event reply r ≡ false → is_quiet event reply ≡ true
reader_quiet (events.Answer q answered) reply r h f = unless_closed (is_closed reply) (is_again reply) q r h f
reader_quiet (events.LoginOnline a result) reply r h f =
    let s = some_if (is_closed reply) a r h in
    absurd (not_true (sym f ∙ equal_and a r (is_closed reply) s.1 s.0))
reader_quiet (events.LoginTry a named right) reply r h f = refl
reader_quiet _ reply r h f = absurd (none_is_not r h)

pub reader_leads : (event : Event) (reply : Reply) (r : ℕ) → read_with event reply ≡ Some r → (opens_request event reply || opens_attempt event reply) ≡ false
reader_leads (events.Answer q answered) reply r h = refl
reader_leads (events.LoginOnline a result) reply r h = refl
reader_leads (events.LoginTry a named right) reply r h = refl
reader_leads _ reply r h = absurd (none_is_not r h)

pub reader_asks : (event : Event) (reply : Reply) (r : ℕ) → read_with event reply ≡ Some r → is_ask event ≡ false
reader_asks (events.Answer q answered) reply r h = refl
reader_asks (events.LoginOnline a result) reply r h = refl
reader_asks (events.LoginTry a named right) reply r h = refl
reader_asks _ reply r h = absurd (none_is_not r h)

pub reader_guesses : (event : Event) (reply : Reply) (r : ℕ) → read_with event reply ≡ Some r → user_guessed event ≡ None
reader_guesses (events.Answer q answered) reply r h = refl
reader_guesses (events.LoginOnline a result) reply r h = refl
reader_guesses (events.LoginTry a named right) reply r h = refl
reader_guesses _ reply r h = absurd (none_is_not r h)

pub reader_serves : (all : List Entry) (e : Entry) (event : Event) (reply : Reply) (r : ℕ) → read_with event reply ≡ Some r → serves_open all e event ≡ true → is_open all r ≡ true
reader_serves all e (events.Answer q answered) reply r h s =
    let i = some_if (is_closed reply || is_again reply) q r h in
    ap (is_open all) (sym i.1) ∙ first_holds (is_open all q) (is_last_again all q e) s
reader_serves all e (events.LoginOnline a result) reply r h s = absurd (not_true s)
reader_serves all e (events.LoginTry a named right) reply r h s = absurd (not_true s)
reader_serves all e _ reply r h s = absurd (none_is_not r h)

-- what is no NoRequest
not_closed_none : (reply : Reply) → is_closed reply ≡ true → is_no_request reply ≡ false
not_closed_none replies.Closed h = refl
not_closed_none _ h = absurd (not_true h)

not_again_none : (reply : Reply) → is_again reply ≡ true → is_no_request reply ≡ false
not_again_none (replies.Again v) h = refl
not_again_none _ h = absurd (not_true h)

not_shut_none : (reply : Reply) → is_shut reply ≡ true → is_no_request reply ≡ false
not_shut_none (replies.Shut o) h = refl
not_shut_none _ h = absurd (not_true h)

not_tried_none : (reply : Reply) → is_tried reply ≡ true → is_no_request reply ≡ false
not_tried_none (replies.Tried v) h = refl
not_tried_none _ h = absurd (not_true h)

not_accepted_none : (reply : Reply) → is_try_accepted reply ≡ true → is_no_request reply ≡ false
not_accepted_none (replies.Tried verdicts.Accepted) h = refl
not_accepted_none (replies.Tried _) h = absurd (not_true h)
not_accepted_none _ h = absurd (not_true h)

named_if : (c : Bool) (q n : ℕ) → c ≡ false → q ≡ n → named_unless c q ≡ Some n
named_if true q n f e = absurd (not_true (sym f))
named_if false q n f e = ap (λ (m : ℕ). Some m) e

closed_named : (reply : Reply) (q n : ℕ) → ((q == n) && is_closed reply) ≡ true → named_unless (is_no_request reply) q ≡ Some n
closed_named reply q n h =
    named_if (is_no_request reply) q n (not_closed_none reply (second_holds (q == n) (is_closed reply) h)) (equal_numbers q n (first_holds (q == n) (is_closed reply) h))

-- the number that an entry closes is the one that it is about
pub closes_named : (event : Event) (reply : Reply) (n : ℕ) → closes event reply n ≡ true → named_by event reply ≡ Some n
closes_named (events.Answer q answered) reply n h = closed_named reply q n h
closes_named (events.Refuse q refusal) reply n h = closed_named reply q n h
closes_named (events.Abandon q) reply n h = closed_named reply q n h
closes_named (events.LoginOnline q result) reply n h = closed_named reply q n h
closes_named (events.Outage q) reply n h =
    named_if (is_no_request reply) q n
    (either (is_closed reply) (is_shut reply) (second_holds (q == n) (is_closed reply || is_shut reply) h) (not_closed_none reply) (not_shut_none reply))
    (equal_numbers q n (first_holds (q == n) (is_closed reply || is_shut reply) h))
closes_named (events.LoginTry q named right) reply n h =
    named_if (is_no_request reply) q n (not_accepted_none reply (second_holds (q == n) (is_try_accepted reply) h)) (equal_numbers q n (first_holds (q == n) (is_try_accepted reply) h))
closes_named _ reply n h = absurd (not_true h)

pub reader_named : (event : Event) (reply : Reply) (r : ℕ) → read_with event reply ≡ Some r → named_by event reply ≡ Some r
reader_named (events.Answer q answered) reply r h =
    let i = some_if (is_closed reply || is_again reply) q r h in
    named_if (is_no_request reply) q r (either (is_closed reply) (is_again reply) i.0 (not_closed_none reply) (not_again_none reply)) i.1
reader_named (events.LoginOnline q result) reply r h =
    let i = some_if (is_closed reply) q r h in named_if (is_no_request reply) q r (not_closed_none reply i.0) i.1
reader_named (events.LoginTry q named right) reply r h =
    let i = some_if (is_tried reply) q r h in named_if (is_no_request reply) q r (not_tried_none reply i.0) i.1
reader_named _ reply r h = absurd (none_is_not r h)

-- an entry that closes something closes what it is read with
pub reader_closes : (event : Event) (reply : Reply) (r n : ℕ) → read_with event reply ≡ Some r → closes event reply n ≡ true → closes event reply r ≡ true
reader_closes event reply r n h c =
    let same : n ≡ r = same_some n r (sym (closes_named event reply n c) ∙ reader_named event reply r h) in
    ap (closes event reply) (sym same) ∙ c
