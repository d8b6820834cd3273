-- A journal after a restart that keeps all its entries but those of outages and of the daemon's end: nothing is open, nobody waits,
-- no outage stands, and what answers, logins, guesses and falls say is what they said.
use Rattle.std.proofs.Common.{◌≡◌, ℕ, ◌+◌, ◌<◌, ◌≤◌, Bool, true, false, List, [], ◌∷◌, arith, refl, sym, ap, subst, ◌∙◌}
use Rattle.std.specs.Prelude.{Option, Some, None, cond, nat_lt, ◌==◌, ◌&&◌, ◌||◌, if◌then◌else◌}
use Rattle.std.proofs.lemmas.Bool.Decides.{nat_tests}
use Rattle.sd_rules.specs.declared.events.Event.{Event}
use Rattle.sd_rules.specs.declared.events.Event.TheVariants as events
use Rattle.sd_rules.specs.declared.replies.Entry.{Entry}
use Rattle.sd_rules.specs.declared.replies.Outcome.TheVariants as outcomes
use Rattle.sd_rules.specs.declared.replies.Reply.{Reply}
use Rattle.sd_rules.specs.declared.replies.Reply.TheVariants as replies
use Rattle.sd_rules.specs.KeptRows.{ends_with_daemon, opens, settled, settled_past}
use Rattle.sd_rules.specs.Logins.{user_of, user_opened}
use Rattle.sd_rules.specs.Past.{is_closed, is_shut, key_asked, key_of, outage_at, records_outage, ends_outage}
use Rattle.sd_rules.specs.Requests.{closes, ends_waiting, has_opened_attempt, has_opened_request, is_bind, is_lead, is_open_attempt, is_open_request, is_try_accepted, joined, opens_attempt, opens_request, outcome_by, outcome_of, unclosed, waits_for}
use Rattle.sd_rules.specs.Servers.{is_noted}
use Rattle.sd_rules.specs.Steps.{event_at, hash_in, hash_of_event, record_in, record_of}
use Rattle.sd_core.specs.Sound.{falls_from, all_name_earlier, is_no_request, named_by, names_earlier}
use Rattle.sd_core.proofs.KindLaws.{first_holds, second_holds}
use Rattle.sd_core.proofs.Room.{falls_on}

pub true_not_false : {X : Type 0} → true ≡ false → X
true_not_false e = let clash : ⊥ = cc in absurd clash

-- an entry as it is after a restart, where its reply opens something or not
abbrev pub settled_as : Bool → Entry → Entry
settled_as opened e = if opened then record e { reply = replies.Done } else e

-- what opens something is no other reply
pub opens_closed : (reply : Reply) → opens reply ≡ true → is_closed reply ≡ false
opens_closed (replies.Lead r) h = refl
opens_closed (replies.Refresh n r) h = refl
opens_closed (replies.Bind a) h = refl
opens_closed (replies.Cached a n) h = refl
opens_closed (replies.Join r t) h = refl
opens_closed _ h = true_not_false (sym h)

pub opens_noted : (reply : Reply) → opens reply ≡ true → is_noted reply ≡ false
opens_noted (replies.Lead r) h = refl
opens_noted (replies.Refresh n r) h = refl
opens_noted (replies.Bind a) h = refl
opens_noted (replies.Cached a n) h = refl
opens_noted (replies.Join r t) h = refl
opens_noted _ h = true_not_false (sym h)

-- a reply that opens nothing
unopened_lead : (reply : Reply) → opens reply ≡ false → is_lead reply ≡ false
unopened_lead (replies.Lead r) h = h
unopened_lead (replies.Refresh n r) h = h
unopened_lead _ h = refl

unopened_bind : (reply : Reply) → opens reply ≡ false → is_bind reply ≡ false
unopened_bind (replies.Bind a) h = h
unopened_bind (replies.Cached a n) h = h
unopened_bind _ h = refl

unopened_joined : (reply : Reply) → opens reply ≡ false → joined reply ≡ None
unopened_joined (replies.Join r t) h = true_not_false h
unopened_joined _ h = refl

no_request_of : (event : Event) (reply : Reply) → is_lead reply ≡ false → opens_request event reply ≡ false
no_request_of (events.Ask k) reply h = h
no_request_of _ reply h = refl

no_attempt_of : (event : Event) (reply : Reply) → is_bind reply ≡ false → opens_attempt event reply ≡ false
no_attempt_of (events.LoginOpen user) reply h = h
no_attempt_of _ reply h = refl

settled_request : (b : Bool) (e : Entry) → opens e.reply ≡ b → opens_request (settled_as b e).event (settled_as b e).reply ≡ false
settled_request true e h = no_request_of e.event replies.Done refl
settled_request false e h = no_request_of e.event e.reply (unopened_lead e.reply h)

settled_attempt : (b : Bool) (e : Entry) → opens e.reply ≡ b → opens_attempt (settled_as b e).event (settled_as b e).reply ≡ false
settled_attempt true e h = no_attempt_of e.event replies.Done refl
settled_attempt false e h = no_attempt_of e.event e.reply (unopened_bind e.reply h)

settled_joined : (b : Bool) (e : Entry) → opens e.reply ≡ b → joined (settled_as b e).reply ≡ None
settled_joined true e h = refl
settled_joined false e h = unopened_joined e.reply h

-- a law of the past holds of what is left of it where it holds of the entries left out and of those kept
pub pick_past : (L : List Entry → Type 0) (b : Bool) (xs ys : List Entry) → (b ≡ true → L xs) → (b ≡ false → L ys) → L (if b then xs else ys)
pick_past L true xs ys f g = f refl
pick_past L false xs ys f g = g refl

-- nothing is open
none_opened_request : (c b : Bool) (x : Entry) (y : Option Entry) → opens_request x.event x.reply ≡ false → has_opened_request y ≡ false →
    has_opened_request (cond c None (cond b (Some x) y)) ≡ false
none_opened_request true b x y f h = refl
none_opened_request false true x y f h = f
none_opened_request false false x y f h = h

none_opened_attempt : (c b : Bool) (x : Entry) (y : Option Entry) → opens_attempt x.event x.reply ≡ false → has_opened_attempt y ≡ false →
    has_opened_attempt (cond c None (cond b (Some x) y)) ≡ false
none_opened_attempt true b x y f h = refl
none_opened_attempt false true x y f h = f
none_opened_attempt false false x y f h = h

pub settled_no_request : (past : List Entry) (n : ℕ) → is_open_request (settled_past past) n ≡ false
settled_no_request [] n = refl
settled_no_request (e ∷ past) n =
    pick_past (λ xs. is_open_request xs n ≡ false) (ends_with_daemon e.event) (settled_past past) (settled e ∷ settled_past past) (λ _. settled_no_request past n)
    (λ _. none_opened_request (closes (settled e).event (settled e).reply n) ((settled e).number == n) (settled e) (unclosed (settled_past past) n)
    (settled_request (opens e.reply) e refl) (settled_no_request past n))

pub settled_no_attempt : (past : List Entry) (n : ℕ) → is_open_attempt (settled_past past) n ≡ false
settled_no_attempt [] n = refl
settled_no_attempt (e ∷ past) n =
    pick_past (λ xs. is_open_attempt xs n ≡ false) (ends_with_daemon e.event) (settled_past past) (settled e ∷ settled_past past) (λ _. settled_no_attempt past n)
    (λ _. none_opened_attempt (closes (settled e).event (settled e).reply n) ((settled e).number == n) (settled e) (unclosed (settled_past past) n)
    (settled_attempt (opens e.reply) e refl) (settled_no_attempt past n))

none_waits : (c b : Bool) (x y : Option ℕ) → x ≡ None → y ≡ None → cond c None (cond b x y) ≡ None
none_waits true b x y f g = refl
none_waits false true x y f g = f
none_waits false false x y f g = g

pub settled_no_wait : (past : List Entry) (t : ℕ) → waits_for (settled_past past) t ≡ None
settled_no_wait [] t = refl
settled_no_wait (e ∷ past) t =
    pick_past (λ xs. waits_for xs t ≡ None) (ends_with_daemon e.event) (settled_past past) (settled e ∷ settled_past past) (λ _. settled_no_wait past t)
    (λ _. none_waits (ends_waiting (settled e).event (settled e).reply t) ((settled e).number == t) (joined (settled e).reply) (waits_for (settled_past past) t)
    (settled_joined (opens e.reply) e refl) (settled_no_wait past t))

-- numbers and events stay
pub settled_number : (b : Bool) (e : Entry) → (settled_as b e).number ≡ e.number
settled_number true e = refl
settled_number false e = refl

pub settled_event : (b : Bool) (e : Entry) → (settled_as b e).event ≡ e.event
settled_event true e = refl
settled_event false e = refl

pub settled_moment : (b : Bool) (e : Entry) → (settled_as b e).moment ≡ e.moment
settled_moment true e = refl
settled_moment false e = refl

pub settled_falls : (next : ℕ) (past : List Entry) → falls_from next past ≡ true → falls_from next (settled_past past) ≡ true
settled_falls next [] h = refl
settled_falls next (e ∷ past) h =
    let below = first_holds (nat_lt e.number next) (falls_from e.number past) h in
    let rest = second_holds (nat_lt e.number next) (falls_from e.number past) h in
    pick_past (λ xs. falls_from next xs ≡ true) (ends_with_daemon e.event) (settled_past past) (settled e ∷ settled_past past)
    (λ _. falls_above e.number next (settled_past past) below (settled_falls e.number past rest))
    (λ _. both_fall (settled e).number next (settled_past past) e.number (settled_number (opens e.reply) e) below (settled_falls e.number past rest))
  where
    falls_above : (m n : ℕ) (xs : List Entry) → nat_lt m n ≡ true → falls_from m xs ≡ true → falls_from n xs ≡ true
    falls_above m n [] l h = refl
    falls_above m n (x ∷ xs) l h = grind (arith, nat_tests, l, h)

    both_fall : (m n : ℕ) (xs : List Entry) (k : ℕ) → m ≡ k → nat_lt k n ≡ true → falls_from k xs ≡ true → (nat_lt m n && falls_from m xs) ≡ true
    both_fall m n xs k is l h = subst (λ j. (nat_lt j n && falls_from j xs) ≡ true) (sym is) (both (nat_lt k n) (falls_from k xs) l h)
      where
        both : (a b : Bool) → a ≡ true → b ≡ true → (a && b) ≡ true
        both a b f g = cc

-- no entry before a number has it
pub event_none : (n : ℕ) (past : List Entry) → falls_from n past ≡ true → event_at past n ≡ None
event_none n [] h = refl
event_none n (e ∷ past) h =
    let other : (e.number == n) ≡ false = grind (arith, nat_tests, h) in
    rw other (event_none n past (falls_on n e past h))

pub key_none : (n : ℕ) (past : List Entry) → falls_from n past ≡ true → key_of past n ≡ None
key_none n [] h = refl
key_none n (e ∷ past) h =
    let other : (e.number == n) ≡ false = grind (arith, nat_tests, h) in
    rw other (key_none n past (falls_on n e past h))

pub user_none : (n : ℕ) (past : List Entry) → falls_from n past ≡ true → user_of past n ≡ None
user_none n [] h = refl
user_none n (e ∷ past) h =
    let other : (e.number == n) ≡ false = grind (arith, nat_tests, h) in
    rw other (user_none n past (falls_on n e past h))

falls_to : (m n : ℕ) (past : List Entry) → (m == n) ≡ true → falls_from m past ≡ true → falls_from n past ≡ true
falls_to m n past is h =
    let same : m ≡ n = grind (arith, nat_tests, is) in
    subst (λ k. falls_from k past ≡ true) same h

-- what is left out asks for no key and opens no login
left_out_key : (event : Event) → ends_with_daemon event ≡ true → key_asked event ≡ None
left_out_key (events.Ask k) h = true_not_false (sym h)
left_out_key _ h = refl

left_out_user : (event : Event) → ends_with_daemon event ≡ true → user_opened event ≡ None
left_out_user (events.LoginOpen user) h = true_not_false (sym h)
left_out_user _ h = refl

-- what is found by a number where the entry of that number was left out, or was kept
found_left_out : {X : Type 0} (b : Bool) (x y z : Option X) → x ≡ None → (b ≡ true → z ≡ None) → y ≡ z → y ≡ (if b then x else z)
found_left_out true x y z f g h = h ∙ (g refl ∙ sym f)
found_left_out false x y z f g h = h

found_kept : {X : Type 0} (m n : ℕ) (k : ℕ) (v w y z : Option X) → m ≡ n → v ≡ w → y ≡ z → (if m == k then v else y) ≡ (if n == k then w else z)
found_kept m n k v w y z e f g =
    ap (λ j. if j == k then v else y) e ∙ (ap (λ x. if n == k then x else y) f ∙ ap (λ x. if n == k then w else x) g)

pub settled_key : (next : ℕ) (past : List Entry) (r : ℕ) → falls_from next past ≡ true → key_of (settled_past past) r ≡ key_of past r
settled_key next [] r h = refl
settled_key next (e ∷ past) r h =
    let rest = second_holds (nat_lt e.number next) (falls_from e.number past) h in
    pick_past (λ xs. key_of xs r ≡ key_of (e ∷ past) r) (ends_with_daemon e.event) (settled_past past) (settled e ∷ settled_past past)
    (λ ends. found_left_out (e.number == r) (key_asked e.event) (key_of (settled_past past) r) (key_of past r) (left_out_key e.event ends)
    (λ is. key_none r past (falls_to e.number r past is rest)) (settled_key e.number past r rest))
    (λ _. found_kept (settled e).number e.number r (key_asked (settled e).event) (key_asked e.event) (key_of (settled_past past) r) (key_of past r)
    (settled_number (opens e.reply) e) (ap key_asked (settled_event (opens e.reply) e)) (settled_key e.number past r rest))

pub settled_user : (next : ℕ) (past : List Entry) (a : ℕ) → falls_from next past ≡ true → user_of (settled_past past) a ≡ user_of past a
settled_user next [] a h = refl
settled_user next (e ∷ past) a h =
    let rest = second_holds (nat_lt e.number next) (falls_from e.number past) h in
    pick_past (λ xs. user_of xs a ≡ user_of (e ∷ past) a) (ends_with_daemon e.event) (settled_past past) (settled e ∷ settled_past past)
    (λ ends. found_left_out (e.number == a) (user_opened e.event) (user_of (settled_past past) a) (user_of past a) (left_out_user e.event ends)
    (λ is. user_none a past (falls_to e.number a past is rest)) (settled_user e.number past a rest))
    (λ _. found_kept (settled e).number e.number a (user_opened (settled e).event) (user_opened e.event) (user_of (settled_past past) a) (user_of past a)
    (settled_number (opens e.reply) e) (ap user_opened (settled_event (opens e.reply) e)) (settled_user e.number past a rest))

-- the record and the hash that the entry of a number holds
left_out_record : (event : Event) → ends_with_daemon event ≡ true → record_of event ≡ None
left_out_record (events.Answer r answered) h = true_not_false (sym h)
left_out_record (events.Kept row) h = true_not_false (sym h)
left_out_record _ h = refl

left_out_hash : (event : Event) → ends_with_daemon event ≡ true → hash_of_event event ≡ None
left_out_hash (events.LoginOnline a result) h = true_not_false (sym h)
left_out_hash (events.Kept row) h = true_not_false (sym h)
left_out_hash _ h = refl

record_choice : (b : Bool) (x : Event) (y : Option Event) → record_in (if b then Some x else y) ≡ (if b then record_of x else record_in y)
record_choice true x y = refl
record_choice false x y = refl

hash_choice : (b : Bool) (x : Event) (y : Option Event) → hash_in (if b then Some x else y) ≡ (if b then hash_of_event x else hash_in y)
hash_choice true x y = refl
hash_choice false x y = refl

pub settled_record : (next : ℕ) (past : List Entry) (n : ℕ) → falls_from next past ≡ true → record_in (event_at (settled_past past) n) ≡ record_in (event_at past n)
settled_record next [] n h = refl
settled_record next (e ∷ past) n h =
    let rest = second_holds (nat_lt e.number next) (falls_from e.number past) h in
    pick_past (λ xs. record_in (event_at xs n) ≡ record_in (event_at (e ∷ past) n)) (ends_with_daemon e.event) (settled_past past) (settled e ∷ settled_past past)
    (λ ends. found_left_out (e.number == n) (record_of e.event) (record_in (event_at (settled_past past) n)) (record_in (event_at past n)) (left_out_record e.event ends)
    (λ is. ap record_in (event_none n past (falls_to e.number n past is rest))) (settled_record e.number past n rest) ∙ sym (record_choice (e.number == n) e.event (event_at past n)))
    (λ _. record_choice ((settled e).number == n) (settled e).event (event_at (settled_past past) n)
    ∙ (found_kept (settled e).number e.number n (record_of (settled e).event) (record_of e.event) (record_in (event_at (settled_past past) n)) (record_in (event_at past n))
    (settled_number (opens e.reply) e) (ap record_of (settled_event (opens e.reply) e)) (settled_record e.number past n rest)
    ∙ sym (record_choice (e.number == n) e.event (event_at past n))))

pub settled_hash_at : (next : ℕ) (past : List Entry) (n : ℕ) → falls_from next past ≡ true → hash_in (event_at (settled_past past) n) ≡ hash_in (event_at past n)
settled_hash_at next [] n h = refl
settled_hash_at next (e ∷ past) n h =
    let rest = second_holds (nat_lt e.number next) (falls_from e.number past) h in
    pick_past (λ xs. hash_in (event_at xs n) ≡ hash_in (event_at (e ∷ past) n)) (ends_with_daemon e.event) (settled_past past) (settled e ∷ settled_past past)
    (λ ends. found_left_out (e.number == n) (hash_of_event e.event) (hash_in (event_at (settled_past past) n)) (hash_in (event_at past n)) (left_out_hash e.event ends)
    (λ is. ap hash_in (event_none n past (falls_to e.number n past is rest))) (settled_hash_at e.number past n rest) ∙ sym (hash_choice (e.number == n) e.event (event_at past n)))
    (λ _. hash_choice ((settled e).number == n) (settled e).event (event_at (settled_past past) n)
    ∙ (found_kept (settled e).number e.number n (hash_of_event (settled e).event) (hash_of_event e.event) (hash_in (event_at (settled_past past) n)) (hash_in (event_at past n))
    (settled_number (opens e.reply) e) (ap hash_of_event (settled_event (opens e.reply) e)) (settled_hash_at e.number past n rest)
    ∙ sym (hash_choice (e.number == n) e.event (event_at past n))))

-- no outage stands
left_outage : (event : Event) (reply : Reply) → ends_with_daemon event ≡ false → records_outage event reply ≡ false
left_outage (events.Outage n) reply h = true_not_false h
left_outage events.Offline reply h = true_not_false h
left_outage _ reply h = refl

no_outage_by : (r e : Bool) (x y : Option ℕ) → r ≡ false → y ≡ None → (if r then x else if e then None else y) ≡ None
no_outage_by true e x y f g = true_not_false f
no_outage_by false true x y f g = refl
no_outage_by false false x y f g = g

pub settled_no_outage : (past : List Entry) (timeout t : ℕ) → outage_at timeout (settled_past past) t ≡ None
settled_no_outage [] timeout t = refl
settled_no_outage (e ∷ past) timeout t =
    pick_past (λ xs. outage_at timeout xs t ≡ None) (ends_with_daemon e.event) (settled_past past) (settled e ∷ settled_past past) (λ _. settled_no_outage past timeout t)
    (λ stays. no_outage_by (records_outage (settled e).event (settled e).reply) (ends_outage (settled e).event (settled e).reply)
    (if nat_lt t ((settled e).moment + timeout) then Some (settled e).number else None) (outage_at timeout (settled_past past) t)
    (left_outage (settled e).event (settled e).reply (ap ends_with_daemon (settled_event (opens e.reply) e) ∙ stays)) (settled_no_outage past timeout t))

-- what is named by numbers from a bound on
not_named : (m n : ℕ) (number : ℕ) (reply : Reply) → (nat_lt m number || is_no_request reply) ≡ true → number ≤ n → (m == n) ≡ true → is_no_request reply ≡ true
not_named m n number reply h le is = pick_second (nat_lt m number) (is_no_request reply) (grind (arith, nat_tests, le, is)) h
  where
    pick_second : (a b : Bool) → a ≡ false → (a || b) ≡ true → b ≡ true
    pick_second true b f g = true_not_false f
    pick_second false b f g = g

no_request_reply : (reply : Reply) → is_no_request reply ≡ true → reply ≡ replies.NoRequest
no_request_reply replies.NoRequest h = refl
no_request_reply _ h = true_not_false (sym h)

pub refused : (b : Bool) (m number n : ℕ) (reply : Reply) (L : Reply → Bool) → L replies.NoRequest ≡ false → (nat_lt m number || is_no_request reply) ≡ true → number ≤ n →
    (m == n) ≡ b → (b && L reply) ≡ false
refused false m number n reply L none h le is = refl
refused true m number n reply L none h le is =
    let refused_here = no_request_reply reply (not_named m n number reply h le is) in
    ap L refused_here ∙ none

closes_none : (e : Entry) (n : ℕ) (event : Event) → e.number ≤ n → names_earlier e.number (named_by event) e.reply ≡ true → closes event e.reply n ≡ false
closes_none e n (events.Answer r answered) le h = refused (r == n) r e.number n e.reply is_closed refl h le refl
closes_none e n (events.Refuse r refusal) le h = refused (r == n) r e.number n e.reply is_closed refl h le refl
closes_none e n (events.Outage r) le h = refused (r == n) r e.number n e.reply (λ reply. is_closed reply || is_shut reply) refl h le refl
closes_none e n (events.Abandon r) le h = refused (r == n) r e.number n e.reply is_closed refl h le refl
closes_none e n (events.LoginOnline r result) le h = refused (r == n) r e.number n e.reply is_closed refl h le refl
closes_none e n (events.LoginTry r named right) le h = refused (r == n) r e.number n e.reply is_try_accepted refl h le refl
closes_none e n _ le h = refl

pub and_false : (b : Bool) → (b && false) ≡ false
and_false true = refl
and_false false = refl

done_closes_none : (event : Event) (n : ℕ) → closes event replies.Done n ≡ false
done_closes_none (events.Answer r answered) n = and_false (r == n)
done_closes_none (events.Refuse r refusal) n = and_false (r == n)
done_closes_none (events.Outage r) n = and_false (r == n)
done_closes_none (events.Abandon r) n = and_false (r == n)
done_closes_none (events.LoginOnline r result) n = and_false (r == n)
done_closes_none (events.LoginTry r named right) n = and_false (r == n)
done_closes_none _ n = refl

settled_closes_none : (b : Bool) (e : Entry) (n : ℕ) → e.number ≤ n → names_earlier e.number (named_by e.event) e.reply ≡ true →
    closes (settled_as b e).event (settled_as b e).reply n ≡ false
settled_closes_none true e n le h = done_closes_none e.event n
settled_closes_none false e n le h = closes_none e n e.event le h

chosen_second : {X : Type 0} (b : Bool) (x y z : X) → b ≡ false → y ≡ z → (if b then x else y) ≡ z
chosen_second true x y z f g = true_not_false f
chosen_second false x y z f g = g

pub settled_outcome : (next : ℕ) (past : List Entry) (r : ℕ) → falls_from next past ≡ true → all_name_earlier past ≡ true → next ≤ r →
    outcome_of (settled_past past) r ≡ outcomes.Dropped r
settled_outcome next [] r f h le = refl
settled_outcome next (e ∷ past) r f h le =
    let below : e.number < next = grind (arith, nat_tests, f) in
    let rest = second_holds (nat_lt e.number next) (falls_from e.number past) f in
    let here = first_holds (names_earlier e.number (named_by e.event) e.reply) (all_name_earlier past) h in
    let others = second_holds (names_earlier e.number (named_by e.event) e.reply) (all_name_earlier past) h in
    let later = settled_outcome e.number past r rest others (omega (arith, below, le)) in
    pick_past (λ xs. outcome_of xs r ≡ outcomes.Dropped r) (ends_with_daemon e.event) (settled_past past) (settled e ∷ settled_past past) (λ _. later)
    (λ _. chosen_second (closes (settled e).event (settled e).reply r) (outcome_by (settled e).number (settled e).event (settled e).reply) (outcome_of (settled_past past) r) (outcomes.Dropped r)
    (settled_closes_none (opens e.reply) e r (omega (arith, below, le)) here) later)
