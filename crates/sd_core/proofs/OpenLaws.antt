-- At most one request is open for a key, and the outcome of what is closed stays.
use Rattle.std.proofs.Common.{◌≡◌, ℕ, Bool, true, false, List, [], ◌∷◌, arith, refl, sym, subst, ◌∙◌}
use Rattle.std.specs.Prelude.{Option, Some, None, cond, not, ◌==◌, ◌&&◌, ◌||◌, if◌then◌else◌}
use Rattle.std.proofs.lemmas.Bool.Decides.{nat_tests}
use Rattle.sd_rules.specs.declared.keys.Key.{Key}
use Rattle.sd_rules.specs.declared.events.Event.{Event}
use Rattle.sd_rules.specs.declared.events.Event.TheVariants as events
use Rattle.sd_rules.specs.declared.replies.Entry.{Entry}
use Rattle.sd_rules.specs.declared.replies.Outcome.{Outcome}
use Rattle.sd_rules.specs.declared.replies.Reply.{Reply}
use Rattle.sd_rules.specs.declared.replies.Reply.TheVariants as replies
use Rattle.sd_rules.specs.declared.settings.Settings.{Settings}
use Rattle.sd_rules.specs.Keys.{kind_of, carried, same_name, same_key}
use Rattle.sd_rules.specs.Past.{Standing, is_closed, is_shut, newest, outage_at, key_asked, key_of}
use Rattle.sd_rules.specs.Requests.{is_lead, unclosed, closes, opens_request, has_opened_request, is_open, is_open_request, is_open_attempt, is_try_accepted, asks_for, open_among, open_for, outcome_of, outcome_by}
use Rattle.sd_rules.specs.Servers.{picked_server}
use Rattle.sd_rules.specs.Logins.{user_of}
use Rattle.sd_rules.specs.Answers.{is_found, is_fresh, is_filtered, is_past_midpoint, is_renewable, reply_in_outage, reply_by_request, reply_unless_fresh, reply_if_fresh, reply_by_newest, reply_to_ask}
use Rattle.sd_rules.specs.Steps.{Daemon, next_number, moment_of, reply_to, reply_to_answer, reply_to_outage, reply_to_try, entry_made}
use Rattle.sd_core.specs.Laws.{HasOneOpen, KeepsOutcomes}
use Rattle.sd_core.proofs.Room.{false_is_not_true, same_number}
use Rattle.sd_core.proofs.KindLaws.{first_holds, second_holds}
use Rattle.sd_core.proofs.LawProofs.{pick_law}

-- only what is open is closed
closed_if_open : (o : Bool) (f : Reply) → is_closed (if o then f else replies.NoRequest) ≡ true → o ≡ true
closed_if_open true f h = refl
closed_if_open false f h = h

ended_if_open : (o : Bool) (f : Reply) → (is_closed (if o then f else replies.NoRequest) || is_shut (if o then f else replies.NoRequest)) ≡ true → o ≡ true
ended_if_open true f h = refl
ended_if_open false f h = h

accepted_if_open : (o : Bool) (f : Reply) → is_try_accepted (if o then f else replies.NoRequest) ≡ true → o ≡ true
accepted_if_open true f h = refl
accepted_if_open false f h = h

open_as_request : (past : List Entry) (q r : ℕ) → (q == r) ≡ true → is_open_request past q ≡ true → is_open past r ≡ true
open_as_request past q r e h =
    let same : q ≡ r = grind (arith, nat_tests, e) in
    let opened : is_open_request past r ≡ true = subst (λ n. is_open_request past n ≡ true) same h in
    first_way (is_open_request past r) (is_open_attempt past r) opened
  where
    first_way : (a b : Bool) → a ≡ true → (a || b) ≡ true
    first_way true b f = refl
    first_way false b f = absurd (false_is_not_true f)

open_as_attempt : (past : List Entry) (q r : ℕ) → (q == r) ≡ true → is_open_attempt past q ≡ true → is_open past r ≡ true
open_as_attempt past q r e h =
    let same : q ≡ r = grind (arith, nat_tests, e) in
    let opened : is_open_attempt past r ≡ true = subst (λ n. is_open_attempt past n ≡ true) same h in
    second_way (is_open_request past r) (is_open_attempt past r) opened
  where
    second_way : (a b : Bool) → b ≡ true → (a || b) ≡ true
    second_way true b f = refl
    second_way false b f = f

open_as_either : (past : List Entry) (q r : ℕ) → (q == r) ≡ true → is_open past q ≡ true → is_open past r ≡ true
open_as_either past q r e h =
    let same : q ≡ r = grind (arith, nat_tests, e) in
    subst (λ n. is_open past n ≡ true) same h

pub closes_open : (s : Settings) (past : List Entry) (number t : ℕ) (event : Event) (r : ℕ) → closes event (reply_to s past number t event) r ≡ true → is_open past r ≡ true
closes_open s past number t (events.Answer q answered) r h =
    let f = reply_to_answer past q (key_of past q) answered in
    let o = is_open_request past q in
    open_as_request past q r (first_holds (q == r) (is_closed (if o then f else replies.NoRequest)) h)
    (closed_if_open o f (second_holds (q == r) (is_closed (if o then f else replies.NoRequest)) h))
closes_open s past number t (events.Refuse q refusal) r h =
    let o = is_open_request past q in
    open_as_request past q r (first_holds (q == r) (is_closed (if o then replies.Closed else replies.NoRequest)) h)
    (closed_if_open o replies.Closed (second_holds (q == r) (is_closed (if o then replies.Closed else replies.NoRequest)) h))
closes_open s past number t (events.Outage q) r h =
    let o = is_open past q in
    let f = reply_to_outage past number q (picked_server s past q t) in
    let reply : Reply = if o then f else replies.NoRequest in
    open_as_either past q r (first_holds (q == r) (is_closed reply || is_shut reply) h)
    (ended_if_open o f (second_holds (q == r) (is_closed reply || is_shut reply) h))
closes_open s past number t (events.Abandon q) r h =
    let o = is_open past q in
    open_as_either past q r (first_holds (q == r) (is_closed (if o then replies.Closed else replies.NoRequest)) h)
    (closed_if_open o replies.Closed (second_holds (q == r) (is_closed (if o then replies.Closed else replies.NoRequest)) h))
closes_open s past number t (events.LoginOnline q result) r h =
    let o = is_open_attempt past q in
    open_as_attempt past q r (first_holds (q == r) (is_closed (if o then replies.Closed else replies.NoRequest)) h)
    (closed_if_open o replies.Closed (second_holds (q == r) (is_closed (if o then replies.Closed else replies.NoRequest)) h))
closes_open s past number t (events.LoginTry q named right) r h =
    let o = is_open_attempt past q in
    let f = reply_to_try s past t named right (user_of past q) in
    open_as_attempt past q r (first_holds (q == r) (is_try_accepted (if o then f else replies.NoRequest)) h)
    (accepted_if_open o f (second_holds (q == r) (is_try_accepted (if o then f else replies.NoRequest)) h))
closes_open s past number t _ r h = absurd (false_is_not_true h)

stays_if : (c : Bool) (x y : Outcome) → (c ≡ true → ⊥) → (if c then x else y) ≡ y
stays_if true x y f = absurd (f refl)
stays_if false x y f = refl

pub keeps_outcomes : (d : Daemon) (now : ℕ) (event : Event) → KeepsOutcomes d.past (entry_made d now event ∷ d.past)
keeps_outcomes d now event = record {
  stays = λ r closed.
      stays_if (closes event (reply_to d.settings d.past (next_number d) (moment_of d now) event) r)
      (outcome_by (next_number d) event (reply_to d.settings d.past (next_number d) (moment_of d now) event)) (outcome_of d.past r)
      (λ c. false_is_not_true (sym closed ∙ closes_open d.settings d.past (next_number d) (moment_of d now) event r c));
}

-- a question leads only where no request is open for its key
abbrev Leads : Option ℕ → Reply → Type 0
Leads running reply = is_lead reply ≡ true → running ≡ None

outage_leads : (o : ℕ) (x : Option Standing) (running : Option ℕ) → Leads running (reply_in_outage o x)
outage_leads o None running = λ h. absurd (false_is_not_true h)
outage_leads o (Some a) running =
    pick_law (Leads running) (is_found a.answered) (replies.Old a.number o) (replies.OldGone a.number o) (λ _ h. absurd (false_is_not_true h)) (λ _ h. absurd (false_is_not_true h))

request_leads : (number : ℕ) (running : Option ℕ) → Leads running (reply_by_request number running)
request_leads number None = λ h. refl
request_leads number (Some r) = λ h. absurd (false_is_not_true h)

stale_leads : (number : ℕ) (x : Option Standing) (outage running : Option ℕ) → Leads running (reply_unless_fresh number x outage running)
stale_leads number x None running = request_leads number running
stale_leads number x (Some o) running = outage_leads o x running

renewable_none : (outage running : Option ℕ) → is_renewable outage running ≡ true → running ≡ None
renewable_none None None h = refl
renewable_none None (Some r) h = absurd (false_is_not_true h)
renewable_none (Some o) None h = refl
renewable_none (Some o) (Some r) h = absurd (false_is_not_true h)

fresh_leads : (s : Settings) (number t : ℕ) (a : Standing) (outage running : Option ℕ) → Leads running (reply_if_fresh s number t a outage running)
fresh_leads s number t a outage running =
    pick_law (Leads running) (not (is_found a.answered)) (replies.Gone a.number)
    (if is_past_midpoint s t a && is_renewable outage running then replies.Refresh a.number number else replies.Fresh a.number)
    (λ _ h. absurd (false_is_not_true h))
    (λ _. pick_law (Leads running) (is_past_midpoint s t a && is_renewable outage running) (replies.Refresh a.number number) (replies.Fresh a.number)
    (λ c _. renewable_none outage running (second_holds (is_past_midpoint s t a) (is_renewable outage running) c))
    (λ _ h. absurd (false_is_not_true h)))

newest_leads : (s : Settings) (past : List Entry) (number t : ℕ) (x : Option Standing) (outage running : Option ℕ) → Leads running (reply_by_newest s past number t x outage running)
newest_leads s past number t None outage running = stale_leads number None outage running
newest_leads s past number t (Some a) outage running =
    pick_law (Leads running) (is_fresh s past t a) (reply_if_fresh s number t a outage running) (reply_unless_fresh number (Some a) outage running)
    (λ _. fresh_leads s number t a outage running) (λ _. stale_leads number (Some a) outage running)

ask_leads : (s : Settings) (past : List Entry) (number t : ℕ) (k : Key) → Leads (open_for past k) (reply_to_ask s past number t k)
ask_leads s past number t k =
    pick_law (Leads (open_for past k)) (is_filtered s k) replies.Filtered
    (reply_by_newest s past number t (newest past k) (outage_at s.offline_timeout past t) (open_for past k)) (λ _ h. absurd (false_is_not_true h))
    (λ _. newest_leads s past number t (newest past k) (outage_at s.offline_timeout past t) (open_for past k))

-- a key equals itself
same_name_itself : (xs : List ℕ) → same_name xs xs ≡ true
same_name_itself [] = refl
same_name_itself (x ∷ xs) = let here = same_number x in let rest = same_name_itself xs in both_true (x == x) (same_name xs xs) here rest
  where
    both_true : (a b : Bool) → a ≡ true → b ≡ true → (a && b) ≡ true
    both_true a b f g = cc

same_key_itself : (k : Key) → same_key k k ≡ true
same_key_itself k = both_true (kind_of k == kind_of k) (same_name (carried k) (carried k)) (same_number (kind_of k)) (same_name_itself (carried k))
  where
    both_true : (a b : Bool) → a ≡ true → b ≡ true → (a && b) ≡ true
    both_true a b f g = cc

asks_for_asked : (event : Event) (k : Key) → key_asked event ≡ Some k → asks_for event k ≡ true
asks_for_asked (events.Ask key) k h = subst (λ q. same_key q k ≡ true) (sym (same_asked key k h)) (same_key_itself k)
  where
    same_asked : (a b : Key) → Some a ≡ Some b → a ≡ b
    same_asked a b e = cc
asks_for_asked _ k h = absurd (none_is_not_some k h)
  where
    none_is_not_some : (k : Key) → None ≡ Some k → ⊥
    none_is_not_some k e = cc

-- where no request is open for a key, none of that key is open
none_left : (b : Bool) (n : ℕ) (x : Option ℕ) → (if b then Some n else x) ≡ None → (b ≡ false) × (x ≡ None)
none_left true n x h = let e : ⊥ = cc in absurd e
none_left false n x h = (refl, h)

none_open_at : (all past : List Entry) (e : Entry) (k : Key) (r : ℕ) (b : Bool) → (e.number == r) ≡ b →
    (asks_for e.event k && is_open_request all e.number) ≡ false → (if b then key_asked e.event else key_of past r) ≡ Some k → is_open_request all r ≡ true →
    (key_of past r ≡ Some k → ⊥) → ⊥
none_open_at all past e k r true is h own f rest =
    let same : e.number ≡ r = grind (arith, nat_tests, is) in
    let opened : is_open_request all e.number ≡ true = subst (λ n. is_open_request all n ≡ true) (sym same) f in
    let asked = asks_for_asked e.event k own in
    false_is_not_true (sym h ∙ both_true (asks_for e.event k) (is_open_request all e.number) asked opened)
  where
    both_true : (a b : Bool) → a ≡ true → b ≡ true → (a && b) ≡ true
    both_true a b f g = cc
none_open_at all past e k r false is h own f rest = rest own

none_open : (all past : List Entry) (k : Key) (r : ℕ) → open_among all past k ≡ None → is_open_request all r ≡ true → key_of past r ≡ Some k → ⊥
none_open all [] k r h f own = let e : ⊥ = cc in e
none_open all (e ∷ past) k r h f own =
    let none = none_left (asks_for e.event k && is_open_request all e.number) e.number (open_among all past k) h in
    none_open_at all past e k r (e.number == r) refl none.0 own f (none_open all past k r none.1 f)

-- what is open after an entry, but for its own request, was open before it
request_before_by : (c b : Bool) (x : Entry) (y : Option Entry) → b ≡ false → has_opened_request (cond c None (cond b (Some x) y)) ≡ true → has_opened_request y ≡ true
request_before_by true b x y f h = absurd (false_is_not_true h)
request_before_by false true x y f h = absurd (false_is_not_true (sym f))
request_before_by false false x y f h = h

pub request_before : (e : Entry) (past : List Entry) (n : ℕ) → (e.number == n) ≡ false → is_open_request (e ∷ past) n ≡ true → is_open_request past n ≡ true
request_before e past n other h = request_before_by (closes e.event e.reply n) (e.number == n) e (unclosed past n) other h

pub key_before : (e : Entry) (past : List Entry) (n : ℕ) (k : Key) → (e.number == n) ≡ false → key_of (e ∷ past) n ≡ Some k → key_of past n ≡ Some k
key_before e past n k other h = passed (e.number == n) (key_asked e.event) (key_of past n) other h
  where
    passed : (b : Bool) (x y : Option Key) → b ≡ false → (if b then x else y) ≡ Some k → y ≡ Some k
    passed true x y f g = absurd (false_is_not_true (sym f))
    passed false x y f g = g

-- what is open under an entry's own number was opened by it
own_opened_by : (c b : Bool) (x : Entry) (y : Option Entry) → b ≡ true → has_opened_request (cond c None (cond b (Some x) y)) ≡ true → opens_request x.event x.reply ≡ true
own_opened_by true b x y f h = absurd (false_is_not_true h)
own_opened_by false true x y f h = h
own_opened_by false false x y f h = absurd (false_is_not_true f)

own_key_by : (b : Bool) (x y : Option Key) (k : Key) → b ≡ true → (if b then x else y) ≡ Some k → x ≡ Some k
own_key_by true x y k f g = g
own_key_by false x y k f g = absurd (false_is_not_true f)

-- an event that asks for a key and opens a request does so only where none is open for that key
opens_alone : (s : Settings) (past : List Entry) (number t : ℕ) (event : Event) (k : Key) → key_asked event ≡ Some k →
    opens_request event (reply_to s past number t event) ≡ true → open_for past k ≡ None
opens_alone s past number t (events.Ask key) k own h =
    let same : key ≡ k = cc in
    subst (λ q. open_for past q ≡ None) same (ask_leads s past number t key h)
opens_alone s past number t _ k own h = let e : ⊥ = cc in absurd e

-- the new entry's request and one that was open before are not of one key
alone : (d : Daemon) (now : ℕ) (event : Event) (r q : ℕ) (k : Key) → ((entry_made d now event).number == r) ≡ true → ((entry_made d now event).number == q) ≡ false →
    is_open_request (entry_made d now event ∷ d.past) r ≡ true → is_open_request (entry_made d now event ∷ d.past) q ≡ true →
    key_of (entry_made d now event ∷ d.past) r ≡ Some k → key_of (entry_made d now event ∷ d.past) q ≡ Some k → ⊥
alone d now event r q k new old fr fq kr kq =
    let e : Entry = entry_made d now event in
    let own = own_key_by (e.number == r) (key_asked e.event) (key_of d.past r) k new kr in
    let opened = own_opened_by (closes e.event e.reply r) (e.number == r) e (unclosed d.past r) new fr in
    let none = opens_alone d.settings d.past (next_number d) (moment_of d now) event k own opened in
    none_open d.past d.past k q none (request_before e d.past q old fq) (key_before e d.past q k old kq)

one_by : (d : Daemon) (now : ℕ) (event : Event) (r q : ℕ) (k : Key) (a b : Bool) → HasOneOpen d.past →
    ((entry_made d now event).number == r) ≡ a → ((entry_made d now event).number == q) ≡ b →
    is_open_request (entry_made d now event ∷ d.past) r ≡ true → is_open_request (entry_made d now event ∷ d.past) q ≡ true →
    key_of (entry_made d now event ∷ d.past) r ≡ Some k → key_of (entry_made d now event ∷ d.past) q ≡ Some k → r ≡ q
one_by d now event r q k true true one a b fr fq kr kq = grind (arith, nat_tests, a, b)
one_by d now event r q k true false one a b fr fq kr kq = absurd (alone d now event r q k a b fr fq kr kq)
one_by d now event r q k false true one a b fr fq kr kq = absurd (alone d now event q r k b a fq fr kq kr)
one_by d now event r q k false false one a b fr fq kr kq =
    let e : Entry = entry_made d now event in
    one.one r q k (request_before e d.past r a fr) (request_before e d.past q b fq) (key_before e d.past r k a kr) (key_before e d.past q k b kq)

pub one_open_after : (d : Daemon) (now : ℕ) (event : Event) → HasOneOpen d.past → HasOneOpen (entry_made d now event ∷ d.past)
one_open_after d now event one = record {
  one = λ r q k fr fq kr kq. one_by d now event r q k ((entry_made d now event).number == r) ((entry_made d now event).number == q) one refl refl fr fq kr kq;
}
