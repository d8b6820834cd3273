-- Pasts that are alike stay so after a step, whose entry is the same over both.
use Rattle.std.proofs.Common.{◌≡◌, ◌≢◌, ℕ, ◌+◌, ◌<◌, ◌≤◌, Bool, true, false, List, [], ◌∷◌, arith, refl, sym, ap, subst, ◌∙◌}
use Rattle.std.specs.Prelude.{Option, Some, None, cond, nat_lt, ◌==◌, ◌&&◌, ◌||◌, if◌then◌else◌}
use Rattle.std.proofs.lemmas.Bool.Decides.{nat_tests}
use Rattle.sd_rules.specs.declared.keys.Key.{Key}
use Rattle.sd_rules.specs.declared.records.Answered.{Answered}
use Rattle.sd_rules.specs.declared.records.Answered.TheVariants.{Found, Absent}
use Rattle.sd_rules.specs.declared.events.Event.{Event}
use Rattle.sd_rules.specs.declared.events.Event.TheVariants as events
use Rattle.sd_rules.specs.declared.events.LoginResult.{LoginResult}
use Rattle.sd_rules.specs.declared.events.Row.{Row}
use Rattle.sd_rules.specs.declared.events.Row.TheVariants as rows
use Rattle.sd_rules.specs.declared.replies.Entry.{Entry}
use Rattle.sd_rules.specs.declared.replies.Outcome.{Outcome}
use Rattle.sd_rules.specs.declared.replies.Reply.{Reply}
use Rattle.sd_rules.specs.declared.replies.Reply.TheVariants as replies
use Rattle.sd_rules.specs.declared.settings.Settings.{Settings}
use Rattle.sd_rules.specs.Keys.{speaks_of}
use Rattle.sd_rules.specs.Logins.{Login, accepts, hash_carried, hash_entry, is_name, is_right, last_online_login, last_wrong, login_by, login_in, only_hashed, or_earlier, user_of, user_opened, wrong_count, wrongs}
use Rattle.sd_rules.specs.Past.{Standing, answer_by, answer_in, answer_under, is_closed, is_void_after, is_voided, key_asked, key_of, newest, or_else, records_outage, ends_outage, spoken, voids}
use Rattle.sd_rules.specs.Requests.{answered_outcome, asks_for, closes, ends_waiting, has_opened_attempt, has_opened_request, is_open_attempt, is_open_request, is_try_accepted, joined, open_among, outcome_by, outcome_of, shut_outcome, unclosed, waits_for}
use Rattle.sd_rules.specs.Servers.{falls_under, is_fall_of, is_online, is_pick_of, is_server}
use Rattle.sd_rules.specs.Steps.{event_at, hash_in, asks_again, record_in, reply_to, reply_to_answer, reply_to_try, void_since}
use Rattle.sd_core.proofs.JoinLaws.{has_joined}
use Rattle.sd_restart.specs.Alike.{Alike, IsSameAnswer, IsSameLogin, SameAnswer, SameHash, SameLogin, SameOutcome, SameRecord}
use Rattle.sd_restart.proofs.SameReplies.{open_request_open}
use Rattle.sd_restart.proofs.SameGiven.{NamedAlike, OutcomeHeld, named_alike}

true_not_false : {X : Type 0} → true ≡ false → X
true_not_false e = let clash : ⊥ = cc in absurd clash

-- a reply that is given where a test holds, and otherwise is NoRequest
closed_chosen : (b : Bool) (x : Reply) → is_closed (if b then x else replies.NoRequest) ≡ true → b ≡ true
closed_chosen true x h = refl
closed_chosen false x h = true_not_false (sym h)

accepted_chosen : (b : Bool) (x : Reply) → is_try_accepted (if b then x else replies.NoRequest) ≡ true → b ≡ true
accepted_chosen true x h = refl
accepted_chosen false x h = true_not_false (sym h)

-- what an entry is that a step makes over a past: it closes only what is open, and joins only such
pub record IsLegalOver (past : List Entry) (e : Entry) : Type 0 where
  pub answers : (r : ℕ) (answered : Answered) → e.event ≡ events.Answer r answered → is_closed e.reply ≡ true → is_open_request past r ≡ true
  pub results : (a : ℕ) (result : LoginResult) → e.event ≡ events.LoginOnline a result → is_closed e.reply ≡ true → is_open_attempt past a ≡ true
  pub tries : (a named : ℕ) (right : Bool) → e.event ≡ events.LoginTry a named right → is_try_accepted e.reply ≡ true → is_open_attempt past a ≡ true
  pub joins : (r : ℕ) → joined e.reply ≡ Some r → is_open_request past r ≡ true

-- a request that is found open for a key is open
found_open : (all : List Entry) (x : Entry) (a : Bool) (r : ℕ) (rest : Option ℕ) → (rest ≡ Some r → is_open_request all r ≡ true) → (o : Bool) → is_open_request all x.number ≡ o →
    (if a && o then Some x.number else rest) ≡ Some r → is_open_request all r ≡ true
found_open all x true r rest f true is h =
    let here : x.number ≡ r = cc in
    subst (λ n. is_open_request all n ≡ true) here is
found_open all x true r rest f false is h = f h
found_open all x false r rest f o is h = f h

seek_open : (all past : List Entry) (k : Key) (r : ℕ) → open_among all past k ≡ Some r → is_open_request all r ≡ true
seek_open all [] k r h = let clash : ⊥ = cc in absurd clash
seek_open all (x ∷ past) k r h =
    found_open all x (asks_for x.event k) r (open_among all past k) (seek_open all past k r) (is_open_request all x.number) refl h

-- an entry that a step makes
pub legal_over : (s : Settings) (past : List Entry) (e : Entry) → e.reply ≡ reply_to s past e.number e.moment e.event → IsLegalOver past e
legal_over s past e made = record {
  answers = λ r answered is closed.
      closed_chosen (is_open_request past r) (reply_to_answer past r (key_of past r) answered)
      (subst (λ event. is_closed (reply_to s past e.number e.moment event) ≡ true) is (subst (λ reply. is_closed reply ≡ true) made closed));
  results = λ a result is closed.
      closed_chosen (is_open_attempt past a) replies.Closed
      (subst (λ event. is_closed (reply_to s past e.number e.moment event) ≡ true) is (subst (λ reply. is_closed reply ≡ true) made closed));
  tries = λ a named right is accepted.
      accepted_chosen (is_open_attempt past a) (reply_to_try s past e.moment named right (user_of past a))
      (subst (λ event. is_try_accepted (reply_to s past e.number e.moment event) ≡ true) is (subst (λ reply. is_try_accepted reply ≡ true) made accepted));
  joins = λ r h.
      let found = has_joined s past e.number e.moment e.event r (subst (λ reply. joined reply ≡ Some r) made h) in
      seek_open past past found.key r found.running;
}

-- numbers below a bound are not that of the entry
other_number : (n next number : ℕ) → n < next → next ≤ number → (number == n) ≡ false
other_number n next number below le = grind (arith, nat_tests, below, le)

held_record : (next : ℕ) (p q : List Entry) (e : Entry) (n : ℕ) → next ≤ e.number → SameRecord next p q n → SameRecord (e.number + 1) (e ∷ p) (e ∷ q) n
held_record next p q e n le h =
    let other = other_number n next e.number h.0 le in
    let first : event_at (e ∷ p) n ≡ event_at p n = rw other refl in
    let second : event_at (e ∷ q) n ≡ event_at q n = rw other refl in
    (omega (arith, h.0), ap record_in first ∙ (h.1 ∙ sym (ap record_in second)))

held_hash : (next : ℕ) (p q : List Entry) (e : Entry) (n : ℕ) → next ≤ e.number → SameHash next p q n → SameHash (e.number + 1) (e ∷ p) (e ∷ q) n
held_hash next p q e n le h =
    let other = other_number n next e.number h.0 le in
    let first : event_at (e ∷ p) n ≡ event_at p n = rw other refl in
    let second : event_at (e ∷ q) n ≡ event_at q n = rw other refl in
    (omega (arith, h.0), ap hash_in first ∙ (h.1 ∙ sym (ap hash_in second)))

own_event : (e : Entry) (p : List Entry) → event_at (e ∷ p) e.number ≡ Some e.event
own_event e p =
    let same : (e.number == e.number) ≡ true = grind (arith, nat_tests) in
    rw same refl

own_record : (p q : List Entry) (e : Entry) (n : ℕ) → n ≡ e.number → SameRecord (e.number + 1) (e ∷ p) (e ∷ q) n
own_record p q e n is =
    subst (SameRecord (e.number + 1) (e ∷ p) (e ∷ q)) (sym is) (omega arith, ap record_in (own_event e p) ∙ sym (ap record_in (own_event e q)))

own_hash : (p q : List Entry) (e : Entry) (n : ℕ) → n ≡ e.number → SameHash (e.number + 1) (e ∷ p) (e ∷ q) n
own_hash p q e n is =
    subst (SameHash (e.number + 1) (e ∷ p) (e ∷ q)) (sym is) (omega arith, ap hash_in (own_event e p) ∙ sym (ap hash_in (own_event e q)))

-- what is open after the entry
same_opened_request : (c b : Bool) (x : Entry) (y z : Option Entry) → has_opened_request y ≡ has_opened_request z →
    has_opened_request (cond c None (cond b (Some x) y)) ≡ has_opened_request (cond c None (cond b (Some x) z))
same_opened_request true b x y z h = refl
same_opened_request false true x y z h = refl
same_opened_request false false x y z h = h

same_opened_attempt : (c b : Bool) (x : Entry) (y z : Option Entry) → has_opened_attempt y ≡ has_opened_attempt z →
    has_opened_attempt (cond c None (cond b (Some x) y)) ≡ has_opened_attempt (cond c None (cond b (Some x) z))
same_opened_attempt true b x y z h = refl
same_opened_attempt false true x y z h = refl
same_opened_attempt false false x y z h = h

opened_from : (from number n : ℕ) (c b : Bool) (x : Entry) (y : Option Entry) → (number == n) ≡ b → from ≤ number →
    ((has_opened_request y || has_opened_attempt y) ≡ true → from ≤ n) →
    (has_opened_request (cond c None (cond b (Some x) y)) || has_opened_attempt (cond c None (cond b (Some x) y))) ≡ true → from ≤ n
opened_from from number n true b x y is le f h = true_not_false (sym h)
opened_from from number n false true x y is le f h = grind (arith, nat_tests, is, le)
opened_from from number n false false x y is le f h = f h

-- keys and users of what is open
key_step : (c b : Bool) (x : Entry) (y : Option Entry) (k l m : Option Key) → (has_opened_request y ≡ true → l ≡ m) →
    has_opened_request (cond c None (cond b (Some x) y)) ≡ true → (if b then k else l) ≡ (if b then k else m)
key_step true b x y k l m f h = true_not_false (sym h)
key_step false true x y k l m f h = refl
key_step false false x y k l m f h = f h

user_step : (c b : Bool) (x : Entry) (y : Option Entry) (k l m : Option (List ℕ)) → (has_opened_attempt y ≡ true → l ≡ m) →
    has_opened_attempt (cond c None (cond b (Some x) y)) ≡ true → (if b then k else l) ≡ (if b then k else m)
user_step true b x y k l m f h = true_not_false (sym h)
user_step false true x y k l m f h = refl
user_step false false x y k l m f h = f h

-- invalidations since the last asking of what is open
void_step : (c b a v : Bool) (n : ℕ) (x : Entry) (y : Option Entry) (k l : Option ℕ) → (has_opened_request y ≡ true → k ≡ l) →
    has_opened_request (cond c None (cond b (Some x) y)) ≡ true → (if v then Some n else if b || a then None else k) ≡ (if v then Some n else if b || a then None else l)
void_step true b a v n x y k l f h = true_not_false (sym h)
void_step false b a true n x y k l f h = refl
void_step false true a false n x y k l f h = refl
void_step false false true false n x y k l f h = refl
void_step false false false false n x y k l f h = f h

-- tickets
waits_step : (c b : Bool) (x y z : Option ℕ) → y ≡ z → cond c None (cond b x y) ≡ cond c None (cond b x z)
waits_step c b x y z h = ap (λ w. cond c None (cond b x w)) h

waits_from_step : (from r : ℕ) (c b : Bool) (x y : Option ℕ) → (x ≡ Some r → from ≤ r) → (y ≡ Some r → from ≤ r) → cond c None (cond b x y) ≡ Some r → from ≤ r
waits_from_step from r true b x y f g h = let clash : ⊥ = cc in absurd clash
waits_from_step from r false true x y f g h = f h
waits_from_step from r false false x y f g h = g h

-- outcomes
lifted_outcome : (next : ℕ) (p q : List Entry) (e : Entry) (o r : Outcome) → next ≤ e.number → SameOutcome next p q o r → SameOutcome (e.number + 1) (e ∷ p) (e ∷ q) o r
lifted_outcome next p q e o r le h = record { same = h.same; held = λ n is. held_record next p q e n le (h.held n is) }

held_shut : (next : ℕ) (p q : List Entry) (e : Entry) (reply : Reply) → next ≤ e.number → NamedAlike next p q reply →
    OutcomeHeld (e.number + 1) (e ∷ p) (e ∷ q) (shut_outcome e.number reply)
held_shut next p q e (replies.Shut outcome) le h = λ n is. held_record next p q e n le (h n is)
held_shut next p q e _ le h = λ n is. let clash : ⊥ = cc in absurd clash

held_answered : (p q : List Entry) (e : Entry) (answered : Answered) → OutcomeHeld (e.number + 1) (e ∷ p) (e ∷ q) (answered_outcome e.number answered)
held_answered p q e Absent = λ n is. let clash : ⊥ = cc in absurd clash
held_answered p q e (Found found) = λ n is.
    let here : n ≡ e.number = cc in
    own_record p q e n here

held_closing : (next : ℕ) (p q : List Entry) (e : Entry) (event : Event) → next ≤ e.number → NamedAlike next p q e.reply →
    OutcomeHeld (e.number + 1) (e ∷ p) (e ∷ q) (outcome_by e.number event e.reply)
held_closing next p q e (events.Answer r answered) le h = held_answered p q e answered
held_closing next p q e (events.Outage n) le h = held_shut next p q e e.reply le h
held_closing next p q e (events.Refuse r refusal) le h = λ n is. let clash : ⊥ = cc in absurd clash
held_closing next p q e _ le h = λ n is. let clash : ⊥ = cc in absurd clash

pick_outcome : (next : ℕ) (p q : List Entry) (b : Bool) (x y z : Outcome) → SameOutcome next p q x x → SameOutcome next p q y z →
    SameOutcome next p q (if b then x else y) (if b then x else z)
pick_outcome next p q true x y z f g = f
pick_outcome next p q false x y z f g = g

-- answers
abbrev NumberIs : ℕ → Option Standing → Type 0
NumberIs n None = Unit {0}
NumberIs n (Some a) = a.number ≡ n

under_number : (e : Entry) (answered : Answered) (own : Option Key) → NumberIs e.number (answer_under e answered own)
under_number e answered None = tt
under_number e answered (Some own) = refl

number_if : (n : ℕ) (b : Bool) (x : Option Standing) → NumberIs n x → NumberIs n (if b then x else None)
number_if n true x h = h
number_if n false x h = tt

answer_number : (p : List Entry) (e : Entry) (event : Event) → NumberIs e.number (answer_by p e event)
answer_number p e (events.Answer r answered) = number_if e.number (is_closed e.reply) (answer_under e answered (key_of p r)) (under_number e answered (key_of p r))
answer_number p e (events.Kept row) = row_answer row
  where
    row_answer : (row : Row) → NumberIs e.number (answer_by p e (events.Kept row))
    row_answer (rows.Answer n m own answered marked) = refl
    row_answer _ = tt
answer_number p e _ = tt

closed_answer : (b : Bool) (e : Entry) (answered : Answered) (k l : Option Key) → (b ≡ true → k ≡ l) →
    (if b then answer_under e answered k else None) ≡ (if b then answer_under e answered l else None)
closed_answer true e answered k l f = ap (λ x. answer_under e answered x) (f refl)
closed_answer false e answered k l f = refl

same_answer_in : (from next : ℕ) (p q : List Entry) (e : Entry) (event : Event) → e.event ≡ event → Alike from next p q → IsLegalOver p e →
    answer_by p e event ≡ answer_by q e event
same_answer_in from next p q e (events.Answer r answered) is h legal =
    closed_answer (is_closed e.reply) e answered (key_of p r) (key_of q r) (λ closed. h.key r (legal.answers r answered is closed))
same_answer_in from next p q e (events.Kept row) is h legal = row_same row
  where
    row_same : (row : Row) → answer_by p e (events.Kept row) ≡ answer_by q e (events.Kept row)
    row_same (rows.Answer n m own answered marked) = refl
    row_same _ = refl
same_answer_in from next p q e _ is h legal = refl

void_more : (z v m w : Bool) → z ≡ false → (m || (if z then false else v || w)) ≡ (v || (m || w))
void_more true v m w e = true_not_false e
void_more false true true w e = refl
void_more false true false w e = refl
void_more false false true w e = refl
void_more false false false w e = refl

voided_later : (next : ℕ) (p : List Entry) (e : Entry) (a : Standing) → a.number < next → next ≤ e.number →
    is_voided (e ∷ p) a ≡ (voids e.event a.own a.answered || is_voided p a)
voided_later next p e a below le =
    void_more (e.number == a.number) (voids e.event a.own a.answered) a.marked (is_void_after p a) (other_number a.number next e.number below le)

lifted_answer : (next : ℕ) (p q : List Entry) (e : Entry) (a b : Standing) → next ≤ e.number → IsSameAnswer next p q a b → IsSameAnswer (e.number + 1) (e ∷ p) (e ∷ q) a b
lifted_answer next p q e a b le h = record {
  number = h.number;
  moment = h.moment;
  own = h.own;
  answered = h.answered;
  voided =
      voided_later next p e a h.held.0 le
      ∙ (ap (λ v. voids e.event a.own a.answered || v) h.voided
      ∙ (ap (λ k. voids e.event k a.answered || is_voided q b) h.own
      ∙ (ap (λ x. voids e.event b.own x || is_voided q b) h.answered
      ∙ sym (voided_later next q e b (subst (λ n. n < next) h.number h.held.0) le))));
  held = held_record next p q e a.number le h.held;
}

lifted_newest : (next : ℕ) (p q : List Entry) (e : Entry) (a b : Option Standing) → next ≤ e.number → SameAnswer next p q a b → SameAnswer (e.number + 1) (e ∷ p) (e ∷ q) a b
lifted_newest next p q e None None le h = tt
lifted_newest next p q e (Some a) (Some b) le h = lifted_answer next p q e a b le h
lifted_newest next p q e None (Some b) le h = absurd h
lifted_newest next p q e (Some a) None le h = absurd h

own_voided : (z m v w : Bool) → z ≡ true → (m || (if z then false else v)) ≡ (m || (if z then false else w))
own_voided true m v w e = refl
own_voided false m v w e = true_not_false (sym e)

own_answer : (p q : List Entry) (e : Entry) (a : Standing) → a.number ≡ e.number → IsSameAnswer (e.number + 1) (e ∷ p) (e ∷ q) a a
own_answer p q e a is =
    let same : (e.number == a.number) ≡ true = grind (arith, nat_tests, is) in
    record {
      number = refl;
      moment = refl;
      own = refl;
      answered = refl;
      voided = own_voided (e.number == a.number) a.marked (voids e.event a.own a.answered || is_void_after p a) (voids e.event a.own a.answered || is_void_after q a) same;
      held = own_record p q e a.number is;
    }

newest_at : (next : ℕ) (p q : List Entry) (e : Entry) (b : Bool) (a : Standing) (x y : Option Standing) → a.number ≡ e.number → next ≤ e.number → SameAnswer next p q x y →
    SameAnswer (e.number + 1) (e ∷ p) (e ∷ q) (or_else (if b then Some a else None) x) (or_else (if b then Some a else None) y)
newest_at next p q e true a x y is le h = own_answer p q e a is
newest_at next p q e false a x y is le h = lifted_newest next p q e x y le h

newest_by : (next : ℕ) (p q : List Entry) (e : Entry) (k : Key) (here : Option Standing) (x y : Option Standing) → NumberIs e.number here → next ≤ e.number → SameAnswer next p q x y →
    SameAnswer (e.number + 1) (e ∷ p) (e ∷ q) (or_else (spoken k here) x) (or_else (spoken k here) y)
newest_by next p q e k None x y is le h = lifted_newest next p q e x y le h
newest_by next p q e k (Some a) x y is le h = newest_at next p q e (speaks_of a.own a.answered k) a x y is le h

newest_step : (from next : ℕ) (p q : List Entry) (e : Entry) (k : Key) → Alike from next p q → IsLegalOver p e → next ≤ e.number →
    SameAnswer (e.number + 1) (e ∷ p) (e ∷ q) (newest (e ∷ p) k) (newest (e ∷ q) k)
newest_step from next p q e k h legal le =
    subst (λ x. SameAnswer (e.number + 1) (e ∷ p) (e ∷ q) (or_else (spoken k (answer_in p e)) (newest p k)) (or_else (spoken k x) (newest q k)))
    (same_answer_in from next p q e e.event refl h legal)
    (newest_by next p q e k (answer_in p e) (newest p k) (newest q k) (answer_number p e e.event) le (h.answer k))

-- logins
attempt_same : (c : Bool) (p q : List Entry) (a : ℕ) (user : List ℕ) (carried : Option Bool) → (c ≡ true → user_of p a ≡ user_of q a) →
    (if c && is_name (user_of p a) user then carried else None) ≡ (if c && is_name (user_of q a) user then carried else None)
attempt_same true p q a user carried f = ap (λ u. if is_name u user then carried else None) (f refl)
attempt_same false p q a user carried f = refl

same_login_by : (from next : ℕ) (p q : List Entry) (e : Entry) (user : List ℕ) (event : Event) → e.event ≡ event → Alike from next p q → IsLegalOver p e →
    login_by p user event e.reply ≡ login_by q user event e.reply
same_login_by from next p q e user (events.LoginOnline a result) is h legal =
    attempt_same (is_closed e.reply) p q a user (hash_carried result) (λ closed. h.user a (legal.results a result is closed))
same_login_by from next p q e user (events.Kept row) is h legal = refl
same_login_by from next p q e user _ is h legal = refl

same_accepts : (from next : ℕ) (p q : List Entry) (e : Entry) (user : List ℕ) (event : Event) → e.event ≡ event → Alike from next p q → IsLegalOver p e →
    accepts p user event e.reply ≡ accepts q user event e.reply
same_accepts from next p q e user (events.LoginOnline a result) is h legal =
    right_same (is_right result) (is_closed e.reply) (λ closed. ap (λ u. is_name u user) (h.user a (legal.results a result is closed)))
  where
    right_same : (r c : Bool) → (c ≡ true → is_name (user_of p a) user ≡ is_name (user_of q a) user) →
        (r && (c && is_name (user_of p a) user)) ≡ (r && (c && is_name (user_of q a) user))
    right_same false c f = refl
    right_same true false f = refl
    right_same true true f = f refl
same_accepts from next p q e user (events.LoginTry a named right) is h legal =
    tried_same (is_try_accepted e.reply) (λ accepted. ap (λ u. is_name u user) (h.user a (legal.tries a named right is accepted)))
  where
    tried_same : (c : Bool) → (c ≡ true → is_name (user_of p a) user ≡ is_name (user_of q a) user) →
        (c && is_name (user_of p a) user) ≡ (c && is_name (user_of q a) user)
    tried_same false f = refl
    tried_same true f = f refl
same_accepts from next p q e user (events.LoginGuess u named right) is h legal = refl
same_accepts from next p q e user _ is h legal = refl

lifted_login : (next : ℕ) (p q : List Entry) (e : Entry) (l m : Option Login) → next ≤ e.number → SameLogin next p q l m → SameLogin (e.number + 1) (e ∷ p) (e ∷ q) l m
lifted_login next p q e None None le h = tt
lifted_login next p q e (Some l) (Some m) le h = record { same = h.same; held = held_hash next p q e l.number le h.held }
lifted_login next p q e None (Some m) le h = absurd h
lifted_login next p q e (Some l) None le h = absurd h

own_login : (p q : List Entry) (e : Entry) (l : Login) → l.number ≡ e.number → IsSameLogin (e.number + 1) (e ∷ p) (e ∷ q) l l
own_login p q e l is = record { same = refl; held = own_hash p q e l.number is }

login_at : (next : ℕ) (p q : List Entry) (e : Entry) (hashed : Option Bool) (x y : Option Login) → next ≤ e.number → SameLogin next p q x y →
    SameLogin (e.number + 1) (e ∷ p) (e ∷ q) (or_earlier (login_in e hashed) x) (or_earlier (login_in e hashed) y)
login_at next p q e None x y le h = lifted_login next p q e x y le h
login_at next p q e (Some hashed) x y le h = own_login p q e (record { number = e.number; moment = e.moment; hashed = hashed }) refl

hash_at : (next : ℕ) (p q : List Entry) (e : Entry) (hashed : Option Bool) (x y : Option Login) → next ≤ e.number → SameLogin next p q x y →
    SameLogin (e.number + 1) (e ∷ p) (e ∷ q) (or_earlier (only_hashed (login_in e hashed)) x) (or_earlier (only_hashed (login_in e hashed)) y)
hash_at next p q e None x y le h = lifted_login next p q e x y le h
hash_at next p q e (Some true) x y le h = own_login p q e (record { number = e.number; moment = e.moment; hashed = true }) refl
hash_at next p q e (Some false) x y le h = lifted_login next p q e x y le h

login_step : (from next : ℕ) (p q : List Entry) (e : Entry) (user : List ℕ) → Alike from next p q → IsLegalOver p e → next ≤ e.number →
    SameLogin (e.number + 1) (e ∷ p) (e ∷ q) (last_online_login (e ∷ p) user) (last_online_login (e ∷ q) user)
login_step from next p q e user h legal le =
    subst (λ x. SameLogin (e.number + 1) (e ∷ p) (e ∷ q) (or_earlier (login_in e (login_by p user e.event e.reply)) (last_online_login p user)) (or_earlier (login_in e x) (last_online_login q user)))
    (same_login_by from next p q e user e.event refl h legal)
    (login_at next p q e (login_by p user e.event e.reply) (last_online_login p user) (last_online_login q user) le (h.login user))

hash_step : (from next : ℕ) (p q : List Entry) (e : Entry) (user : List ℕ) → Alike from next p q → IsLegalOver p e → next ≤ e.number →
    SameLogin (e.number + 1) (e ∷ p) (e ∷ q) (hash_entry (e ∷ p) user) (hash_entry (e ∷ q) user)
hash_step from next p q e user h legal le =
    subst (λ x. SameLogin (e.number + 1) (e ∷ p) (e ∷ q) (or_earlier (only_hashed (login_in e (login_by p user e.event e.reply))) (hash_entry p user)) (or_earlier (only_hashed (login_in e x)) (hash_entry q user)))
    (same_login_by from next p q e user e.event refl h legal)
    (hash_at next p q e (login_by p user e.event e.reply) (hash_entry p user) (hash_entry q user) le (h.hash user))

count_step : (w : ℕ) (a b : Bool) (m n : ℕ) → a ≡ b → m ≡ n → (if a then 0 else w + m) ≡ (if b then 0 else w + n)
count_step w a b m n e f = ap (λ x. if x then 0 else w + m) e ∙ ap (λ x. if b then 0 else w + x) f

-- the moment of the last wrong guess, where some count
wrong_step : (a : Bool) (w c m : ℕ) (x y : Option ℕ) → (c ≢ 0 → x ≡ y) → (if a then 0 else w + c) ≢ 0 → (if w == 0 then x else Some m) ≡ (if w == 0 then y else Some m)
wrong_step true w c m x y f h = absurd (h refl)
wrong_step false w c m x y f h = at_zero (w == 0) refl
  where
    at_zero : (z : Bool) → (w == 0) ≡ z → (if z then x else Some m) ≡ (if z then y else Some m)
    at_zero true is = f (λ none. h (grind (arith, nat_tests, is, none)))
    at_zero false is = refl

seek_step : (a b c : Bool) (n : ℕ) (x y : Option ℕ) → b ≡ c → x ≡ y → (if a && b then Some n else x) ≡ (if a && c then Some n else y)
seek_step a b c n x y f g = ap (λ d. if a && d then Some n else x) f ∙ ap (λ z. if a && c then Some n else z) g

-- after an entry that a step makes over both
pub alike_after : (s : Settings) (from next : ℕ) (p q : List Entry) (e : Entry) → Alike from next p q → e.reply ≡ reply_to s p e.number e.moment e.event → next ≤ e.number →
    Alike from (e.number + 1) (e ∷ p) (e ∷ q)
alike_after s from next p q e h made le =
    let legal = legal_over s p e made in
    let named : NamedAlike next p q e.reply = subst (NamedAlike next p q) (sym made) (named_alike s from next e.number e.moment p q e.event h) in
    record {
      begins = omega (arith, h.begins, le);
      request = λ n. same_opened_request (closes e.event e.reply n) (e.number == n) e (unclosed p n) (unclosed q n) (h.request n);
      attempt = λ n. same_opened_attempt (closes e.event e.reply n) (e.number == n) e (unclosed p n) (unclosed q n) (h.attempt n);
      open_from = λ n. opened_from from e.number n (closes e.event e.reply n) (e.number == n) e (unclosed p n) refl (omega (arith, h.begins, le)) (h.open_from n);
      seek = λ all other same begins k. seek_step (asks_for e.event k) (is_open_request all e.number) (is_open_request other e.number) e.number (open_among all p k) (open_among other q k)
          (same e.number) (h.seek all other same begins k);
      key = λ n. key_step (closes e.event e.reply n) (e.number == n) e (unclosed p n) (key_asked e.event) (key_of p n) (key_of q n) (h.key n);
      user = λ n. user_step (closes e.event e.reply n) (e.number == n) e (unclosed p n) (user_opened e.event) (user_of p n) (user_of q n) (h.user n);
      waits = λ t. waits_step (ends_waiting e.event e.reply t) (e.number == t) (joined e.reply) (waits_for p t) (waits_for q t) (h.waits t);
      waits_from = λ t r. waits_from_step from r (ends_waiting e.event e.reply t) (e.number == t) (joined e.reply) (waits_for p t)
          (λ is. h.open_from r (open_request_open p r (legal.joins r is))) (h.waits_from t r);
      outcome = λ r begins.
          pick_outcome (e.number + 1) (e ∷ p) (e ∷ q) (closes e.event e.reply r) (outcome_by e.number e.event e.reply) (outcome_of p r) (outcome_of q r)
          (record { same = refl; held = held_closing next p q e e.event le named }) (lifted_outcome next p q e (outcome_of p r) (outcome_of q r) le (h.outcome r begins));
      answer = λ k. newest_step from next p q e k h legal le;
      outage = λ timeout t.
          ap (λ x. if records_outage e.event e.reply then (if nat_lt t (e.moment + timeout) then Some e.number else None) else if ends_outage e.event e.reply then None else x)
          (h.outage timeout t);
      fell_under = λ n i begins. ap (λ x. falls_under e.event e.reply n i || x) (h.fell_under n i begins);
      fell = λ t i. ap (λ x. if is_online e.event then false else (is_fall_of e.event e.reply i && nat_lt t (e.moment + 30)) || x) (h.fell t i);
      picked = λ n i begins. ap (λ x. if is_pick_of e.event n then is_server e.reply i else x) (h.picked n i begins);
      void = λ r own answered.
          void_step (closes e.event e.reply r) (e.number == r) (asks_again e.event e.reply r) (voids e.event own answered) e.number e (unclosed p r)
          (void_since p r own answered) (void_since q r own answered) (h.void r own answered);
      hash = λ user. hash_step from next p q e user h legal le;
      login = λ user. login_step from next p q e user h legal le;
      wrongs = λ user.
          count_step (wrongs user e.event e.reply) (accepts p user e.event e.reply) (accepts q user e.event e.reply) (wrong_count p user) (wrong_count q user)
          (same_accepts from next p q e user e.event refl h legal) (h.wrongs user);
      wrong = λ user counted.
          wrong_step (accepts p user e.event e.reply) (wrongs user e.event e.reply) (wrong_count p user) e.moment (last_wrong p user) (last_wrong q user) (h.wrong user) counted;
    }
