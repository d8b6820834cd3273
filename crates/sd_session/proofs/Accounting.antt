-- What own entries opened is led, or open no more: turn by turn.
use Rattle.std.proofs.Common.{◌≡◌, ◌∙◌, ◌⊎◌, ℕ, ◌+◌, Bool, true, false, ◌||◌, ◌==◌, cond, List, [], ◌∷◌, ◌++◌, length, nat_lt, Option, Some, None, refl, sym, ap, subst, inl, inr, add-one, suc, arith}
use Rattle.std.specs.Prelude.{remove}
use Rattle.std.proofs.lemmas.Bool.Decides.{nat_tests}
use Rattle.sd_rules.specs.declared.events.Event.{Event}
use Rattle.sd_rules.specs.declared.events.Event.TheVariants as events
use Rattle.sd_rules.specs.declared.replies.Entry.{Entry}
use Rattle.sd_rules.specs.declared.replies.Reply.{Reply}
use Rattle.sd_rules.specs.declared.replies.Reply.TheVariants as replies
use Rattle.sd_rules.specs.Reaching.{Reaches}
use Rattle.sd_rules.specs.Requests.{closes, ends_waiting, joined, unclosed, opens_request, opens_attempt, has_opened_request, has_opened_attempt, waits_for, is_lead, is_bind}
use Rattle.sd_rules.specs.Steps.{Daemon, next_number, moment_of, after, entry_made, given, is_steppable}
use Rattle.sd_rules.specs.Scripts.{event_of}
use Rattle.sd_core.proofs.Room.{same_number}
use Rattle.sd_forgetting.specs.Orderly.{IsOrderly, is_ask}
use Rattle.sd_engine.specs.Courses.{Client, need_of, client_replied}
use Rattle.sd_engine.specs.Names.{holds_order}
use Rattle.sd_engine.specs.Leading.{about, opened, is_closing, place_in, without_place, without, with_one, leads_after, ticket_after}
use Rattle.sd_session.specs.Holding.{lists, leads_of, attempt_of, waits_of, leads_in, attempt_in, waits_in, client_renews}
use Rattle.sd_session.specs.Closing.{WasGiven, IsShut, HasLeft, IsNoRequest, IsNoAttempt, IsSorted, IsLed, IsHeld, AreLed, AreHeld, has_number, AreApart, AreOwn, Accounts, GivesUp, NoneReserved}
use Rattle.sd_session.proofs.ClosingLaws.{is_taking, request_shut, attempt_shut, ticket_left}
use Rattle.sd_session.proofs.HeldLaws.{SameHeld, HoldsNothing, GoesOnWithNothing, renews_on}
use Rattle.sd_session.proofs.HoldingLaws.{Follows, untrue}
use Rattle.sd_session.proofs.CourseLaws.{course_follows}
use Rattle.sd_session.proofs.ReplyKinds.{replies_as, answers_ask, answers_login, reply_kind}
use Rattle.sd_session.proofs.ShutLaws.{not_next, given_after, given_now, given_reached, no_request_after, no_request_reached, no_attempt_after, no_attempt_reached, shut_both, shut_after, shut_reached, left_after, left_reached, reserves_none}

-- ---- where nothing is opened or closed

none_some : {P : Type 0} {n : ℕ} → None ≡ Some n → P
none_some e = let clash : ⊥ = cc in absurd clash

-- what is held without a request in hand is held with any
held_anyhow : (d : Daemon) (client : Option Client) (own : List Entry) → AreHeld d None own → AreHeld d client own
held_anyhow d client [] h = tt
held_anyhow d client (e ∷ own) h = (
  record {
    led = elim h.0.led [
      | inl l ↦ untrue l
      | inr l ↦ elim l [
        | inl a ↦ none_some a
        | inr s ↦ inr (inr s)
      ]
    ];
    waited = elim h.0.waited [
      | inl w ↦ none_some w
      | inr l ↦ inr l
    ];
  },
  held_anyhow d client own h.1,
)

held_as : (d : Daemon) (x y : Option Client) (own : List Entry) → leads_of y ≡ leads_of x → attempt_of y ≡ attempt_of x → waits_of y ≡ waits_of x → AreHeld d x own → AreHeld d y own
held_as d x y [] leads attempt waits h = tt
held_as d x y (e ∷ own) leads attempt waits h = (
  record {
    led = elim h.0.led [
      | inl l ↦ inl (ap (λ (ms : List ℕ). lists ms e.number) leads ∙ l)
      | inr l ↦ elim l [
        | inl a ↦ inr (inl (attempt ∙ a))
        | inr s ↦ inr (inr s)
      ]
    ];
    waited = elim h.0.waited [
      | inl w ↦ inl (waits ∙ w)
      | inr l ↦ inr l
    ];
  },
  held_as d x y own leads attempt waits h.1,
)

sorted_as : (d : Daemon) (x y : Option Client) → leads_of y ≡ leads_of x → attempt_of y ≡ attempt_of x → client_renews y ≡ true → IsSorted d x → IsSorted d y
sorted_as d x y leads attempt renewing s = record {
  renews = renewing;
  requests = λ n h. s.requests n (sym (ap (λ (ms : List ℕ). lists ms n) leads) ∙ h);
  attempts = λ n h. s.attempts n (sym attempt ∙ h);
}

-- the request in hand goes on with the same
pub account_as : (d : Daemon) (leads : List ℕ) (ticket : Option ℕ) (x y : Option Client) (own : List Entry) → leads_of y ≡ leads_of x → attempt_of y ≡ attempt_of x → waits_of y ≡ waits_of x → (client_renews x ≡ true → client_renews y ≡ true) →
    Accounts d leads ticket x own → Accounts d leads ticket y own
account_as d leads ticket x y own same_leads same_attempt same_waits renewing a = record {
  led = a.led;
  held = held_as d x y own same_leads same_attempt same_waits a.held;
  sorted = sorted_as d x y same_leads same_attempt (renewing a.sorted.renews) a.sorted;
  are_own = a.are_own;
}

pub account_same : (d : Daemon) (leads : List ℕ) (ticket : Option ℕ) (c : Client) (c' : Client) (x y : Option Client) (own : List Entry) → x ≡ Some c → y ≡ Some c' → SameHeld c.course c'.course → Accounts d leads ticket x own → Accounts d leads ticket y own
account_same d leads ticket c c' x y own is_x is_y same a =
    subst (λ (z : Option Client). Accounts d leads ticket z own) (sym is_y)
    (account_as d leads ticket (Some c) (Some c') own same.leads same.attempt same.waits same.renewing (subst (λ (z : Option Client). Accounts d leads ticket z own) is_x a))

-- a request is heard
pub account_hears : (d : Daemon) (leads : List ℕ) (ticket : Option ℕ) (c : Client) (x y : Option Client) (own : List Entry) → x ≡ None → y ≡ Some c → HoldsNothing c.course → Accounts d leads ticket x own → Accounts d leads ticket y own
account_hears d leads ticket c x y own is_x is_y none a =
    subst (λ (z : Option Client). Accounts d leads ticket z own) (sym is_y)
    (account_as d leads ticket None (Some c) own none.leads none.attempt none.waits (λ h. none.renewing) (subst (λ (z : Option Client). Accounts d leads ticket z own) is_x a))

-- a request is carried out
pub account_over : (d : Daemon) (leads : List ℕ) (ticket : Option ℕ) (c : Client) (x y : Option Client) (own : List Entry) → x ≡ Some c → y ≡ None → GoesOnWithNothing c.course → Accounts d leads ticket x own → Accounts d leads ticket y own
account_over d leads ticket c x y own is_x is_y none a =
    subst (λ (z : Option Client). Accounts d leads ticket z own) (sym is_y)
    (account_as d leads ticket (Some c) None own (sym none.leads) (sym none.attempt) (sym none.waits) (λ h. refl) (subst (λ (z : Option Client). Accounts d leads ticket z own) is_x a))

-- ---- others move the daemon on

led_reached : (d f : Daemon) (leads : List ℕ) (ticket : Option ℕ) (own : List Entry) → Reaches d f → AreLed d leads ticket own → AreLed f leads ticket own
led_reached d f leads ticket [] to h = tt
led_reached d f leads ticket (e ∷ own) to h = (
  record {
    given = given_reached e.number d f to h.0.given;
    led = elim h.0.led [
      | inl l ↦ inl l
      | inr s ↦ inr (shut_reached e.number d f to s)
    ];
    waited = elim h.0.waited [
      | inl w ↦ inl w
      | inr l ↦ inr (left_reached e.number d f to l)
    ];
  },
  led_reached d f leads ticket own to h.1,
)

held_reached : (d f : Daemon) (client : Option Client) (own : List Entry) → Reaches d f → AreHeld d client own → AreHeld f client own
held_reached d f client [] to h = tt
held_reached d f client (e ∷ own) to h = (
  record {
    led = elim h.0.led [
      | inl l ↦ inl l
      | inr l ↦ elim l [
        | inl a ↦ inr (inl a)
        | inr s ↦ inr (inr (shut_reached e.number d f to s))
      ]
    ];
    waited = elim h.0.waited [
      | inl w ↦ inl w
      | inr l ↦ inr (left_reached e.number d f to l)
    ];
  },
  held_reached d f client own to h.1,
)

pub account_reached : (d f : Daemon) (leads : List ℕ) (ticket : Option ℕ) (client : Option Client) (own : List Entry) → Reaches d f → Accounts d leads ticket client own → Accounts f leads ticket client own
account_reached d f leads ticket client own to a = record {
  led = led_reached d f leads ticket own to a.led;
  held = held_reached d f client own to a.held;
  sorted = record {
    renews = a.sorted.renews;
    requests = λ n h. no_attempt_reached n d f to (a.sorted.requests n h);
    attempts = λ n h. no_request_reached n d f to (a.sorted.attempts n h);
  };
  are_own = a.are_own;
}

-- ---- the list of what is led

either_number : (b c : Bool) (m n : ℕ) → (m == n) ≡ b → (b || c) ≡ true → (m ≡ n) ⊎ (c ≡ true)
either_number true c m n is h = inl (grind (arith, nat_tests, is))
either_number false c m n is h = inr h

pub first_or_rest : (m n : ℕ) (ms : List ℕ) → lists (m ∷ ms) n ≡ true → (m ≡ n) ⊎ (lists ms n ≡ true)
first_or_rest m n ms h = either_number (m == n) (lists ms n) m n refl h

or_first : (b c : Bool) → b ≡ true → (b || c) ≡ true
or_first true c h = refl
or_first false c h = untrue h

or_second : (b c : Bool) → c ≡ true → (b || c) ≡ true
or_second true c h = refl
or_second false c h = h

lists_first : (m n : ℕ) (ms : List ℕ) → m ≡ n → lists (m ∷ ms) n ≡ true
lists_first m n ms e = or_first (m == n) (lists ms n) (grind (arith, nat_tests, e))

lists_rest : (m n : ℕ) (ms : List ℕ) → lists ms n ≡ true → lists (m ∷ ms) n ≡ true
lists_rest m n ms h = or_second (m == n) (lists ms n) h

-- one place later in a list that is longer by one
later_place : (m : ℕ) (ms : List ℕ) (k : ℕ) (b : Bool) → nat_lt k (length ms) ≡ b → cond b (remove (m ∷ ms) (suc k)) (m ∷ ms) ≡ m ∷ cond b (remove ms k) ms
later_place m ms k true is = refl
later_place m ms k false is = refl

same_bool : (a b : Bool) → (a ≡ true → b ≡ true) → (b ≡ true → a ≡ true) → a ≡ b
same_bool true b f g = sym (f refl)
same_bool false true f g = g refl
same_bool false false f g = refl

same_test : (k n : ℕ) → nat_lt (suc k) (suc n) ≡ nat_lt k n
same_test k n = same_bool (nat_lt (suc k) (suc n)) (nat_lt k n) (λ h. grind (arith, nat_tests, h)) (λ h. grind (arith, nat_tests, h))

without_later : (m : ℕ) (ms : List ℕ) (k : ℕ) → without_place (m ∷ ms) (suc k) ≡ m ∷ without_place ms k
without_later m ms k =
    ap (λ (b : Bool). cond b (remove (m ∷ ms) (suc k)) (m ∷ ms)) (same_test k (length ms)) ∙ later_place m ms k (nat_lt k (length ms)) refl

without_first : (m : ℕ) (ms : List ℕ) → without_place (m ∷ ms) 0 ≡ ms
without_first m ms =
    let some : nat_lt 0 (suc (length ms)) ≡ true = grind (arith, nat_tests) in
    ap (λ (b : Bool). cond b (remove (m ∷ ms) 0) (m ∷ ms)) some

-- all but the first place of a number stays
kept_by : (b : Bool) (m : ℕ) (ms : List ℕ) (r n : ℕ) → (m == r) ≡ b → ((lists ms n ≡ true) → (lists (without_place ms (place_in ms r)) n ≡ true) ⊎ (r ≡ n)) → lists (m ∷ ms) n ≡ true →
    (lists (without_place (m ∷ ms) (cond b 0 (place_in ms r + 1))) n ≡ true) ⊎ (r ≡ n)
kept_by true m ms r n is rest h = elim (first_or_rest m n ms h) [
  | inl same ↦ (let here : m ≡ r = grind (arith, nat_tests, is) in inr (sym here ∙ same))
  | inr later ↦ inl (ap (λ (l : List ℕ). lists l n) (without_first m ms) ∙ later)
]
kept_by false m ms r n is rest h =
    let shape : without_place (m ∷ ms) (place_in ms r + 1) ≡ m ∷ without_place ms (place_in ms r) = ap (without_place (m ∷ ms)) (add-one (place_in ms r)) ∙ without_later m ms (place_in ms r) in
    elim (first_or_rest m n ms h) [
      | inl same ↦ inl (ap (λ (l : List ℕ). lists l n) shape ∙ lists_first m n (without_place ms (place_in ms r)) same)
      | inr later ↦ elim (rest later) [
        | inl l ↦ inl (ap (λ (l : List ℕ). lists l n) shape ∙ lists_rest m n (without_place ms (place_in ms r)) l)
        | inr same ↦ inr same
      ]
    ]

kept_place : (ms : List ℕ) (r n : ℕ) → lists ms n ≡ true → (lists (without_place ms (place_in ms r)) n ≡ true) ⊎ (r ≡ n)
kept_place [] r n h = untrue h
kept_place (m ∷ ms) r n h = kept_by (m == r) m ms r n refl (kept_place ms r n) h

kept_without : (ms : List ℕ) (who : Option ℕ) (n : ℕ) → lists ms n ≡ true → (lists (without ms who) n ≡ true) ⊎ (who ≡ Some n)
kept_without ms None n h = inl h
kept_without ms (Some r) n h = elim (kept_place ms r n h) [
  | inl l ↦ inl l
  | inr same ↦ inr (ap Some same)
]

lists_before : (ms : List ℕ) (r n : ℕ) → lists ms n ≡ true → lists (ms ++ r ∷ []) n ≡ true
lists_before [] r n h = untrue h
lists_before (m ∷ ms) r n h = elim (first_or_rest m n ms h) [
  | inl same ↦ lists_first m n (ms ++ r ∷ []) same
  | inr later ↦ lists_rest m n (ms ++ r ∷ []) (lists_before ms r n later)
]

lists_last : (ms : List ℕ) (r n : ℕ) → r ≡ n → lists (ms ++ r ∷ []) n ≡ true
lists_last [] r n e = lists_first r n [] e
lists_last (m ∷ ms) r n e = lists_rest m n (ms ++ r ∷ []) (lists_last ms r n e)

kept_with : (ms : List ℕ) (more : Option ℕ) (n : ℕ) → lists ms n ≡ true → lists (with_one ms more) n ≡ true
kept_with ms None n h = h
kept_with ms (Some r) n h = lists_before ms r n h

new_with : (ms : List ℕ) (more : Option ℕ) (n : ℕ) → more ≡ Some n → lists (with_one ms more) n ≡ true
new_with ms None n e = none_some e
new_with ms (Some r) n e = lists_last ms r n (same_some r n e)
  where
    same_some : (a b : ℕ) → Some a ≡ Some b → a ≡ b
    same_some a b e = cc

-- what was led is led after a reply, or the reply closes what its event is about
kept_led : (b : Bool) (ms : List ℕ) (who more : Option ℕ) (n : ℕ) → lists ms n ≡ true → (lists (cond b (without ms who) (with_one ms more)) n ≡ true) ⊎ ((who ≡ Some n) × (b ≡ true))
kept_led true ms who more n h = elim (kept_without ms who n h) [
  | inl l ↦ inl l
  | inr is ↦ inr (is, refl)
]
kept_led false ms who more n h = inl (kept_with ms more n h)

new_led : (b : Bool) (ms : List ℕ) (who more : Option ℕ) (n : ℕ) → b ≡ false → more ≡ Some n → lists (cond b (without ms who) (with_one ms more)) n ≡ true
new_led true ms who more n f e = let clash : ⊥ = cc in absurd clash
new_led false ms who more n f e = new_with ms more n e

-- what is led after a reply was led before, or the reply opened it
from_place_by : (b : Bool) (m : ℕ) (ms : List ℕ) (r n : ℕ) → (lists (without_place ms (place_in ms r)) n ≡ true → lists ms n ≡ true) → lists (without_place (m ∷ ms) (cond b 0 (place_in ms r + 1))) n ≡ true → lists (m ∷ ms) n ≡ true
from_place_by true m ms r n rest h = lists_rest m n ms (sym (ap (λ (l : List ℕ). lists l n) (without_first m ms)) ∙ h)
from_place_by false m ms r n rest h =
    let shape : without_place (m ∷ ms) (place_in ms r + 1) ≡ m ∷ without_place ms (place_in ms r) = ap (without_place (m ∷ ms)) (add-one (place_in ms r)) ∙ without_later m ms (place_in ms r) in
    elim (first_or_rest m n (without_place ms (place_in ms r)) (sym (ap (λ (l : List ℕ). lists l n) shape) ∙ h)) [
      | inl same ↦ lists_first m n ms same
      | inr later ↦ lists_rest m n ms (rest later)
    ]

from_place : (ms : List ℕ) (r n : ℕ) → lists (without_place ms (place_in ms r)) n ≡ true → lists ms n ≡ true
from_place [] r n h = untrue h
from_place (m ∷ ms) r n h = from_place_by (m == r) m ms r n (from_place ms r n) h

from_without : (ms : List ℕ) (who : Option ℕ) (n : ℕ) → lists (without ms who) n ≡ true → lists ms n ≡ true
from_without ms None n h = h
from_without ms (Some r) n h = from_place ms r n h

from_last : (ms : List ℕ) (r n : ℕ) → lists (ms ++ r ∷ []) n ≡ true → (lists ms n ≡ true) ⊎ (r ≡ n)
from_last [] r n h = elim (first_or_rest r n [] h) [
  | inl same ↦ inr same
  | inr later ↦ untrue later
]
from_last (m ∷ ms) r n h = elim (first_or_rest m n (ms ++ r ∷ []) h) [
  | inl same ↦ inl (lists_first m n ms same)
  | inr later ↦ elim (from_last ms r n later) [
    | inl l ↦ inl (lists_rest m n ms l)
    | inr same ↦ inr same
  ]
]

from_with : (ms : List ℕ) (more : Option ℕ) (n : ℕ) → lists (with_one ms more) n ≡ true → (lists ms n ≡ true) ⊎ (more ≡ Some n)
from_with ms None n h = inl h
from_with ms (Some r) n h = elim (from_last ms r n h) [
  | inl l ↦ inl l
  | inr same ↦ inr (ap Some same)
]

from_led : (b : Bool) (ms : List ℕ) (who more : Option ℕ) (n : ℕ) → lists (cond b (without ms who) (with_one ms more)) n ≡ true → (lists ms n ≡ true) ⊎ (more ≡ Some n)
from_led true ms who more n h = inl (from_without ms who n h)
from_led false ms who more n h = from_with ms more n h

-- no number is listed twice after a reply
is_false : (b : Bool) → (b ≡ true → ⊥) → b ≡ false
is_false true never = absurd (never refl)
is_false false never = refl

not_listed : (x y : List ℕ) (n : ℕ) → (lists x n ≡ true → lists y n ≡ true) → lists y n ≡ false → lists x n ≡ false
not_listed x y n to none = is_false (lists x n) (λ l. untrue (sym none ∙ to l))

apart_place_by : (b : Bool) (m : ℕ) (ms : List ℕ) (r : ℕ) → AreApart (without_place ms (place_in ms r)) → AreApart (m ∷ ms) → AreApart (without_place (m ∷ ms) (cond b 0 (place_in ms r + 1)))
apart_place_by true m ms r rest h = subst AreApart (sym (without_first m ms)) h.1
apart_place_by false m ms r rest h =
    let shape : without_place (m ∷ ms) (place_in ms r + 1) ≡ m ∷ without_place ms (place_in ms r) = ap (without_place (m ∷ ms)) (add-one (place_in ms r)) ∙ without_later m ms (place_in ms r) in
    subst AreApart (sym shape) (not_listed (without_place ms (place_in ms r)) ms m (from_place ms r m) h.0, rest)

apart_place : (ms : List ℕ) (r : ℕ) → AreApart ms → AreApart (without_place ms (place_in ms r))
apart_place [] r h = tt
apart_place (m ∷ ms) r h = apart_place_by (m == r) m ms r (apart_place ms r h.1) h

apart_without : (ms : List ℕ) (who : Option ℕ) → AreApart ms → AreApart (without ms who)
apart_without ms None h = h
apart_without ms (Some r) h = apart_place ms r h

apart_last : (ms : List ℕ) (r : ℕ) → AreApart ms → lists ms r ≡ false → AreApart (ms ++ r ∷ [])
apart_last [] r h none = (refl, tt)
apart_last (m ∷ ms) r h none = (
  not_listed (ms ++ r ∷ []) ms m (λ l. elim (from_last ms r m l) [
    | inl before ↦ before
    | inr same ↦ untrue (sym (sym (lists_first m r ms (sym same)) ∙ none))
  ]) h.0,
  apart_last ms r h.1 (not_listed ms (m ∷ ms) r (lists_rest m r ms) none),
)

apart_with : (ms : List ℕ) (more : Option ℕ) → AreApart ms → ((n : ℕ) → more ≡ Some n → lists ms n ≡ false) → AreApart (with_one ms more)
apart_with ms None h new = h
apart_with ms (Some r) h new = apart_last ms r h (new r refl)

apart_led : (b : Bool) (ms : List ℕ) (who more : Option ℕ) → AreApart ms → ((n : ℕ) → more ≡ Some n → lists ms n ≡ false) → AreApart (cond b (without ms who) (with_one ms more))
apart_led true ms who more h new = apart_without ms who h
apart_led false ms who more h new = apart_with ms more h new

-- numbers of entries
or_later : (a b c : Bool) → (b ≡ true → c ≡ true) → (a || b) ≡ true → (a || c) ≡ true
or_later true b c to h = refl
or_later false b c to h = to h

number_before : (own : List Entry) (e : Entry) (n : ℕ) → has_number own n ≡ true → has_number (own ++ e ∷ []) n ≡ true
number_before [] e n h = untrue h
number_before (x ∷ own) e n h = or_later (x.number == n) (has_number own n) (has_number (own ++ e ∷ []) n) (number_before own e n) h

number_last : (own : List Entry) (e : Entry) → has_number (own ++ e ∷ []) e.number ≡ true
number_last [] e = or_first (e.number == e.number) false (same_number e.number)
number_last (x ∷ own) e = or_second (x.number == e.number) (has_number (own ++ e ∷ []) e.number) (number_last own e)

-- the number of an own entry was given before
number_given : (d : Daemon) (leads : List ℕ) (ticket : Option ℕ) (own : List Entry) (n : ℕ) → AreLed d leads ticket own → has_number own n ≡ true → WasGiven n d
number_given d leads ticket [] n l h = untrue h
number_given d leads ticket (e ∷ own) n l h = elim (either_number (e.number == n) (has_number own n) e.number n refl h) [
  | inl same ↦ subst (λ (m : ℕ). WasGiven m d) same l.0.given
  | inr later ↦ number_given d leads ticket own n l.1 later
]

-- ---- the ticket that is waited with

-- a ticket that is waited with after a reply was before, or the reply gave it
ticket_from : (ticket : Option ℕ) (reply : Reply) (n : ℕ) → ticket_after ticket reply ≡ Some n → (ticket ≡ Some n) ⊎ ((r : ℕ) × (reply ≡ replies.Join r n))
ticket_from ticket (replies.Join r t) n h = inr (r, ap (replies.Join r) (same_in t n h))
  where
    same_in : (a b : ℕ) → Some a ≡ Some b → a ≡ b
    same_in a b e = cc
ticket_from ticket (replies.Took outcome) n h = none_some h
ticket_from ticket replies.NoTicket n h = none_some h
ticket_from ticket _ n h = inl h

-- a ticket stays, or another is given, or it is taken
ticket_stays : (ticket : Option ℕ) (reply : Reply) (n : ℕ) → ticket ≡ Some n → (ticket_after ticket reply ≡ Some n) ⊎ (((r : ℕ) × ((t : ℕ) × (reply ≡ replies.Join r t))) ⊎ (is_taking reply ≡ true))
ticket_stays ticket (replies.Join r t) n h = inr (inl (r, (t, refl)))
ticket_stays ticket (replies.Took outcome) n h = inr (inr refl)
ticket_stays ticket replies.NoTicket n h = inr (inr refl)
ticket_stays ticket _ n h = inl h

-- ---- the new entry

-- what a reply opens, and the ticket that it gives, have the number of its own entry
asked_own : (number n : ℕ) (reply : Reply) → answers_ask number reply ≡ true → opened reply ≡ Some n → number ≡ n
asked_own number n (replies.Lead r) h o = let same : r ≡ n = cc in grind (arith, nat_tests, h, same)
asked_own number n (replies.Refresh m r) h o = let same : r ≡ n = cc in grind (arith, nat_tests, h, same)
asked_own number n (replies.Bind a) h o = untrue h
asked_own number n (replies.Cached a l) h o = untrue h
asked_own number n _ h o = none_some o

logged_own : (number n : ℕ) (reply : Reply) → answers_login number reply ≡ true → opened reply ≡ Some n → number ≡ n
logged_own number n (replies.Bind a) h o = let same : a ≡ n = cc in grind (arith, nat_tests, h, same)
logged_own number n (replies.Cached a l) h o = let same : a ≡ n = cc in grind (arith, nat_tests, h, same)
logged_own number n (replies.Lead r) h o = untrue h
logged_own number n (replies.Refresh m r) h o = untrue h
logged_own number n _ h o = none_some o

request_own : (number n : ℕ) (event : Event) (reply : Reply) → replies_as number event reply ≡ true → opens_request event reply ≡ true → opened reply ≡ Some n → number ≡ n
request_own number n (events.Ask key) reply h f o = asked_own number n reply h o
request_own number n _ reply h f o = untrue f

attempt_own : (number n : ℕ) (event : Event) (reply : Reply) → replies_as number event reply ≡ true → opens_attempt event reply ≡ true → opened reply ≡ Some n → number ≡ n
attempt_own number n (events.LoginOpen user) reply h f o = logged_own number n reply h o
attempt_own number n _ reply h f o = untrue f

own_number : (number n : ℕ) (event : Event) (reply : Reply) → replies_as number event reply ≡ true → (opens_request event reply ≡ true) ⊎ (opens_attempt event reply ≡ true) → opened reply ≡ Some n → number ≡ n
own_number number n event reply h fresh o = elim fresh [
  | inl f ↦ request_own number n event reply h f o
  | inr f ↦ attempt_own number n event reply h f o
]

ticket_own : (number r t : ℕ) (event : Event) → replies_as number event (replies.Join r t) ≡ true → is_ask event ≡ true → number ≡ t
ticket_own number r t (events.Ask key) h f = grind (arith, nat_tests, h)
ticket_own number r t _ h f = untrue f

opened_apart : (event : Event) (reply : Reply) → opens_request event reply ≡ true → opens_attempt event reply ≡ false
opened_apart (events.Ask key) reply h = refl
opened_apart _ reply h = untrue h

attempt_apart : (event : Event) (reply : Reply) → opens_attempt event reply ≡ true → opens_request event reply ≡ false
attempt_apart (events.LoginOpen user) reply h = refl
attempt_apart _ reply h = untrue h

no_lead : (reply : Reply) → opened reply ≡ None → is_lead reply ≡ false
no_lead (replies.Lead r) h = let clash : ⊥ = cc in absurd clash
no_lead (replies.Refresh n r) h = let clash : ⊥ = cc in absurd clash
no_lead _ h = refl

no_bind : (reply : Reply) → opened reply ≡ None → is_bind reply ≡ false
no_bind (replies.Bind a) h = let clash : ⊥ = cc in absurd clash
no_bind (replies.Cached a l) h = let clash : ⊥ = cc in absurd clash
no_bind _ h = refl

no_request : (event : Event) (reply : Reply) → opened reply ≡ None → opens_request event reply ≡ false
no_request (events.Ask key) reply h = no_lead reply h
no_request _ reply h = refl

no_attempt : (event : Event) (reply : Reply) → opened reply ≡ None → opens_attempt event reply ≡ false
no_attempt (events.LoginOpen user) reply h = no_bind reply h
no_attempt _ reply h = refl

not_closing : (reply : Reply) (n : ℕ) → opened reply ≡ Some n → is_closing reply ≡ false
not_closing (replies.Lead r) n h = refl
not_closing (replies.Refresh m r) n h = refl
not_closing (replies.Bind a) n h = refl
not_closing (replies.Cached a l) n h = refl
not_closing _ n h = none_some h

own_requests : (c b : Bool) (x : Entry) (y : Option Entry) → b ≡ true → opens_request x.event x.reply ≡ false → has_opened_request (cond c None (cond b (Some x) y)) ≡ false
own_requests true b x y is h = refl
own_requests false true x y is h = h
own_requests false false x y is h = untrue is

own_attempts : (c b : Bool) (x : Entry) (y : Option Entry) → b ≡ true → opens_attempt x.event x.reply ≡ false → has_opened_attempt (cond c None (cond b (Some x) y)) ≡ false
own_attempts true b x y is h = refl
own_attempts false true x y is h = h
own_attempts false false x y is h = untrue is

own_waits : (c b : Bool) (x w : Option ℕ) → b ≡ true → x ≡ None → cond c None (cond b x w) ≡ None
own_waits true b x w is h = refl
own_waits false true x w is h = h
own_waits false false x w is h = untrue is

-- ---- a step that the request in hand needed

-- what is known of a step, and of the request in hand
record IsStep (d : Daemon) (now : ℕ) (event : Event) (c : Client) : Type 0 where
  pub may : is_steppable d.past event ≡ true
  pub orderly : IsOrderly d.next d.past
  pub follows : Follows (leads_in c.course) (attempt_in c.course) (waits_in c.course) event (entry_made d now event).reply (leads_in (client_replied c (given d now event)).course) (attempt_in (client_replied c (given d now event)).course)
      (waits_in (client_replied c (given d now event)).course)
  pub replied : replies_as (next_number d) event (entry_made d now event).reply ≡ true
  pub sorted : IsSorted d (Some c)

module _ (d : Daemon) (now : ℕ) (event : Event) (c : Client) (s : IsStep d now event c) where
  abbrev reply : Reply
  reply = (entry_made d now event).reply

  abbrev later : Daemon
  later = after d now event

  abbrev next_client : Client
  next_client = client_replied c (given d now event)

  -- what the event is about, where its reply closes it
  shut_about : (n : ℕ) → about event ≡ Some n → is_closing reply ≡ true → IsShut n later
  shut_about n is closing = elim (s.follows.named n is) [
    | inl h ↦ request_shut n d now event s.may (s.sorted.requests n h.0) h.1 closing
    | inr h ↦ attempt_shut n d now event s.may (s.sorted.attempts n h.0) h.1 closing
  ]

  held_on : (n : ℕ) → WasGiven n d → IsHeld d (Some c) n → IsHeld later (Some next_client) n
  held_on n g h = record {
    led = elim h.led [
      | inl l ↦ elim (s.follows.requests n l) [
        | inl m ↦ inl m
        | inr k ↦ inr (inr (request_shut n d now event s.may (s.sorted.requests n l) k.0 k.1))
      ]
      | inr r ↦ elim r [
        | inl a ↦ elim (s.follows.attempts n a) [
          | inl b ↦ inr (inl b)
          | inr k ↦ inr (inr (attempt_shut n d now event s.may (s.sorted.attempts n a) k.0 k.1))
        ]
        | inr shut ↦ inr (inr (shut_after n d now event s.may shut))
      ]
    ];
    waited = elim h.waited [
      | inl w ↦ elim (s.follows.waits n w) [
        | inl v ↦ inl v
        | inr k ↦ inr (left_by n g k.0 k.1)
      ]
      | inr l ↦ inr (left_after n d now event s.may l)
    ];
  }
    where
      left_by : (n : ℕ) → WasGiven n d → event ≡ events.Collect n → is_taking reply ≡ true → HasLeft n later
      left_by n g is k = subst (λ (x : Event). HasLeft n (after d now x)) (sym is) (ticket_left n d now g (subst (λ (x : Event). is_taking (entry_made d now x).reply ≡ true) is k))

  led_on : (leads : List ℕ) (ticket : Option ℕ) (n : ℕ) → IsLed d leads ticket n → IsHeld d (Some c) n → IsLed later (leads_after leads (about event) reply) (ticket_after ticket reply) n
  led_on leads ticket n l h = record {
    given = given_after n d now event s.may l.given;
    led = elim l.led [
      | inl here ↦ elim (kept_led (is_closing reply) leads (about event) (opened reply) n here) [
        | inl m ↦ inl m
        | inr k ↦ inr (shut_about n k.0 k.1)
      ]
      | inr shut ↦ inr (shut_after n d now event s.may shut)
    ];
    waited = elim l.waited [
      | inl w ↦ elim (ticket_stays ticket reply n w) [
        | inl v ↦ inl v
        | inr k ↦ inr (given_up k)
      ]
      | inr left ↦ inr (left_after n d now event s.may left)
    ];
  }
    where
      taken : is_taking reply ≡ true → HasLeft n later
      taken k = elim h.waited [
        | inl w ↦
            let is : event ≡ events.Collect n = s.follows.taken n k w in
            subst (λ (x : Event). HasLeft n (after d now x)) (sym is) (ticket_left n d now l.given (subst (λ (x : Event). is_taking (entry_made d now x).reply ≡ true) is k))
        | inr left ↦ left_after n d now event s.may left
      ]

      given_up : (((r : ℕ) × ((t : ℕ) × (reply ≡ replies.Join r t))) ⊎ (is_taking reply ≡ true)) → HasLeft n later
      given_up k = elim k [
        | inl j ↦ elim h.waited [
          | inl w ↦ none_some (sym (s.follows.alone j.0 j.1.0 j.1.1) ∙ w)
          | inr left ↦ left_after n d now event s.may left
        ]
        | inr t ↦ taken t
      ]

  abbrev number : ℕ
  number = next_number d

  own_given : WasGiven number later
  own_given = given_now d now event s.may s.orderly

  own_shut : opened reply ≡ None → IsShut number later
  own_shut none =
      let e : Entry = entry_made d now event in
      shut_both number later
      (record { given = own_given; none = own_requests (closes event reply number) (number == number) e (unclosed d.past number) (same_number number) (no_request event reply none) })
      (record { given = own_given; none = own_attempts (closes event reply number) (number == number) e (unclosed d.past number) (same_number number) (no_attempt event reply none) })

  own_left : joined reply ≡ None → HasLeft number later
  own_left none = record { given = own_given; left = own_waits (ends_waiting event reply number) (number == number) (joined reply) (waits_for d.past number) (same_number number) none }

  -- the number that a reply opens, if it opens one
  by_opened : {P : Type 0} (o : Option ℕ) → opened reply ≡ o → (opened reply ≡ None → P) → (opened reply ≡ Some number → P) → P
  by_opened None is f g = f is
  by_opened (Some n) is f g = g (is ∙ ap Some (sym (own_number number n event reply s.replied (s.follows.fresh n is) is)))

  by_join : {P : Type 0} (x : Reply) → reply ≡ x → (joined reply ≡ None → P) → ((r : ℕ) → reply ≡ replies.Join r number → P) → P
  by_join (replies.Join r t) is f g =
      let own : number ≡ t = ticket_own number r t event (subst (λ (x : Reply). replies_as number event x ≡ true) is s.replied) (s.follows.asked r t is) in
      g r (is ∙ ap (replies.Join r) (sym own))
  by_join _ is f g = f (ap joined is)

  held_new : IsHeld later (Some next_client) number
  held_new = record {
    led = by_opened (opened reply) refl (λ none. inr (inr (own_shut none))) (λ some. elim (s.follows.opens number some) [
      | inl l ↦ inl l
      | inr a ↦ inr (inl a)
    ]);
    waited = by_join reply refl (λ none. inr (own_left none)) (λ r is. inl (s.follows.joins r number is));
  }

  led_new : (leads : List ℕ) (ticket : Option ℕ) → IsLed later (leads_after leads (about event) reply) (ticket_after ticket reply) number
  led_new leads ticket = record {
    given = own_given;
    led = by_opened (opened reply) refl (λ none. inr (own_shut none)) (λ some. inl (new_led (is_closing reply) leads (about event) (opened reply) number (not_closing reply number some) some));
    waited = by_join reply refl (λ none. inr (own_left none)) (λ r is. inl (ap (ticket_after ticket) is));
  }

  sorted_on : client_renews (Some next_client) ≡ true → IsSorted later (Some next_client)
  sorted_on renewing = record {
    renews = renewing;
    requests = λ n h. elim (s.follows.new_requests n h) [
      | inl old ↦ no_attempt_after n d now event s.may (s.sorted.requests n old)
      | inr k ↦ subst (λ (m : ℕ). IsNoAttempt m later) (own_number number n event reply s.replied (inl k.0) k.1) (new_request k.0)
    ];
    attempts = λ n h. elim (s.follows.new_attempts n h) [
      | inl old ↦ no_request_after n d now event s.may (s.sorted.attempts n old)
      | inr k ↦ subst (λ (m : ℕ). IsNoRequest m later) (own_number number n event reply s.replied (inr k.0) k.1) (new_attempt k.0)
    ];
  }
    where
      new_request : opens_request event reply ≡ true → IsNoAttempt number later
      new_request h = record { given = own_given; none = own_attempts (closes event reply number) (number == number) (entry_made d now event) (unclosed d.past number) (same_number number) (opened_apart event reply h) }

      new_attempt : opens_attempt event reply ≡ true → IsNoRequest number later
      new_attempt h = record { given = own_given; none = own_requests (closes event reply number) (number == number) (entry_made d now event) (unclosed d.past number) (same_number number) (attempt_apart event reply h) }

  -- what is led after the step has the number of an own entry
  own_on : (leads : List ℕ) (ticket : Option ℕ) (own : List Entry) → AreLed d leads ticket own → AreOwn leads ticket own → AreOwn (leads_after leads (about event) reply) (ticket_after ticket reply) (own ++ entry_made d now event ∷ [])
  own_on leads ticket own led a = record {
    leads_own = λ n h. elim (from_led (is_closing reply) leads (about event) (opened reply) n h) [
      | inl before ↦ number_before own e n (a.leads_own n before)
      | inr more ↦ subst (λ (m : ℕ). has_number (own ++ e ∷ []) m ≡ true) (own_number number n event reply s.replied (s.follows.fresh n more) more) (number_last own e)
    ];
    once = apart_led (is_closing reply) leads (about event) (opened reply) a.once (λ n more. unlisted n (own_number number n event reply s.replied (s.follows.fresh n more) more));
    ticket_own = λ n h. elim (ticket_from ticket reply n h) [
      | inl before ↦ number_before own e n (a.ticket_own n before)
      | inr join ↦
          subst (λ (m : ℕ). has_number (own ++ e ∷ []) m ≡ true)
          (ticket_own number join.0 n event (subst (λ (x : Reply). replies_as number event x ≡ true) join.1 s.replied) (s.follows.asked join.0 n join.1)) (number_last own e)
    ];
  }
    where
      e : Entry
      e = entry_made d now event

      new_number : (n : ℕ) → number ≡ n → WasGiven n d → ⊥
      new_number n is given = let clash : false ≡ true = sym (not_next n d given.below) ∙ subst (λ (m : ℕ). (number == m) ≡ true) is (same_number number) in untrue clash

      unlisted : (n : ℕ) → number ≡ n → lists leads n ≡ false
      unlisted n is = is_false (lists leads n) (λ listed. new_number n is (number_given d leads ticket own n led (a.leads_own n listed)))

  all_led : (leads : List ℕ) (ticket : Option ℕ) (own : List Entry) → AreLed d leads ticket own → AreHeld d (Some c) own → AreLed later (leads_after leads (about event) reply) (ticket_after ticket reply) (own ++ entry_made d now event ∷ [])
  all_led leads ticket [] l h = (led_new leads ticket, tt)
  all_led leads ticket (e ∷ own) l h = (led_on leads ticket e.number l.0 h.0, all_led leads ticket own l.1 h.1)

  all_held : (leads : List ℕ) (ticket : Option ℕ) (own : List Entry) → AreLed d leads ticket own → AreHeld d (Some c) own → AreHeld later (Some next_client) (own ++ entry_made d now event ∷ [])
  all_held leads ticket [] l h = (held_new, tt)
  all_held leads ticket (e ∷ own) l h = (held_on e.number l.0.given h.0, all_held leads ticket own l.1 h.1)

-- what is known of a step by the script of the request in hand
is_step : (d : Daemon) (now : ℕ) (event : Event) (c : Client) → is_steppable d.past event ≡ true → IsOrderly d.next d.past → event_of (need_of c) ≡ Some event → holds_order c.course ≡ true → IsSorted d (Some c) → IsStep d now event c
is_step d now event c may orderly needed order sorted =
    let kind = reply_kind d.settings d.past (next_number d) (moment_of d now) event in
    record {
      may = may;
      orderly = orderly;
      follows = course_follows c.seed (next_number d) c.course event (given d now event) needed sorted.renews order kind;
      replied = kind;
      sorted = sorted;
    }

-- a step of the event that the request in hand needed
pub account_steps : (d : Daemon) (now : ℕ) (event : Event) (c : Client) (leads : List ℕ) (ticket : Option ℕ) (own : List Entry) → is_steppable d.past event ≡ true → IsOrderly d.next d.past → event_of (need_of c) ≡ Some event → holds_order c.course ≡ true →
    Accounts d leads ticket (Some c) own →
    Accounts (after d now event) (leads_after leads (about event) (entry_made d now event).reply) (ticket_after ticket (entry_made d now event).reply) (Some (client_replied c (given d now event))) (own ++ entry_made d now event ∷ [])
account_steps d now event c leads ticket own may orderly needed order a =
    let s : IsStep d now event c = is_step d now event c may orderly needed order a.sorted in
    record {
      led = all_led d now event c s leads ticket own a.led a.held;
      held = all_held d now event c s leads ticket own a.led a.held;
      sorted = sorted_on d now event c s (renews_on c.seed c.course (given d now event) a.sorted.renews);
      are_own = own_on d now event c s leads ticket own a.led a.are_own;
    }

-- ---- at the end

-- without a request in hand nothing is open
pub none_reserved : (d : Daemon) (own : List Entry) → AreHeld d None own → NoneReserved d own
none_reserved d [] h = tt
none_reserved d (e ∷ own) h = (
  elim h.0.led [
    | inl l ↦ untrue l
    | inr r ↦ elim r [
      | inl a ↦ none_some a
      | inr shut ↦ elim h.0.waited [
        | inl w ↦ none_some w
        | inr left ↦ reserves_none e.number d shut left
      ]
    ]
  ],
  none_reserved d own h.1,
)

-- what is given up is open no more
pub none_after : (d f : Daemon) (leads : List ℕ) (ticket : Option ℕ) (own : List Entry) → GivesUp d f leads ticket → AreLed d leads ticket own → NoneReserved f own
none_after d f leads ticket [] g l = tt
none_after d f leads ticket (e ∷ own) g l = (
  reserves_none e.number f
      (elim l.0.led [
        | inl here ↦ g.abandoned e.number here l.0.given
        | inr shut ↦ shut_reached e.number d f g.reaches shut
      ])
      (elim l.0.waited [
        | inl w ↦ g.left e.number w l.0.given
        | inr left ↦ left_reached e.number d f g.reaches left
      ]),
  none_after d f leads ticket own g l.1,
)
