-- What a row is kept of closes its request or attempt, and nothing closes the same so twice.
use Rattle.std.proofs.Common.{◌≡◌, ℕ, ◌<◌, ◌≤◌, Bool, true, false, List, [], ◌∷◌, arith, refl, ap}
use Rattle.std.specs.Prelude.{Option, Some, None, cond, not, nat_lt, ◌==◌, ◌&&◌, ◌||◌, if◌then◌else◌}
use Rattle.std.proofs.lemmas.Bool.Decides.{nat_tests}
use Rattle.sd_rules.specs.declared.events.Event.{Event}
use Rattle.sd_rules.specs.declared.events.Event.TheVariants as events
use Rattle.sd_rules.specs.declared.replies.Entry.{Entry}
use Rattle.sd_rules.specs.declared.replies.Reply.{Reply}
use Rattle.sd_rules.specs.declared.replies.Reply.TheVariants as replies
use Rattle.sd_rules.specs.declared.settings.Settings.{Settings}
use Rattle.sd_rules.specs.Past.{is_closed, key_of}
use Rattle.sd_rules.specs.Requests.{closes, unclosed, has_opened_request, has_opened_attempt, is_open, is_open_request, is_open_attempt}
use Rattle.sd_rules.specs.Steps.{reply_to, reply_to_answer}
use Rattle.sd_core.specs.Sound.{falls_from, closed_by, is_closing_of, is_closed_among, closes_first, closes_once}
use Rattle.sd_core.proofs.Room.{false_is_not_true, open_stands, stands_below}
use Rattle.sd_core.proofs.KindLaws.{first_holds, second_holds, both_hold}

-- an entry that closed n so closes n
closing_by : (c : Bool) (m n : ℕ) → is_closing_of (if c then Some m else None) n ≡ true → (m == n) && c ≡ true
closing_by true m n h = both_hold (m == n) true h refl
closing_by false m n h = absurd (false_is_not_true h)

closing_closes : (event : Event) (reply : Reply) (n : ℕ) → is_closing_of (closed_by event reply) n ≡ true → closes event reply n ≡ true
closing_closes (events.Answer r answered) reply n h = closing_by (is_closed reply) r n h
closing_closes (events.LoginOnline a result) reply n h = closing_by (is_closed reply) a n h
closing_closes _ reply n h = absurd (false_is_not_true h)

not_closing : (c b : Bool) → (c ≡ true → b ≡ true) → b ≡ false → c ≡ false
not_closing true b f h = let e = f refl in cc
not_closing false b f h = refl

neither_closes : (a b : Bool) → a ≡ false → b ≡ false → (a || b) ≡ false
neither_closes a b f g = cc

-- what an entry closes so has a lesser number
lesser_closed : (past : List Entry) (number n : ℕ) (c : Option ℕ) → closes_first past number c ≡ true → number ≤ n → is_closing_of c n ≡ false
lesser_closed past number n None h le = refl
lesser_closed past number n (Some m) h le =
    let less = first_holds (nat_lt m number) (not (is_closed_among past m)) h in
    grind (arith, nat_tests, less, le)

-- entries before a number close nothing so that is no lesser
older_close_lesser : (past : List Entry) (m n : ℕ) → falls_from m past ≡ true → closes_once past ≡ true → m ≤ n → is_closed_among past n ≡ false
older_close_lesser [] m n f h le = refl
older_close_lesser (e ∷ past) m n f h le =
    let below : e.number < m = grind (arith, nat_tests, f) in
    let first = first_holds (closes_first past e.number (closed_by e.event e.reply)) (closes_once past) h in
    let others = second_holds (closes_first past e.number (closed_by e.event e.reply)) (closes_once past) h in
    neither_closes (is_closing_of (closed_by e.event e.reply) n) (is_closed_among past n)
    (lesser_closed past e.number n (closed_by e.event e.reply) first (omega arith))
    (older_close_lesser past e.number n (second_holds (nat_lt e.number m) (falls_from e.number past) f) others (omega arith))

-- what is open was closed by none so
open_by : (c b : Bool) (x : Entry) (y : Option Entry) (k s : Bool) → (k ≡ true → c ≡ true) → (b ≡ true → s ≡ false) →
    ((has_opened_request y || has_opened_attempt y) ≡ true → s ≡ false) →
    (has_opened_request (cond c None (cond b (Some x) y)) || has_opened_attempt (cond c None (cond b (Some x) y))) ≡ true → (k || s) ≡ false
open_by true b x y k s f g later h = absurd (false_is_not_true h)
open_by false true x y k s f g later h = neither_closes k s (not_closing k false f refl) (g refl)
open_by false false x y k s f g later h = neither_closes k s (not_closing k false f refl) (later h)

pub open_unclosed : (past : List Entry) (next n : ℕ) → falls_from next past ≡ true → closes_once past ≡ true → is_open past n ≡ true → is_closed_among past n ≡ false
open_unclosed [] next n f h o = refl
open_unclosed (e ∷ past) next n f h o =
    let others = second_holds (closes_first past e.number (closed_by e.event e.reply)) (closes_once past) h in
    let falls = second_holds (nat_lt e.number next) (falls_from e.number past) f in
    open_by (closes e.event e.reply n) (e.number == n) e (unclosed past n) (is_closing_of (closed_by e.event e.reply) n) (is_closed_among past n)
    (closing_closes e.event e.reply n)
    (λ same. older_close_lesser past e.number n falls others (equal_within e.number n same))
    (λ later. open_unclosed past e.number n falls others later)
    o
  where
    equal_within : (m n : ℕ) → (m == n) ≡ true → m ≤ n
    equal_within m n h = grind (arith, nat_tests, h)

-- what is open is closed first by the next entry
first_if_open : (past : List Entry) (number n : ℕ) → falls_from number past ≡ true → closes_once past ≡ true → is_open past n ≡ true →
    closes_first past number (Some n) ≡ true
first_if_open past number n f h o =
    let below = stands_below number n past f (open_stands past n o) in
    let none = open_unclosed past number n f h o in
    both_hold (nat_lt n number) (not (is_closed_among past n)) (grind (arith, nat_tests, below)) (ap not none)

first_by : (c : Bool) (past : List Entry) (number n : ℕ) → closes_first past number (Some n) ≡ true →
    closes_first past number (if c then Some n else None) ≡ true
first_by true past number n h = h
first_by false past number n h = refl

first_by_reply : (o : Bool) (past : List Entry) (number n : ℕ) (reply : Reply) → (o ≡ true → closes_first past number (Some n) ≡ true) →
    closes_first past number (if is_closed (if o then reply else replies.NoRequest) then Some n else None) ≡ true
first_by_reply true past number n reply f = first_by (is_closed reply) past number n (f refl)
first_by_reply false past number n reply f = refl

open_either : (a b : Bool) → a ≡ true → (a || b) ≡ true
open_either a b f = cc

open_or : (a b : Bool) → b ≡ true → (a || b) ≡ true
open_or true b f = refl
open_or false b f = f

step_closes_first : (s : Settings) (past : List Entry) (number moment : ℕ) (event : Event) → falls_from number past ≡ true → closes_once past ≡ true →
    closes_first past number (closed_by event (reply_to s past number moment event)) ≡ true
step_closes_first s past number moment (events.Answer r answered) f h =
    first_by_reply (is_open_request past r) past number r (reply_to_answer past r (key_of past r) answered)
    (λ o. first_if_open past number r f h (open_either (is_open_request past r) (is_open_attempt past r) o))
step_closes_first s past number moment (events.LoginOnline a result) f h =
    first_by_reply (is_open_attempt past a) past number a replies.Closed
    (λ o. first_if_open past number a f h (open_or (is_open_request past a) (is_open_attempt past a) o))
step_closes_first s past number moment _ f h = refl

-- a step closes nothing so twice
pub closes_once_after : (s : Settings) (past : List Entry) (number moment : ℕ) (event : Event) → falls_from number past ≡ true → closes_once past ≡ true →
    closes_once (record { number = number; moment = moment; event = event; reply = reply_to s past number moment event } ∷ past) ≡ true
closes_once_after s past number moment event f h =
    both_hold (closes_first past number (closed_by event (reply_to s past number moment event))) (closes_once past)
    (step_closes_first s past number moment event f h) h
