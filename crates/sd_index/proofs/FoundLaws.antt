-- Each entry is the entry of its number; what is open or waits was opened by it, or joined.
use Rattle.std.proofs.Common.{◌≡◌, ℕ, ◌<◌, Bool, true, false, cond, ◌==◌, List, [], ◌∷◌, Option, None, Some, is_some, sym, ◌∙◌, ap, arith}
use Rattle.sd_rules.specs.declared.replies.Entry.{Entry}
use Rattle.sd_rules.specs.Requests.{closes, ends_waiting, unclosed, opens_request, opens_attempt, has_opened_request, has_opened_attempt, is_open_request, is_open_attempt, joined, waits_for}
use Rattle.sd_voids.specs.Entries.{numbers_fall, entry_at}
use Rattle.sd_voids.proofs.FallLaws.{head_below, tail_falls, fall_further, not_same_above, same_self}

-- the entries of a part are those of their numbers in the whole
abbrev pub AllFound : List Entry → List Entry → Type 0
AllFound all [] = Unit {0}
AllFound all (e ∷ part) = (entry_at all e.number ≡ Some e) × AllFound all part

found_further : (e : Entry) (past part : List Entry) → numbers_fall e.number part ≡ true → AllFound past part → AllFound (e ∷ past) part
found_further e past [] falls found = tt
found_further e past (x ∷ part) falls found =
    let lt : x.number < e.number = head_below e.number x part falls in
    let rest : numbers_fall e.number part ≡ true = fall_further x.number e.number part (tail_falls e.number x part falls) (omega arith) in
    (ap (λ (b : Bool). cond b (Some e) (entry_at past x.number)) (not_same_above e.number x.number lt) ∙ found.0, found_further e past part rest found.1)

pub all_found : (past : List Entry) (n : ℕ) → numbers_fall n past ≡ true → AllFound past past
all_found [] n falls = tt
all_found (e ∷ past) n falls =
    let rest : numbers_fall e.number past ≡ true = tail_falls n e past falls in
    (ap (λ (b : Bool). cond b (Some e) (entry_at past e.number)) (same_self e.number), found_further e past past rest (all_found past e.number rest))

request_step : (c b : Bool) (e x : Entry) (o w : Option Entry) → cond b (Some e) w ≡ Some x → has_opened_request (cond c None (cond b (Some e) o)) ≡ true
    → (w ≡ Some x → has_opened_request o ≡ true → opens_request x.event x.reply ≡ true) → opens_request x.event x.reply ≡ true
request_step true b e x o w at is f = cc
request_step false true e x o w at is f = ap has_opened_request (sym at) ∙ is
request_step false false e x o w at is f = f at is

pub request_opened : (all : List Entry) (x : Entry) (n : ℕ) → entry_at all n ≡ Some x → is_open_request all n ≡ true → opens_request x.event x.reply ≡ true
request_opened [] x n at is = cc
request_opened (e ∷ past) x n at is =
    request_step (closes e.event e.reply n) (e.number == n) e x (unclosed past n) (entry_at past n) at is (request_opened past x n)

attempt_step : (c b : Bool) (e x : Entry) (o w : Option Entry) → cond b (Some e) w ≡ Some x → has_opened_attempt (cond c None (cond b (Some e) o)) ≡ true
    → (w ≡ Some x → has_opened_attempt o ≡ true → opens_attempt x.event x.reply ≡ true) → opens_attempt x.event x.reply ≡ true
attempt_step true b e x o w at is f = cc
attempt_step false true e x o w at is f = ap has_opened_attempt (sym at) ∙ is
attempt_step false false e x o w at is f = f at is

pub attempt_opened : (all : List Entry) (x : Entry) (n : ℕ) → entry_at all n ≡ Some x → is_open_attempt all n ≡ true → opens_attempt x.event x.reply ≡ true
attempt_opened [] x n at is = cc
attempt_opened (e ∷ past) x n at is =
    attempt_step (closes e.event e.reply n) (e.number == n) e x (unclosed past n) (entry_at past n) at is (attempt_opened past x n)

abbrev joined_by : Option Entry → Option ℕ
joined_by None = None
joined_by (Some e) = joined e.reply

ticket_step : (c b : Bool) (e x : Entry) (o : Option ℕ) (w : Option Entry) → cond b (Some e) w ≡ Some x → is_some (cond c None (cond b (joined e.reply) o)) ≡ true
    → (w ≡ Some x → is_some o ≡ true → is_some (joined x.reply) ≡ true) → is_some (joined x.reply) ≡ true
ticket_step true b e x o w at is f = cc
ticket_step false true e x o w at is f = ap (λ (y : Option Entry). is_some (joined_by y)) (sym at) ∙ is
ticket_step false false e x o w at is f = f at is

pub ticket_joined : (all : List Entry) (x : Entry) (n : ℕ) → entry_at all n ≡ Some x → is_some (waits_for all n) ≡ true → is_some (joined x.reply) ≡ true
ticket_joined [] x n at is = cc
ticket_joined (e ∷ past) x n at is =
    ticket_step (ends_waiting e.event e.reply n) (e.number == n) e x (waits_for past n) (entry_at past n) at is (ticket_joined past x n)
