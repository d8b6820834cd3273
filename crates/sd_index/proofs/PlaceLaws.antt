-- The places that are reserved after an entry: those before it that it does not give back, and its own.
use Rattle.std.proofs.Common.{◌≡◌, ℕ, ◌<◌, Bool, true, false, cond, not, ◌&&◌, ◌==◌, List, [], ◌∷◌, ◌++◌, filter, Option, None, Some, is_some, refl, sym, ◌∙◌, ap, arith}
use Rattle.std.proofs.lemmas.List.Elements.{filter-append}
use Rattle.sd_rules.specs.declared.keys.Key.{Key}
use Rattle.sd_rules.specs.declared.events.Event.{Event}
use Rattle.sd_rules.specs.declared.events.Event.TheVariants.{Ask, LoginOpen, Collect, Leave}
use Rattle.sd_rules.specs.declared.replies.Entry.{Entry}
use Rattle.sd_rules.specs.declared.replies.Reply.{Reply}
use Rattle.sd_rules.specs.declared.replies.Reply.TheVariants.{Join}
use Rattle.sd_rules.specs.Requests.{is_lead, is_bind, closes, ends_waiting, unclosed, has_opened_request, has_opened_attempt, joined, waits_for}
use Rattle.sd_index.specs.declared.places.Place.{Place}
use Rattle.sd_index.specs.declared.places.Place.TheVariants.{Request, Attempt, Ticket}
use Rattle.sd_voids.specs.Entries.{numbers_fall}
use Rattle.sd_index.specs.Places.{ticket_of, place_by, place_of, listed, taken, stands, reserved, gives_back}
use Rattle.sd_voids.proofs.FallLaws.{head_below, tail_falls, fall_further, not_same_above, same_self}

pub and_true : (b : Bool) → b && true ≡ b
and_true true = refl
and_true false = refl

pub and_false : (b : Bool) → b && false ≡ false
and_false true = refl
and_false false = refl

abbrev pub number_of : Place → ℕ
number_of (Request n key) = n
number_of (Attempt n) = n
number_of (Ticket t request) = t

abbrev number_in : Option Place → ℕ
number_in None = 0
number_in (Some p) = number_of p

ticket_number : (n : ℕ) (r : Reply) (p : Place) → ticket_of n r ≡ Some p → number_of p ≡ n
ticket_number n (Join request ticket) p h = sym (ap number_in h)
ticket_number n _ p h = cc

lead_number : (b : Bool) (own : Place) (o : Option Place) (p : Place) (n : ℕ) → number_of own ≡ n → cond b (Some own) o ≡ Some p
    → (o ≡ Some p → number_of p ≡ n) → number_of p ≡ n
lead_number true own o p n same h f = sym (ap number_in h) ∙ same
lead_number false own o p n same h f = f h

-- a place has the number of its entry
pub place_number : (n : ℕ) (event : Event) (r : Reply) (p : Place) → place_by n event r ≡ Some p → number_of p ≡ n
place_number n (Ask key) r p h = lead_number (is_lead r) (Request n key) (ticket_of n r) p n refl h (ticket_number n r p)
place_number n (LoginOpen user) r p h = lead_number (is_bind r) (Attempt n) (ticket_of n r) p n refl h (ticket_number n r p)
place_number n _ r p h = ticket_number n r p h

request_after : (c b : Bool) (e : Entry) (o : Option Entry) → b ≡ false → has_opened_request (cond c None (cond b (Some e) o)) ≡ (not c && has_opened_request o)
request_after true b e o h = refl
request_after false true e o h = cc
request_after false false e o h = refl

attempt_after : (c b : Bool) (e : Entry) (o : Option Entry) → b ≡ false → has_opened_attempt (cond c None (cond b (Some e) o)) ≡ (not c && has_opened_attempt o)
attempt_after true b e o h = refl
attempt_after false true e o h = cc
attempt_after false false e o h = refl

waits_after : (c b : Bool) (j w : Option ℕ) → b ≡ false → is_some (cond c None (cond b j w)) ≡ (not c && is_some w)
waits_after true b j w h = refl
waits_after false true j w h = cc
waits_after false false j w h = refl

-- a place of an entry before stands on, unless it is given back
pub stands_after : (e : Entry) (past : List Entry) (p : Place) → number_of p < e.number
    → stands (e ∷ past) p ≡ (not (gives_back e.event e.reply p) && stands past p)
stands_after e past (Request n key) lt =
    request_after (closes e.event e.reply n) (e.number == n) e (unclosed past n) (not_same_above e.number n lt)
stands_after e past (Attempt n) lt =
    attempt_after (closes e.event e.reply n) (e.number == n) e (unclosed past n) (not_same_above e.number n lt)
stands_after e past (Ticket t request) lt =
    waits_after (ends_waiting e.event e.reply t) (e.number == t) (joined e.reply) (waits_for past t) (not_same_above e.number t lt)

two_tests : (keep : Place → Bool) (p : Place) (s : Bool) → cond (keep p && s) (p ∷ []) [] ≡ filter keep (cond s (p ∷ []) [])
two_tests keep p true = ap (λ (b : Bool). cond b (p ∷ []) []) (and_true (keep p))
two_tests keep p false = ap (λ (b : Bool). cond b (p ∷ []) []) (and_false (keep p))

one_after : (e : Entry) (past : List Entry) (o : Option Place) → ((p : Place) → o ≡ Some p → number_of p < e.number)
    → filter (stands (e ∷ past)) (listed o) ≡ filter (λ p. not (gives_back e.event e.reply p)) (filter (stands past) (listed o))
one_after e past None below = refl
one_after e past (Some p) below =
    ap (λ (b : Bool). cond b (p ∷ []) []) (stands_after e past p (below p refl))
    ∙ two_tests (λ q. not (gives_back e.event e.reply q)) p (stands past p)

taken_after : (e : Entry) (past part : List Entry) → numbers_fall e.number part ≡ true
    → filter (stands (e ∷ past)) (taken part) ≡ filter (λ p. not (gives_back e.event e.reply p)) (filter (stands past) (taken part))
taken_after e past [] falls = refl
taken_after e past (x ∷ part) falls =
    let keep : Place → Bool = λ p. not (gives_back e.event e.reply p) in
    let own : List Place = listed (place_of x) in
    let lt : x.number < e.number = head_below e.number x part falls in
    let rest : numbers_fall e.number part ≡ true = fall_further x.number e.number part (tail_falls e.number x part falls) (omega arith) in
    filter-append (stands (e ∷ past)) (taken part) own
    ∙ ap (λ (ps : List Place). ps ++ filter (stands (e ∷ past)) own) (taken_after e past part rest)
    ∙ ap (λ (ps : List Place). filter keep (filter (stands past) (taken part)) ++ ps)
    (one_after e past (place_of x) (λ p is. let same : number_of p ≡ x.number = place_number x.number x.event x.reply p is in omega arith))
    ∙ sym (filter-append keep (filter (stands past) (taken part)) (filter (stands past) own))
    ∙ ap (filter keep) (sym (filter-append (stands past) (taken part) own))

joins_on : (event : Event) (request ticket n : ℕ) → ends_waiting event (Join request ticket) n ≡ false
joins_on (Collect t) request ticket n = and_false (t == n)
joins_on (Leave t) request ticket n = and_false (t == n)
joins_on _ request ticket n = refl

one_stands : (s : Bool) (p : Place) → s ≡ true → cond s (p ∷ []) [] ≡ p ∷ []
one_stands true p h = refl
one_stands false p h = cc

ticket_stands : (n m : ℕ) (event : Event) (r : Reply) (past : List Entry)
    → filter (stands (record { number = n; moment = m; event = event; reply = r } ∷ past)) (listed (ticket_of n r)) ≡ listed (ticket_of n r)
ticket_stands n m event (Join request ticket) past =
    one_stands (is_some (waits_for (record { number = n; moment = m; event = event; reply = Join request ticket } ∷ past) n)) (Ticket n request)
    (ap (λ (b : Bool). is_some (cond b None (cond (n == n) (Some request) (waits_for past n)))) (joins_on event request ticket n)
    ∙ ap (λ (b : Bool). is_some (cond b (Some request) (waits_for past n))) (same_self n))
ticket_stands n m event _ past = refl

own_request : (n m : ℕ) (key : Key) (r : Reply) (past : List Entry) (b : Bool) → is_lead r ≡ b
    → filter (stands (record { number = n; moment = m; event = Ask key; reply = r } ∷ past)) (listed (cond b (Some (Request n key)) (ticket_of n r)))
    ≡ listed (cond b (Some (Request n key)) (ticket_of n r))
own_request n m key r past true is =
    let e : Entry = record { number = n; moment = m; event = Ask key; reply = r } in
    one_stands (has_opened_request (cond (n == n) (Some e) (unclosed past n))) (Request n key)
    (ap (λ (b : Bool). has_opened_request (cond b (Some e) (unclosed past n))) (same_self n) ∙ is)
own_request n m key r past false is = ticket_stands n m (Ask key) r past

own_attempt : (n m : ℕ) (user : List ℕ) (r : Reply) (past : List Entry) (b : Bool) → is_bind r ≡ b
    → filter (stands (record { number = n; moment = m; event = LoginOpen user; reply = r } ∷ past)) (listed (cond b (Some (Attempt n)) (ticket_of n r)))
    ≡ listed (cond b (Some (Attempt n)) (ticket_of n r))
own_attempt n m user r past true is =
    let e : Entry = record { number = n; moment = m; event = LoginOpen user; reply = r } in
    one_stands (has_opened_attempt (cond (n == n) (Some e) (unclosed past n))) (Attempt n)
    (ap (λ (b : Bool). has_opened_attempt (cond b (Some e) (unclosed past n))) (same_self n) ∙ is)
own_attempt n m user r past false is = ticket_stands n m (LoginOpen user) r past

own_stands : (n m : ℕ) (event : Event) (r : Reply) (past : List Entry)
    → filter (stands (record { number = n; moment = m; event = event; reply = r } ∷ past)) (listed (place_by n event r)) ≡ listed (place_by n event r)
own_stands n m (Ask key) r past = own_request n m key r past (is_lead r) refl
own_stands n m (LoginOpen user) r past = own_attempt n m user r past (is_bind r) refl
own_stands n m event r past = ticket_stands n m event r past

pub reserved_after : (e : Entry) (past : List Entry) → numbers_fall e.number past ≡ true
    → reserved (e ∷ past) ≡ filter (λ p. not (gives_back e.event e.reply p)) (reserved past) ++ listed (place_of e)
reserved_after e past falls =
    let keep : Place → Bool = λ p. not (gives_back e.event e.reply p) in
    filter-append (stands (e ∷ past)) (taken past) (listed (place_of e))
    ∙ ap (λ (ps : List Place). ps ++ filter (stands (e ∷ past)) (listed (place_of e))) (taken_after e past past falls)
    ∙ ap (λ (ps : List Place). filter keep (reserved past) ++ ps) (own_stands e.number e.moment e.event e.reply past)
