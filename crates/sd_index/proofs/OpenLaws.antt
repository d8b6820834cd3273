-- Which requests and attempts are open and which tickets wait, read from the places that are reserved.
use Rattle.std.proofs.Common.{◌≡◌, ℕ, ◌<◌, ◌≤◌, Bool, true, false, cond, not, ◌&&◌, ◌||◌, ◌==◌, List, [], ◌∷◌, ◌++◌, filter, Option, None, Some, is_some, refl, sym, ◌∙◌, ap, arith}
use Rattle.std.specs.List.{list_any}
use Rattle.sd_rules.specs.declared.events.Event.{Event}
use Rattle.sd_rules.specs.declared.events.Event.TheVariants.{Ask, LoginOpen, Collect, Leave}
use Rattle.sd_rules.specs.declared.replies.Entry.{Entry}
use Rattle.sd_rules.specs.declared.replies.Reply.{Reply}
use Rattle.sd_rules.specs.declared.replies.Reply.TheVariants as replies
use Rattle.sd_rules.specs.Past.{or_else}
use Rattle.sd_rules.specs.Requests.{is_lead, is_bind, is_took, is_left, closes, ends_waiting, unclosed, opens_request, opens_attempt, has_opened_request, has_opened_attempt, is_open_request, is_open_attempt, joined, waits_for}
use Rattle.sd_index.specs.declared.places.Place.{Place}
use Rattle.sd_index.specs.declared.places.Place.TheVariants.{Request, Attempt, Ticket}
use Rattle.sd_voids.specs.Entries.{falls, numbers_fall}
use Rattle.sd_index.specs.Places.{ticket_of, place_by, place_of, listed, reserved, gives_back, is_request_of, is_attempt_of, ticket_at, waits_in}
use Rattle.sd_voids.proofs.FallLaws.{head_below, tail_falls, falls_from_some, not_same_below, is_same}
use Rattle.sd_index.proofs.PlaceLaws.{and_true, and_false, reserved_after}

or_or : (p q r : Bool) → (p || (q || r)) ≡ ((p || q) || r)
or_or true q r = refl
or_or false q r = refl

or_none : (p : Bool) → (p || false) ≡ p
or_none true = refl
or_none false = refl

no_entry : (b : Bool) (o : Option Entry) → o ≡ None → cond b None o ≡ None
no_entry true o h = refl
no_entry false o h = h

no_number : (b : Bool) (o : Option ℕ) → o ≡ None → cond b None o ≡ None
no_number true o h = refl
no_number false o h = h

any-append : (test : Place → Bool) (ps qs : List Place) → list_any test (ps ++ qs) ≡ (list_any test ps || list_any test qs)
any-append test [] qs = refl
any-append test (p ∷ ps) qs = ap (λ (b : Bool). test p || b) (any-append test ps qs) ∙ or_or (test p) (list_any test ps) (list_any test qs)

any_kept_one : (test : Place → Bool) (p : Place) (b c d : Bool) (rest : Bool) (kept : List Place) → test p ≡ b → (b ≡ true → c ≡ d) → list_any test kept ≡ (not d && rest)
    → list_any test (cond (not c) (p ∷ kept) kept) ≡ (not d && (b || rest))
any_kept_one test p true true d rest kept is same h = h ∙ ap (λ (x : Bool). not x && rest) (sym (same refl)) ∙ ap (λ (x : Bool). not x && true) (same refl)
any_kept_one test p true false d rest kept is same h =
    ap (λ (x : Bool). x || list_any test kept) is ∙ ap (λ (x : Bool). not x && true) (same refl)
any_kept_one test p false true d rest kept is same h = h
any_kept_one test p false false d rest kept is same h = ap (λ (x : Bool). x || list_any test kept) is ∙ h

-- what a test finds among the places that an entry does not give back
any_kept : (test : Place → Bool) (event : Event) (r : Reply) (d : Bool) → ((p : Place) → test p ≡ true → gives_back event r p ≡ d) → (ps : List Place)
    → list_any test (filter (λ p. not (gives_back event r p)) ps) ≡ (not d && list_any test ps)
any_kept test event r d same [] = sym (and_false (not d))
any_kept test event r d same (p ∷ ps) =
    any_kept_one test p (test p) (gives_back event r p) d (list_any test ps) (filter (λ q. not (gives_back event r q)) ps) refl (same p)
    (any_kept test event r d same ps)

-- nothing of a number that is yet to come is open or waits
unclosed_none : (past : List Entry) (m n : ℕ) → numbers_fall m past ≡ true → m ≤ n → unclosed past n ≡ None
unclosed_none [] m n falls le = refl
unclosed_none (e ∷ past) m n falls le =
    let lt : e.number < m = head_below m e past falls in
    let below : e.number < n = omega arith in
    let near : e.number ≤ n = omega arith in
    no_entry (closes e.event e.reply n) (cond (e.number == n) (Some e) (unclosed past n))
    (ap (λ (b : Bool). cond b (Some e) (unclosed past n)) (not_same_below e.number n below) ∙ unclosed_none past e.number n (tail_falls m e past falls) near)

waits_none : (past : List Entry) (m n : ℕ) → numbers_fall m past ≡ true → m ≤ n → waits_for past n ≡ None
waits_none [] m n falls le = refl
waits_none (e ∷ past) m n falls le =
    let lt : e.number < m = head_below m e past falls in
    let below : e.number < n = omega arith in
    let near : e.number ≤ n = omega arith in
    no_number (ends_waiting e.event e.reply n) (cond (e.number == n) (joined e.reply) (waits_for past n))
    (ap (λ (b : Bool). cond b (joined e.reply) (waits_for past n)) (not_same_below e.number n below) ∙ waits_none past e.number n (tail_falls m e past falls) near)

open_closes_none : (event : Event) (r : Reply) (n : ℕ) → opens_request event r ≡ true → closes event r n ≡ false
open_closes_none (Ask key) r n h = refl
open_closes_none _ r n h = cc

begun_closes_none : (event : Event) (r : Reply) (n : ℕ) → opens_attempt event r ≡ true → closes event r n ≡ false
begun_closes_none (LoginOpen user) r n h = refl
begun_closes_none _ r n h = cc

no_request : (n m : ℕ) (r : Reply) → list_any (is_request_of n) (listed (ticket_of m r)) ≡ false
no_request n m (replies.Join request ticket) = refl
no_request n m _ = refl

request_or : (n m : ℕ) (place : Place) (r : Reply) (b t : Bool) → is_request_of n place ≡ t → list_any (is_request_of n) (listed (cond b (Some place) (ticket_of m r))) ≡ (b && t)
request_or n m place r true t is = ap (λ (x : Bool). x || false) is ∙ or_none t
request_or n m place r false t is = no_request n m r

-- the request that an entry opens
request_at : (n m : ℕ) (event : Event) (r : Reply) → list_any (is_request_of n) (listed (place_by m event r)) ≡ (opens_request event r && (m == n))
request_at n m (Ask key) r = request_or n m (Request m key) r (is_lead r) (m == n) refl
request_at n m (LoginOpen user) r = request_or n m (Attempt m) r (is_bind r) false refl ∙ and_false (is_bind r)
request_at n m _ r = no_request n m r

no_attempt : (n m : ℕ) (r : Reply) → list_any (is_attempt_of n) (listed (ticket_of m r)) ≡ false
no_attempt n m (replies.Join request ticket) = refl
no_attempt n m _ = refl

attempt_or : (n m : ℕ) (place : Place) (r : Reply) (b t : Bool) → is_attempt_of n place ≡ t → list_any (is_attempt_of n) (listed (cond b (Some place) (ticket_of m r))) ≡ (b && t)
attempt_or n m place r true t is = ap (λ (x : Bool). x || false) is ∙ or_none t
attempt_or n m place r false t is = no_attempt n m r

attempt_at : (n m : ℕ) (event : Event) (r : Reply) → list_any (is_attempt_of n) (listed (place_by m event r)) ≡ (opens_attempt event r && (m == n))
attempt_at n m (Ask key) r = attempt_or n m (Request m key) r (is_lead r) false refl ∙ and_false (is_lead r)
attempt_at n m (LoginOpen user) r = attempt_or n m (Attempt m) r (is_bind r) (m == n) refl
attempt_at n m _ r = no_attempt n m r

request_gone : (event : Event) (r : Reply) (n : ℕ) (p : Place) → is_request_of n p ≡ true → gives_back event r p ≡ closes event r n
request_gone event r n (Request m key) is = ap (λ (x : ℕ). closes event r x) (is_same m n is)
request_gone event r n (Attempt m) is = cc
request_gone event r n (Ticket t request) is = cc

attempt_gone : (event : Event) (r : Reply) (n : ℕ) (p : Place) → is_attempt_of n p ≡ true → gives_back event r p ≡ closes event r n
attempt_gone event r n (Request m key) is = cc
attempt_gone event r n (Attempt m) is = ap (λ (x : ℕ). closes event r x) (is_same m n is)
attempt_gone event r n (Ticket t request) is = cc

request_step : (c b p : Bool) (e : Entry) (u : Option Entry) → opens_request e.event e.reply ≡ p → (p ≡ true → c ≡ false) → (b ≡ true → u ≡ None)
    → ((not c && has_opened_request u) || (p && b)) ≡ has_opened_request (cond c None (cond b (Some e) u))
request_step true b true e u is f g = let wrong : true ≡ false = f refl in cc
request_step true b false e u is f g = refl
request_step false true p e u is f g =
    ap (λ (o : Option Entry). has_opened_request o || (p && true)) (g refl) ∙ and_true p ∙ sym is
request_step false false p e u is f g = ap (λ (x : Bool). has_opened_request u || x) (and_false p) ∙ or_none (has_opened_request u)

attempt_step : (c b p : Bool) (e : Entry) (u : Option Entry) → opens_attempt e.event e.reply ≡ p → (p ≡ true → c ≡ false) → (b ≡ true → u ≡ None)
    → ((not c && has_opened_attempt u) || (p && b)) ≡ has_opened_attempt (cond c None (cond b (Some e) u))
attempt_step true b true e u is f g = let wrong : true ≡ false = f refl in cc
attempt_step true b false e u is f g = refl
attempt_step false true p e u is f g =
    ap (λ (o : Option Entry). has_opened_attempt o || (p && true)) (g refl) ∙ and_true p ∙ sym is
attempt_step false false p e u is f g = ap (λ (x : Bool). has_opened_attempt u || x) (and_false p) ∙ or_none (has_opened_attempt u)

requests_of : (past : List Entry) (m n : ℕ) → numbers_fall m past ≡ true → list_any (is_request_of n) (reserved past) ≡ is_open_request past n
requests_of [] m n falls = refl
requests_of (e ∷ past) m n falls =
    let rest : numbers_fall e.number past ≡ true = tail_falls m e past falls in
    let c : Bool = closes e.event e.reply n in
    let own : Bool = list_any (is_request_of n) (listed (place_of e)) in
    ap (list_any (is_request_of n)) (reserved_after e past rest)
    ∙ any-append (is_request_of n) (filter (λ p. not (gives_back e.event e.reply p)) (reserved past)) (listed (place_of e))
    ∙ ap (λ (x : Bool). x || own) (any_kept (is_request_of n) e.event e.reply c (request_gone e.event e.reply n) (reserved past))
    ∙ ap (λ (x : Bool). (not c && x) || own) (requests_of past e.number n rest)
    ∙ ap (λ (x : Bool). (not c && is_open_request past n) || x) (request_at n e.number e.event e.reply)
    ∙ request_step c (e.number == n) (opens_request e.event e.reply) e (unclosed past n) refl (open_closes_none e.event e.reply n)
    (λ b. let same : e.number ≡ n = is_same e.number n b in unclosed_none past e.number n rest (omega arith))

attempts_of : (past : List Entry) (m n : ℕ) → numbers_fall m past ≡ true → list_any (is_attempt_of n) (reserved past) ≡ is_open_attempt past n
attempts_of [] m n falls = refl
attempts_of (e ∷ past) m n falls =
    let rest : numbers_fall e.number past ≡ true = tail_falls m e past falls in
    let c : Bool = closes e.event e.reply n in
    let own : Bool = list_any (is_attempt_of n) (listed (place_of e)) in
    ap (list_any (is_attempt_of n)) (reserved_after e past rest)
    ∙ any-append (is_attempt_of n) (filter (λ p. not (gives_back e.event e.reply p)) (reserved past)) (listed (place_of e))
    ∙ ap (λ (x : Bool). x || own) (any_kept (is_attempt_of n) e.event e.reply c (attempt_gone e.event e.reply n) (reserved past))
    ∙ ap (λ (x : Bool). (not c && x) || own) (attempts_of past e.number n rest)
    ∙ ap (λ (x : Bool). (not c && is_open_attempt past n) || x) (attempt_at n e.number e.event e.reply)
    ∙ attempt_step c (e.number == n) (opens_attempt e.event e.reply) e (unclosed past n) refl (begun_closes_none e.event e.reply n)
    (λ b. let same : e.number ≡ n = is_same e.number n b in unclosed_none past e.number n rest (omega arith))

or_else_or : (a b c : Option ℕ) → or_else a (or_else b c) ≡ or_else (or_else a b) c
or_else_or (Some n) b c = refl
or_else_or None b c = refl

or_else_none : (a : Option ℕ) → or_else a None ≡ a
or_else_none (Some n) = refl
or_else_none None = refl

waits-append : (t : ℕ) (ps qs : List Place) → waits_in (ps ++ qs) t ≡ or_else (waits_in ps t) (waits_in qs t)
waits-append t [] qs = refl
waits-append t (p ∷ ps) qs = ap (λ (o : Option ℕ). or_else (ticket_at t p) o) (waits-append t ps qs) ∙ or_else_or (ticket_at t p) (waits_in ps t) (waits_in qs t)

waits_kept_one : (t : ℕ) (p : Place) (at : Option ℕ) (c d : Bool) (w : Option ℕ) (kept : List Place) → ticket_at t p ≡ at → (is_some at ≡ true → c ≡ d)
    → waits_in kept t ≡ cond d None w → waits_in (cond (not c) (p ∷ kept) kept) t ≡ cond d None (or_else at w)
waits_kept_one t p (Some r) true true w kept is same h = h
waits_kept_one t p (Some r) true false w kept is same h = let wrong : true ≡ false = same refl in cc
waits_kept_one t p (Some r) false true w kept is same h = let wrong : false ≡ true = same refl in cc
waits_kept_one t p (Some r) false false w kept is same h = ap (λ (o : Option ℕ). or_else o (waits_in kept t)) is
waits_kept_one t p None true d w kept is same h = h
waits_kept_one t p None false d w kept is same h = ap (λ (o : Option ℕ). or_else o (waits_in kept t)) is ∙ h

ticket_if : (event : Event) (r : Reply) (t m request : ℕ) (b : Bool) → (m == t) ≡ b → is_some (cond b (Some request) None) ≡ true → ends_waiting event r m ≡ ends_waiting event r t
ticket_if event r t m request true is h = ap (λ (x : ℕ). ends_waiting event r x) (is_same m t is)
ticket_if event r t m request false is h = cc

ticket_gone : (event : Event) (r : Reply) (t : ℕ) (p : Place) → is_some (ticket_at t p) ≡ true → gives_back event r p ≡ ends_waiting event r t
ticket_gone event r t (Request m key) h = cc
ticket_gone event r t (Attempt m) h = cc
ticket_gone event r t (Ticket m request) h = ticket_if event r t m request (m == t) refl h

waits_kept : (event : Event) (r : Reply) (t : ℕ) (ps : List Place)
    → waits_in (filter (λ p. not (gives_back event r p)) ps) t ≡ cond (ends_waiting event r t) None (waits_in ps t)
waits_kept event r t [] = sym (no_number (ends_waiting event r t) None refl)
waits_kept event r t (p ∷ ps) =
    waits_kept_one t p (ticket_at t p) (gives_back event r p) (ends_waiting event r t) (waits_in ps t) (filter (λ q. not (gives_back event r q)) ps) refl
    (ticket_gone event r t p) (waits_kept event r t ps)

lead_joins : (r : Reply) → is_lead r ≡ true → joined r ≡ None
lead_joins (replies.Lead request) h = refl
lead_joins (replies.Refresh number request) h = refl
lead_joins _ h = cc

bind_joins : (r : Reply) → is_bind r ≡ true → joined r ≡ None
bind_joins (replies.Bind attempt) h = refl
bind_joins (replies.Cached attempt login) h = refl
bind_joins _ h = cc

took_joins : (r : Reply) (b : Bool) → b && is_took r ≡ true → joined r ≡ None
took_joins (replies.Took outcome) b h = refl
took_joins _ true h = cc
took_joins _ false h = cc

left_joins : (r : Reply) (b : Bool) → b && is_left r ≡ true → joined r ≡ None
left_joins replies.Left b h = refl
left_joins _ true h = cc
left_joins _ false h = cc

ended_joins : (event : Event) (r : Reply) (t : ℕ) → ends_waiting event r t ≡ true → joined r ≡ None
ended_joins (Collect u) r t h = took_joins r (u == t) h
ended_joins (Leave u) r t h = left_joins r (u == t) h
ended_joins _ r t h = cc

same_none : (b : Bool) → ◌≡◌ {A = Option ℕ} None (cond b None None)
same_none true = refl
same_none false = refl

ticket_own : (t m : ℕ) (r : Reply) → waits_in (listed (ticket_of m r)) t ≡ cond (m == t) (joined r) None
ticket_own t m (replies.Join request ticket) = or_else_none (cond (m == t) (Some request) None)
ticket_own t m _ = same_none (m == t)

place_own : (t m : ℕ) (place : Place) (r : Reply) (b : Bool) → ticket_at t place ≡ None → (b ≡ true → joined r ≡ None)
    → waits_in (listed (cond b (Some place) (ticket_of m r))) t ≡ cond (m == t) (joined r) None
place_own t m place r true is f =
    ap (λ (o : Option ℕ). or_else o None) is ∙ same_none (m == t) ∙ ap (λ (o : Option ℕ). cond (m == t) o None) (sym (f refl))
place_own t m place r false is f = ticket_own t m r

waits_own : (t m : ℕ) (event : Event) (r : Reply) → waits_in (listed (place_by m event r)) t ≡ cond (m == t) (joined r) None
waits_own t m (Ask key) r = place_own t m (Request m key) r (is_lead r) refl (lead_joins r)
waits_own t m (LoginOpen user) r = place_own t m (Attempt m) r (is_bind r) refl (bind_joins r)
waits_own t m _ r = ticket_own t m r

waits_step : (w b : Bool) (j o : Option ℕ) → (w ≡ true → j ≡ None) → (b ≡ true → o ≡ None) → or_else (cond w None o) (cond b j None) ≡ cond w None (cond b j o)
waits_step true true j o f g = f refl
waits_step true false j o f g = refl
waits_step false true j o f g = ap (λ (x : Option ℕ). or_else x j) (g refl)
waits_step false false j o f g = or_else_none o

waits_of : (past : List Entry) (m t : ℕ) → numbers_fall m past ≡ true → waits_in (reserved past) t ≡ waits_for past t
waits_of [] m t falls = refl
waits_of (e ∷ past) m t falls =
    let rest : numbers_fall e.number past ≡ true = tail_falls m e past falls in
    let w : Bool = ends_waiting e.event e.reply t in
    let own : Option ℕ = waits_in (listed (place_of e)) t in
    ap (λ (ps : List Place). waits_in ps t) (reserved_after e past rest)
    ∙ waits-append t (filter (λ p. not (gives_back e.event e.reply p)) (reserved past)) (listed (place_of e))
    ∙ ap (λ (o : Option ℕ). or_else o own) (waits_kept e.event e.reply t (reserved past))
    ∙ ap (λ (o : Option ℕ). or_else (cond w None o) own) (waits_of past e.number t rest)
    ∙ ap (λ (o : Option ℕ). or_else (cond w None (waits_for past t)) o) (waits_own t e.number e.event e.reply)
    ∙ waits_step w (e.number == t) (joined e.reply) (waits_for past t) (ended_joins e.event e.reply t)
    (λ b. let same : e.number ≡ t = is_same e.number t b in waits_none past e.number t rest (omega arith))

pub request_is : (past : List Entry) (n : ℕ) → falls past ≡ true → list_any (is_request_of n) (reserved past) ≡ is_open_request past n
request_is past n h =
    let some : (m : ℕ) × (numbers_fall m past ≡ true) = falls_from_some past h in
    requests_of past some.0 n some.1

pub attempt_is : (past : List Entry) (n : ℕ) → falls past ≡ true → list_any (is_attempt_of n) (reserved past) ≡ is_open_attempt past n
attempt_is past n h =
    let some : (m : ℕ) × (numbers_fall m past ≡ true) = falls_from_some past h in
    attempts_of past some.0 n some.1

pub waits_is : (past : List Entry) (t : ℕ) → falls past ≡ true → waits_in (reserved past) t ≡ waits_for past t
waits_is past t h =
    let some : (m : ℕ) × (numbers_fall m past ≡ true) = falls_from_some past h in
    waits_of past some.0 t some.1
