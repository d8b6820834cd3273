-- A step keeps what is kept of a journal so: the same entry on both.
use Rattle.std.proofs.Common.{◌≡◌, ℕ, ◌<◌, ◌≤◌, ◌+◌, Bool, true, false, List, [], ◌∷◌, arith, refl, sym, ap, subst, ◌∙◌, inl, inr}
use Rattle.std.specs.Prelude.{Option, Some, None, is_some, nat_lt, ◌≢◌, ◌⊎◌, ◌==◌, ◌&&◌, ◌||◌, if◌then◌else◌}
use Rattle.sd_rules.specs.declared.keys.Key.{Key}
use Rattle.sd_rules.specs.declared.records.Answered.{Answered}
use Rattle.sd_rules.specs.declared.records.Answered.TheVariants.{Found, Absent}
use Rattle.sd_rules.specs.declared.events.Event.{Event}
use Rattle.sd_rules.specs.declared.events.Event.TheVariants as events
use Rattle.sd_rules.specs.declared.replies.Entry.{Entry}
use Rattle.sd_rules.specs.declared.replies.Outcome.{Outcome}
use Rattle.sd_rules.specs.declared.replies.Reply.{Reply}
use Rattle.sd_rules.specs.declared.replies.Reply.TheVariants as replies
use Rattle.sd_rules.specs.Past.{Standing, or_else, is_closed, voids, answer_in, spoken, newest, is_void_after}
use Rattle.sd_rules.specs.Requests.{closes, unclosed, has_opened_request, has_opened_attempt, is_open, is_open_request, is_open_attempt, reserves, ends_waiting, joined, waits_for, shut_outcome, outcome_by, outcome_of}
use Rattle.sd_rules.specs.Servers.{is_noted, falls_under, has_fallen_under, is_online, is_fall_of, is_pick_of, is_server, was_picked}
use Rattle.sd_rules.specs.Logins.{Login, login_by, login_in, or_earlier, only_hashed, hash_entry, last_online_login, accepts, wrongs, wrong_count, last_wrong}
use Rattle.sd_rules.specs.Needed.{last_where, is_stop, answer_of_outcome, read_with}
use Rattle.sd_rules.specs.Steps.{asks_again, is_asking, void_since}
use Rattle.sd_rules.specs.TextBytes.{bytes_of_event, text_bytes}
use Rattle.sd_forgetting.specs.Parts.{part, entry_at, IsAt, numbers_fall}
use Rattle.sd_forgetting.specs.Orderly.{is_no_request, named_unless, named_by, entry_fits, entries_fit, is_answer, is_word}
use Rattle.sd_forgetting.specs.Kept.{reserving, SameOpen, SameAnswers, SameTickets, SameLogins, SameEnds, IsKeptOf}
use Rattle.sd_forgetting.proofs.Tests.{not_true, none_is_not, same_some, or_left, or_right, either, first_holds, second_holds, cases, clash, is_false, if_true, if_false, equal_numbers, is_equal, is_less, differ_above}
use Rattle.sd_forgetting.proofs.Places.{key_kept, user_kept, numbers_below}
use Rattle.sd_forgetting.proofs.Opens.{unclosed_at, request_some}
use Rattle.sd_forgetting.proofs.Answers.{answer_kept, answer_number, spoken_some}
use Rattle.sd_forgetting.proofs.Logins.{login_kept, login_some, hashed_some}
use Rattle.sd_forgetting.proofs.Guesses.{accepts_kept}
use Rattle.sd_forgetting.proofs.Quiet.{reader_named}
use Rattle.sd_forgetting.proofs.Whys.{about_below}
use Rattle.sd_forgetting.proofs.Forgets.{reserving_kept, reserving_same}
use Rattle.sd_forgetting.proofs.Made.{IsMade, shut_answer}

-- numbers that nothing has yet: no fall and no pick is about them
named_for : (c : Bool) (q n : ℕ) → c ≡ false → q ≡ n → named_unless c q ≡ Some n
named_for true q n f e = absurd (not_true (sym f))
named_for false q n f e = ap (λ (m : ℕ). Some m) e

noted_none : (reply : Reply) → is_noted reply ≡ true → is_no_request reply ≡ false
noted_none replies.Noted h = refl
noted_none _ h = absurd (not_true h)

server_none : (reply : Reply) (i : ℕ) → is_server reply i ≡ true → is_no_request reply ≡ false
server_none (replies.Server j) i h = refl
server_none _ i h = absurd (not_true h)

falls_named : (event : Event) (reply : Reply) (n i : ℕ) → falls_under event reply n i ≡ true → named_by event reply ≡ Some n
falls_named (events.Fall r server why) reply n i h =
    named_for (is_no_request reply) r n
    (noted_none reply (second_holds (server == i) (is_noted reply) (second_holds (r == n) ((server == i) && is_noted reply) h)))
    (equal_numbers r n (first_holds (r == n) ((server == i) && is_noted reply) h))
falls_named _ reply n i h = absurd (not_true h)

pick_named : (event : Event) (reply : Reply) (n i : ℕ) → is_pick_of event n ≡ true → is_server reply i ≡ true → named_by event reply ≡ Some n
pick_named (events.Pick r) reply n i h s = named_for (is_no_request reply) r n (server_none reply i s) (equal_numbers r n h)
pick_named _ reply n i h s = absurd (not_true h)

fresh_falls : (b n i : ℕ) (xs : List Entry) → numbers_fall b xs ≡ true → entries_fit xs ≡ true → b ≤ n → has_fallen_under xs n i ≡ false
fresh_falls b n i [] f g h = refl
fresh_falls b n i (x ∷ xs) f g h =
    let low = is_less x.number b (first_holds (nat_lt x.number b) (numbers_fall x.number xs) f) in
    let as_low : x.number ≤ n = omega arith in
    let rest = fresh_falls x.number n i xs (second_holds (nat_lt x.number b) (numbers_fall x.number xs) f) (second_holds (entry_fits xs x) (entries_fit xs) g) as_low in
    is_false (falls_under x.event x.reply n i || has_fallen_under xs n i)
    (λ t. either (falls_under x.event x.reply n i) (has_fallen_under xs n i) t
    (λ u. let below = about_below xs x n (first_holds (entry_fits xs x) (entries_fit xs) g) (falls_named x.event x.reply n i u) in
    let wrong : ⊥ = absurd (omega arith) in wrong)
    (λ u. not_true (sym rest ∙ u)))

fresh_picks : (b n i : ℕ) (xs : List Entry) → numbers_fall b xs ≡ true → entries_fit xs ≡ true → b ≤ n → was_picked xs n i ≡ false
fresh_picks b n i [] f g h = refl
fresh_picks b n i (x ∷ xs) f g h =
    let low = is_less x.number b (first_holds (nat_lt x.number b) (numbers_fall x.number xs) f) in
    let as_low : x.number ≤ n = omega arith in
    let rest = fresh_picks x.number n i xs (second_holds (nat_lt x.number b) (numbers_fall x.number xs) f) (second_holds (entry_fits xs x) (entries_fit xs) g) as_low in
    cases (is_pick_of x.event n)
    (λ p. if_true (is_pick_of x.event n) (is_server x.reply i) (was_picked xs n i) p
    ∙ is_false (is_server x.reply i)
    (λ u. let below = about_below xs x n (first_holds (entry_fits xs x) (entries_fit xs) g) (pick_named x.event x.reply n i p u) in
    let wrong : ⊥ = absurd (omega arith) in wrong))
    (λ p. if_false (is_pick_of x.event n) (is_server x.reply i) (was_picked xs n i) p ∙ rest)

-- what is open after an entry, but for its own, was open before
abbrev opened : Option Entry → Bool
opened u = has_opened_request u || has_opened_attempt u

open_rest : (c s : Bool) (x : Entry) (y : Option Entry) → s ≡ false → opened (if c then None else if s then Some x else y) ≡ true → opened y ≡ true
open_rest true s x y f h = absurd (not_true h)
open_rest false true x y f h = absurd (not_true (sym f))
open_rest false false x y f h = h

request_rest : (c s : Bool) (x : Entry) (y : Option Entry) → s ≡ false → has_opened_request (if c then None else if s then Some x else y) ≡ true → has_opened_request y ≡ true
request_rest true s x y f h = absurd (not_true h)
request_rest false true x y f h = absurd (not_true (sym f))
request_rest false false x y f h = h

waits_rest : (c s : Bool) (x y : Option ℕ) → s ≡ false → is_some (if c then None else if s then x else y) ≡ true → is_some y ≡ true
waits_rest true s x y f h = absurd (not_true h)
waits_rest false true x y f h = absurd (not_true (sym f))
waits_rest false false x y f h = h

request_step : (c s : Bool) (x : Entry) (y z : Option Entry) → has_opened_request y ≡ has_opened_request z →
    has_opened_request (if c then None else if s then Some x else y) ≡ has_opened_request (if c then None else if s then Some x else z)
request_step true s x y z h = refl
request_step false true x y z h = refl
request_step false false x y z h = h

attempt_step : (c s : Bool) (x : Entry) (y z : Option Entry) → has_opened_attempt y ≡ has_opened_attempt z →
    has_opened_attempt (if c then None else if s then Some x else y) ≡ has_opened_attempt (if c then None else if s then Some x else z)
attempt_step true s x y z h = refl
attempt_step false true x y z h = refl
attempt_step false false x y z h = h

-- what is open stays so where an entry neither closes it nor has its number
stays_open : (c s : Bool) (x : Entry) (y : Option Entry) → c ≡ false → s ≡ false → has_opened_request y ≡ true → has_opened_request (if c then None else if s then Some x else y) ≡ true
stays_open true s x y f g h = absurd (not_true (sym f))
stays_open false true x y f g h = absurd (not_true (sym g))
stays_open false false x y f g h = h

not_open_above : (b r : ℕ) (xs : List Entry) → numbers_fall b xs ≡ true → is_open_request xs r ≡ true → r < b
not_open_above b r xs f h =
    let v = request_some (unclosed xs r) h in
    let u = unclosed_at xs r v.0 v.1 in
    subst (λ (n : ℕ). n < b) u.number (numbers_below b xs v.0 u.past f u.at)

-- what a closing entry gives
pub outcome_kind : (n : ℕ) (event : Event) (reply : Reply) (r m : ℕ) → closes event reply r ≡ true → answer_of_outcome (outcome_by n event reply) ≡ Some m →
    ((m ≡ n) × (is_answer event reply ≡ true)) ⊎ (shut_answer reply ≡ Some m)
outcome_kind n (events.Answer q (Found found)) reply r m c h = inl (sym (same_some n m h), second_holds (q == r) (is_closed reply) c)
outcome_kind n (events.Answer q Absent) reply r m c h = inl (sym (same_some n m h), second_holds (q == r) (is_closed reply) c)
outcome_kind n (events.Refuse q refusal) reply r m c h = absurd (none_is_not m h)
outcome_kind n (events.Outage q) reply r m c h = by_reply reply h
  where
    by_reply : (y : Reply) → answer_of_outcome (shut_outcome n y) ≡ Some m → ((m ≡ n) × (is_answer (events.Outage q) y ≡ true)) ⊎ (shut_answer y ≡ Some m)
    by_reply (replies.Shut outcome) g = inr g
    by_reply _ g = absurd (none_is_not m g)
outcome_kind n _ reply r m c h = absurd (none_is_not m h)

count_alike : (c d : Bool) (x m n : ℕ) → c ≡ d → m ≡ n → (if c then 0 else x + m) ≡ (if d then 0 else x + n)
count_alike true d x m n e h = sym (if_true d 0 (x + n) (sym e))
count_alike false d x m n e h = ap (λ (y : ℕ). x + y) h ∙ sym (if_false d 0 (x + n) (sym e))

counted_before : (c z : Bool) (x m : ℕ) → (z ≡ true → x ≡ 0) → z ≡ true → m ≡ 0 → (if c then 0 else x + m) ≡ 0
counted_before true z x m f g h = refl
counted_before false z x m f g h =
    let e = f g in
    omega arith

after_same : (s v f g : Bool) → f ≡ g → (if s then false else v || f) ≡ (if s then false else v || g)
after_same true v f g h = refl
after_same false v f g h = ap (λ (b : Bool). v || b) h

else_some : {X : Type 0} (o y : Option X) (x : X) → or_else o y ≡ Some x → (o ≡ Some x) ⊎ (y ≡ Some x)
else_some None y x h = inr h
else_some (Some z) y x h = inl h

earlier_some : (o y : Option Login) (x : Login) → or_earlier o y ≡ Some x → (o ≡ Some x) ⊎ (y ≡ Some x)
earlier_some None y x h = inr h
earlier_some (Some z) y x h = inl h

module _ (w p : List Entry) (e : Entry) (k : IsKeptOf w p) (m : IsMade w e) (above : numbers_fall e.number p ≡ true) (fits_w : entries_fit w ≡ true) (fits_p : entries_fit p ≡ true) where
  requests_after : (n : ℕ) → is_open_request (e ∷ w) n ≡ is_open_request (e ∷ p) n
  requests_after n = request_step (closes e.event e.reply n) (e.number == n) e (unclosed w n) (unclosed p n) (k.opens.requests n)

  attempts_after : (n : ℕ) → is_open_attempt (e ∷ w) n ≡ is_open_attempt (e ∷ p) n
  attempts_after n = attempt_step (closes e.event e.reply n) (e.number == n) e (unclosed w n) (unclosed p n) (k.opens.attempts n)

  waiting_after : (t : ℕ) → waits_for (e ∷ w) t ≡ waits_for (e ∷ p) t
  waiting_after t = ap (λ (y : Option ℕ). if ends_waiting e.event e.reply t then None else if e.number == t then joined e.reply else y) (k.tickets.waiting t)

  reserves_after : (n : ℕ) → reserves (e ∷ w) n ≡ reserves (e ∷ p) n
  reserves_after n =
      ap (λ (b : Bool). (b || is_open_attempt (e ∷ w) n) || is_some (waits_for (e ∷ w) n)) (requests_after n)
      ∙ (ap (λ (b : Bool). (is_open_request (e ∷ p) n || b) || is_some (waits_for (e ∷ w) n)) (attempts_after n)
      ∙ ap (λ (o : Option ℕ). is_open (e ∷ p) n || is_some o) (waiting_after n))

  open_before : (xs : List Entry) (n : ℕ) → (e.number == n) ≡ false → is_open (e ∷ xs) n ≡ true → is_open xs n ≡ true
  open_before xs n other h = open_rest (closes e.event e.reply n) (e.number == n) e (unclosed xs n) other h

  reserved_before : (xs : List Entry) (n : ℕ) → (e.number == n) ≡ false → reserves (e ∷ xs) n ≡ true → reserves xs n ≡ true
  reserved_before xs n other h =
      either (is_open (e ∷ xs) n) (is_some (waits_for (e ∷ xs) n)) h
      (λ o. or_left (is_open xs n) (is_some (waits_for xs n)) (open_before xs n other o))
      (λ o. or_right (is_open xs n) (is_some (waits_for xs n)) (waits_rest (ends_waiting e.event e.reply n) (e.number == n) (joined e.reply) (waits_for xs n) other o))

  other_number : (xs : List Entry) → numbers_fall e.number xs ≡ true → (x : Entry) (q : List Entry) → IsAt xs x q → (e.number == x.number) ≡ false
  other_number xs f x q at = differ_above e.number x.number (numbers_below e.number xs x q f at)

  reserved_after : reserving (e ∷ w) ≡ reserving (e ∷ p)
  reserved_after =
      ap (λ (b : Bool). if b then e ∷ part (λ before (x : Entry). reserves (e ∷ w) x.number) w else part (λ before (x : Entry). reserves (e ∷ w) x.number) w) (reserves_after e.number)
      ∙ ap (λ (l : List Entry). if reserves (e ∷ p) e.number then e ∷ l else l)
      (reserving_kept (λ before (x : Entry). reserves w x.number) (reserves (e ∷ w)) w (λ x q at h. reserved_before w x.number (other_number w m.above x q at) h)
      ∙ (ap (part (λ before (x : Entry). reserves (e ∷ w) x.number)) k.opens.reserved
      ∙ (sym (reserving_kept (λ before (x : Entry). reserves p x.number) (reserves (e ∷ w)) p
      (λ x q at h. reserved_before p x.number (other_number p above x q at) (sym (reserves_after x.number) ∙ h)))
      ∙ reserving_same (reserves (e ∷ w)) (reserves (e ∷ p)) reserves_after p)))

  entry_after : (n : ℕ) → entry_at w n ≡ entry_at p n → entry_at (e ∷ w) n ≡ entry_at (e ∷ p) n
  entry_after n h = ap (λ (y : Option Entry). if e.number == n then Some e else y) h

  leads_after : (n : ℕ) → is_open (e ∷ w) n ≡ true → entry_at (e ∷ w) n ≡ entry_at (e ∷ p) n
  leads_after n h =
      cases (e.number == n)
      (λ is. if_true (e.number == n) (Some e) (entry_at w n) is ∙ sym (if_true (e.number == n) (Some e) (entry_at p n) is))
      (λ other. entry_after n (k.opens.leads n (open_before w n other h)))

  falls_after : (n i : ℕ) → is_open (e ∷ w) n ≡ true → has_fallen_under (e ∷ w) n i ≡ has_fallen_under (e ∷ p) n i
  falls_after n i h =
      ap (λ (b : Bool). falls_under e.event e.reply n i || b)
      (cases (e.number == n)
      (λ is. let own = equal_numbers e.number n is in
      fresh_falls e.number n i w m.above fits_w (omega arith) ∙ sym (fresh_falls e.number n i p above fits_p (omega arith)))
      (λ other. k.opens.falls n i (open_before w n other h)))

  picks_after : (n i : ℕ) → is_open (e ∷ w) n ≡ true → was_picked (e ∷ w) n i ≡ was_picked (e ∷ p) n i
  picks_after n i h =
      ap (λ (b : Bool). if is_pick_of e.event n then is_server e.reply i else b)
      (cases (e.number == n)
      (λ is. let own = equal_numbers e.number n is in
      fresh_picks e.number n i w m.above fits_w (omega arith) ∙ sym (fresh_picks e.number n i p above fits_p (omega arith)))
      (λ other. k.opens.picks n i (open_before w n other h)))

  voids_after : (n : ℕ) (own : Key) (answered : Answered) → is_open_request (e ∷ w) n ≡ true → void_since (e ∷ w) n own answered ≡ void_since (e ∷ p) n own answered
  voids_after n own answered h =
      cases (is_asking e n)
      (λ is. ap (λ (y : Option ℕ). if voids e.event own answered then Some e.number else y)
      (if_true (is_asking e n) None (void_since w n own answered) is ∙ sym (if_true (is_asking e n) None (void_since p n own answered) is)))
      (λ not_asking. ap (λ (y : Option ℕ). if voids e.event own answered then Some e.number else if is_asking e n then None else y)
      (k.opens.voids n own answered (request_rest (closes e.event e.reply n) (e.number == n) e (unclosed w n)
      (is_false (e.number == n) (λ is. not_true (sym not_asking ∙ or_left (e.number == n) (asks_again e.event e.reply n) is))) h)))

  opens_after : SameOpen (e ∷ w) (e ∷ p)
  opens_after = record {
    reserved = reserved_after;
    requests = requests_after;
    attempts = attempts_after;
    leads = leads_after;
    falls = falls_after;
    picks = picks_after;
    voids = voids_after;
  }

  read_entry : (r : ℕ) → read_with e.event e.reply ≡ Some r → entry_at w r ≡ entry_at p r
  read_entry r h = k.opens.leads r (m.about r (reader_named e.event e.reply r h))

  answer_after : answer_in w e ≡ answer_in p e
  answer_after = answer_kept w p e e.event (λ r h. key_kept w p r (read_entry r h))

  newest_after : (key : Key) → newest (e ∷ w) key ≡ newest (e ∷ p) key
  newest_after key =
      ap (λ (a : Option Standing). or_else (spoken key a) (newest w key)) answer_after
      ∙ ap (or_else (spoken key (answer_in p e))) (k.answers.is_newest key)

  -- the newest answer is this entry's, or was the newest before
  newest_before : (key : Key) (a : Standing) → newest (e ∷ w) key ≡ Some a → (a.number ≡ e.number) ⊎ (newest w key ≡ Some a)
  newest_before key a h = elim (else_some (spoken key (answer_in w e)) (newest w key) a h) [
    | inl s ↦ inl (answer_number w e e.event a (spoken_some key (answer_in w e) a s).0)
    | inr s ↦ inr s
  ]

  voided_after : (key : Key) (a : Standing) → newest (e ∷ w) key ≡ Some a → is_void_after (e ∷ w) a ≡ is_void_after (e ∷ p) a
  voided_after key a h = elim (newest_before key a h) [
    | inl own ↦ (let is = is_equal e.number a.number (sym own) in
        if_true (e.number == a.number) false (voids e.event a.own a.answered || is_void_after w a) is
        ∙ sym (if_true (e.number == a.number) false (voids e.event a.own a.answered || is_void_after p a) is))
    | inr old ↦ after_same (e.number == a.number) (voids e.event a.own a.answered) (is_void_after w a) (is_void_after p a) (k.answers.voided key a old)
  ]

  own_entry : (n : ℕ) → n ≡ e.number → entry_at (e ∷ w) n ≡ entry_at (e ∷ p) n
  own_entry n own = (let is = is_equal e.number n (sym own) in
      if_true (e.number == n) (Some e) (entry_at w n) is ∙ sym (if_true (e.number == n) (Some e) (entry_at p n) is))

  answers_after : SameAnswers (e ∷ w) (e ∷ p)
  answers_after = record {
    is_newest = newest_after;
    voided = voided_after;
    entries = λ key a h. elim (newest_before key a h) [
      | inl own ↦ own_entry a.number own
      | inr old ↦ entry_after a.number (k.answers.entries key a old)
    ];
  }

  waits_before : (t r : ℕ) → waits_for (e ∷ w) t ≡ Some r → (joined e.reply ≡ Some r) ⊎ (waits_for w t ≡ Some r)
  waits_before t r h = by (ends_waiting e.event e.reply t) (e.number == t) h
    where
      by : (c s : Bool) → (if c then None else if s then joined e.reply else waits_for w t) ≡ Some r → (joined e.reply ≡ Some r) ⊎ (waits_for w t ≡ Some r)
      by true s g = absurd (none_is_not r g)
      by false true g = inl g
      by false false g = inr g

  joins_after : (t r : ℕ) → waits_for (e ∷ w) t ≡ Some r → entry_at (e ∷ w) t ≡ entry_at (e ∷ p) t
  joins_after t r h =
      cases (e.number == t)
      (λ is. own_entry t (sym (equal_numbers e.number t is)))
      (λ other. entry_after t (by (waits_for w t) refl (waits_rest (ends_waiting e.event e.reply t) (e.number == t) (joined e.reply) (waits_for w t) other (ap is_some h))))
    where
      by : (o : Option ℕ) → waits_for w t ≡ o → is_some o ≡ true → entry_at w t ≡ entry_at p t
      by None is g = absurd (not_true g)
      by (Some q) is g = k.tickets.joins t q is

  -- a request that is closed after the entry, which did not close it, was closed before
  closed_before : (r : ℕ) → closes e.event e.reply r ≡ false → is_open_request (e ∷ w) r ≡ false → is_open_request w r ≡ false
  closed_before r c h =
      is_false (is_open_request w r)
      (λ o. not_true (sym h ∙ stays_open (closes e.event e.reply r) (e.number == r) e (unclosed w r) c
      (differ_above e.number r (not_open_above e.number r w m.above o)) o))

  -- so its ticket waited before
  waited_before : (t r : ℕ) → closes e.event e.reply r ≡ false → waits_for (e ∷ w) t ≡ Some r → is_open_request (e ∷ w) r ≡ false → waits_for w t ≡ Some r
  waited_before t r c h closed = elim (waits_before t r h) [
    | inl j ↦ clash (is_open_request w r) (m.joins r j).0 (closed_before r c closed)
    | inr o ↦ o
  ]

  outcomes_after : (t r : ℕ) → waits_for (e ∷ w) t ≡ Some r → is_open_request (e ∷ w) r ≡ false → outcome_of (e ∷ w) r ≡ outcome_of (e ∷ p) r
  outcomes_after t r h closed =
      cases (closes e.event e.reply r)
      (λ c. if_true (closes e.event e.reply r) (outcome_by e.number e.event e.reply) (outcome_of w r) c
      ∙ sym (if_true (closes e.event e.reply r) (outcome_by e.number e.event e.reply) (outcome_of p r) c))
      (λ c. ap (λ (o : Outcome). if closes e.event e.reply r then outcome_by e.number e.event e.reply else o)
      (k.tickets.outcomes t r (waited_before t r c h closed) (closed_before r c closed)))

  named_after : (t r n : ℕ) → waits_for (e ∷ w) t ≡ Some r → is_open_request (e ∷ w) r ≡ false → answer_of_outcome (outcome_of (e ∷ w) r) ≡ Some n →
      entry_at (e ∷ w) n ≡ entry_at (e ∷ p) n
  named_after t r n h closed names =
      cases (closes e.event e.reply r)
      (λ c. elim (outcome_kind e.number e.event e.reply r n c
      (sym (ap answer_of_outcome (if_true (closes e.event e.reply r) (outcome_by e.number e.event e.reply) (outcome_of w r) c)) ∙ names)) [
        | inl own ↦ own_entry n own.0
        | inr shut ↦ (let s = m.shuts n shut in
            entry_after n (ap (entry_at w) (sym s.1.1.1) ∙ (k.answers.entries s.0 s.1.0 s.1.1.0 ∙ ap (entry_at p) s.1.1.1)))
      ])
      (λ c. entry_after n (k.tickets.named t r n (waited_before t r c h closed) (closed_before r c closed)
      (sym (ap answer_of_outcome (if_false (closes e.event e.reply r) (outcome_by e.number e.event e.reply) (outcome_of w r) c)) ∙ names)))

  tickets_after : SameTickets (e ∷ w) (e ∷ p)
  tickets_after = record { waiting = waiting_after; joins = joins_after; outcomes = outcomes_after; named = named_after }

  login_after : (user : List ℕ) → login_by w user e.event e.reply ≡ login_by p user e.event e.reply
  login_after user = login_kept w p user e.event e.reply (λ a h. user_kept w p a (read_entry a h))

  accepts_after : (user : List ℕ) → accepts w user e.event e.reply ≡ accepts p user e.event e.reply
  accepts_after user = accepts_kept w p user e.event e.reply (λ a h. user_kept w p a (read_entry a h))

  last_after : (user : List ℕ) → wrong_count (e ∷ w) user ≢ 0 → last_wrong (e ∷ w) user ≡ last_wrong (e ∷ p) user
  last_after user some =
      cases (wrongs user e.event e.reply == 0)
      (λ z. ap (λ (y : Option ℕ). if wrongs user e.event e.reply == 0 then y else Some e.moment)
      (k.logins.last_wrongs user (λ none. some
      (counted_before (accepts w user e.event e.reply) (wrongs user e.event e.reply == 0) (wrongs user e.event e.reply) (wrong_count w user)
      (equal_numbers (wrongs user e.event e.reply) 0) z none))))
      (λ z. if_false (wrongs user e.event e.reply == 0) (last_wrong w user) (Some e.moment) z ∙ sym (if_false (wrongs user e.event e.reply == 0) (last_wrong p user) (Some e.moment) z))

  logins_after : SameLogins (e ∷ w) (e ∷ p)
  logins_after = record {
    hashes = λ user. ap (λ (o : Option Bool). or_earlier (only_hashed (login_in e o)) (hash_entry w user)) (login_after user)
        ∙ ap (or_earlier (only_hashed (login_in e (login_by p user e.event e.reply)))) (k.logins.hashes user);
    hashed = λ user l h. elim (earlier_some (only_hashed (login_in e (login_by w user e.event e.reply))) (hash_entry w user) l h) [
      | inl own ↦ own_entry l.number (login_some e (login_by w user e.event e.reply) l (hashed_some (login_in e (login_by w user e.event e.reply)) l own)).1.1
      | inr old ↦ entry_after l.number (k.logins.hashed user l old)
    ];
    logins = λ user. ap (λ (o : Option Bool). or_earlier (login_in e o) (last_online_login w user)) (login_after user)
        ∙ ap (or_earlier (login_in e (login_by p user e.event e.reply))) (k.logins.logins user);
    online = λ user l h. elim (earlier_some (login_in e (login_by w user e.event e.reply)) (last_online_login w user) l h) [
      | inl own ↦ own_entry l.number (login_some e (login_by w user e.event e.reply) l own).1.1
      | inr old ↦ entry_after l.number (k.logins.online user l old)
    ];
    wrongs = λ user. count_alike (accepts w user e.event e.reply) (accepts p user e.event e.reply) (wrongs user e.event e.reply) (wrong_count w user) (wrong_count p user)
        (accepts_after user) (k.logins.wrongs user);
    last_wrongs = last_after;
  }

  stop_if : (b : Bool) (n : ℕ) (x y : Option ℕ) → is_some x ≡ is_some y → is_some (if b then Some n else x) ≡ is_some (if b then Some n else y)
  stop_if true n x y h = refl
  stop_if false n x y h = h

  ends_after : SameEnds (e ∷ w) (e ∷ p)
  ends_after = record {
    lately = λ t i. ap (λ (b : Bool). if is_online e.event then false else (is_fall_of e.event e.reply i && nat_lt t (e.moment + 30)) || b) (k.ends.lately t i);
    word = ap (or_else (if is_word e then Some e else None)) k.ends.word;
    stopped = stop_if (is_stop e.event) e.number (last_where (λ (x : Entry). is_stop x.event) w) (last_where (λ (x : Entry). is_stop x.event) p) k.ends.stopped;
    number = λ next. refl;
    moment = λ floor t. refl;
  }

  more : (a b c : ℕ) → b ≤ c → a + b ≤ a + c
  more a b c h = omega arith

  -- a step keeps what is kept so
  pub kept_after : IsKeptOf (e ∷ w) (e ∷ p)
  kept_after = record {
    opens = opens_after;
    answers = answers_after;
    tickets = tickets_after;
    logins = logins_after;
    ends = ends_after;
    shorter = (let h = k.shorter in omega arith);
    texts = more (bytes_of_event e.event) (text_bytes p) (text_bytes w) k.texts;
  }
