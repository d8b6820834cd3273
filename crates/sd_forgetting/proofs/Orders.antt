-- A step keeps a journal orderly.
use Rattle.std.proofs.Common.{◌≡◌, ℕ, ◌<◌, ◌≤◌, ◌+◌, Bool, true, false, List, [], ◌∷◌, arith, refl, sym, ap, subst, ◌∙◌, inl, inr}
use Rattle.std.specs.Prelude.{Option, Some, None, not, max, is_some, nat_lt, nat_le, ◌==◌, ◌&&◌, ◌||◌, if◌then◌else◌}
use Rattle.std.proofs.lemmas.Bool.Decides.{nat_tests}
use Rattle.sd_rules.specs.declared.keys.Key.{Key}
use Rattle.sd_rules.specs.declared.records.Answered.{Answered}
use Rattle.sd_rules.specs.declared.records.Answered.TheVariants.{Found, Absent}
use Rattle.sd_rules.specs.declared.events.Event.{Event}
use Rattle.sd_rules.specs.declared.events.Event.TheVariants as events
use Rattle.sd_rules.specs.declared.events.Row.TheVariants as rows
use Rattle.sd_rules.specs.declared.replies.Entry.{Entry}
use Rattle.sd_rules.specs.declared.replies.Reply.{Reply}
use Rattle.sd_rules.specs.Keys.{same_key, record_speaks, speaks_of}
use Rattle.sd_rules.specs.Past.{Standing, or_else, is_closed, key_of, answer_under, answer_by, spoken, newest, records_outage, ends_outage}
use Rattle.sd_rules.specs.Requests.{closes, unclosed, has_opened_request, has_opened_attempt, is_open, is_open_request, ends_waiting, joined, waits_for, outcome_by, outcome_of}
use Rattle.sd_rules.specs.Needed.{answer_of_outcome, read_with}
use Rattle.sd_rules.specs.Steps.{Daemon, moment_after, next_number, moment_of, entry_made, is_steppable}
use Rattle.sd_forgetting.specs.Parts.{entry_at, IsAt, numbers_fall, moments_fall}
use Rattle.sd_forgetting.specs.Orderly.{is_below, leads_or_other, are_leads, names_leads, named_by, is_ask, is_lead, entry_fits, entries_fit, is_answer, holds_answer, is_word, last_word, closed_or_open, IsNewestAnswer, IsOrderly}
use Rattle.sd_forgetting.proofs.Tests.{not_true, none_is_not, same_some, both, or_left, or_right, second_holds, cases, clash, is_false, if_true, if_false, equal_numbers, is_equal, less, differ_above}
use Rattle.sd_forgetting.proofs.Places.{found_at, at_is_entry, one_of_number, numbers_below}
use Rattle.sd_forgetting.proofs.Opens.{opened_some, unclosed_at, closed_by}
use Rattle.sd_rules.proofs.SameKeys.{same_key_same}
use Rattle.sd_forgetting.proofs.Answers.{newest_at}
use Rattle.sd_forgetting.proofs.Quiet.{closes_named, reader_named}
use Rattle.sd_forgetting.proofs.Whys.{fits_at, about_below}
use Rattle.sd_forgetting.proofs.Steps.{outcome_kind}
use Rattle.sd_forgetting.proofs.Made.{IsMade, is_held, made_over}

-- a key speaks of itself
own_speaks : (own : Key) (answered : Answered) → speaks_of own answered own ≡ true
own_speaks own Absent = same_key_same own
own_speaks own (Found found) = or_left (same_key own own) (record_speaks found own) (same_key_same own)

answer_is : (event : Event) (reply : Reply) → is_held event ≡ false → is_answer event reply ≡ true → (r : ℕ) × ((answered : Answered) × ((event ≡ events.Answer r answered) × (is_closed reply ≡ true)))
answer_is (events.Answer r answered) reply f h = (r, (answered, (refl, h)))
answer_is (events.Kept row) reply f h = absurd (not_true (sym f))
answer_is _ reply f h = absurd (not_true h)

answer_is_word : (event : Event) (reply : Reply) → is_held event ≡ false → is_answer event reply ≡ true → (records_outage event reply || ends_outage event reply) ≡ true
answer_is_word (events.Answer r answered) reply f h = h
answer_is_word (events.Kept row) reply f h = absurd (not_true (sym f))
answer_is_word _ reply f h = absurd (not_true h)

-- no answer but where the entry holds one
no_answer_if : (c : Bool) (e : Entry) (answered : Answered) (own : Option Key) → c ≡ false → (if c then answer_under e answered own else None) ≡ None
no_answer_if true e answered own h = absurd (not_true (sym h))
no_answer_if false e answered own h = refl

no_answer : (past : List Entry) (e : Entry) (event : Event) → is_answer event e.reply ≡ false → answer_by past e event ≡ None
no_answer past e (events.Answer r answered) h = no_answer_if (is_closed e.reply) e answered (key_of past r) h
no_answer past e (events.Kept (rows.Answer n m own answered marked)) h = absurd (not_true (sym h))
no_answer past e _ h = refl

-- where an answer is given, its entry holds one
answer_held : (past : List Entry) (e : Entry) (event : Event) (a : Standing) → answer_by past e event ≡ Some a → is_answer event e.reply ≡ true
answer_held past e (events.Answer r answered) a h =
    cases (is_closed e.reply) (λ c. c) (λ c. absurd (none_is_not a (sym (no_answer_if (is_closed e.reply) e answered (key_of past r) c) ∙ h)))
answer_held past e (events.Kept (rows.Answer n m own answered marked)) a h = refl
answer_held past e _ a h = absurd (none_is_not a h)

made_answer : (past : List Entry) (e : Entry) (r : ℕ) (answered : Answered) (own : Key) → is_closed e.reply ≡ true → key_of past r ≡ Some own → (event : Event) → event ≡ events.Answer r answered →
    answer_by past e event ≡ Some (record { number = e.number; moment = e.moment; own = own; answered = answered; marked = false })
made_answer past e r answered own c k event is =
    ap (answer_by past e) is
    ∙ (if_true (is_closed e.reply) (answer_under e answered (key_of past r)) None c ∙ ap (answer_under e answered) k)

leads_all : (n : ℕ) (xs : List Entry) → ((x : Entry) (q : List Entry) → IsAt xs x q → x.number ≡ n → is_lead x ≡ true) →
    ((x : Entry) (q : List Entry) → IsAt xs x q → closes x.event x.reply n ≡ false) → are_leads n xs ≡ true
leads_all n [] f g = refl
leads_all n (x ∷ xs) f g =
    both (leads_or_other n x) (are_leads n xs)
    (both (not (x.number == n) || is_lead x) (not (closes x.event x.reply n))
    (cases (x.number == n)
    (λ is. or_right (not (x.number == n)) (is_lead x) (f x xs (inl (refl, refl)) (equal_numbers x.number n is)))
    (λ other. or_left (not (x.number == n)) (is_lead x) (ap not other)))
    (ap not (g x xs (inl (refl, refl)))))
    (leads_all n xs (λ y q at. f y q (inr at)) (λ y q at. g y q (inr at)))

open_below : (b r : ℕ) (xs : List Entry) → numbers_fall b xs ≡ true → is_open xs r ≡ true → r < b
open_below b r xs f h =
    let v = opened_some (unclosed xs r) h in
    let u = unclosed_at xs r v.0 v.1 in
    subst (λ (n : ℕ). n < b) u.number (numbers_below b xs v.0 u.past f u.at)

open_leads : (b r : ℕ) (xs : List Entry) → numbers_fall b xs ≡ true → entries_fit xs ≡ true → is_open xs r ≡ true → are_leads r xs ≡ true
open_leads b r xs f g h =
    let v = opened_some (unclosed xs r) h in
    let u = unclosed_at xs r v.0 v.1 in
    leads_all r xs
    (λ x q at is. let one = one_of_number b xs x q v.0 u.past f at u.at (is ∙ sym u.number) in
    ap is_lead one.0 ∙ (sym (ap (λ (y : Option Entry). has_opened_request y || has_opened_attempt y) v.1) ∙ h))
    (λ x q at. is_false (closes x.event x.reply r)
    (λ c. none_is_not v.0
    (sym (closed_by b r xs x q f at c (about_below q x r (fits_at xs x q g at) (closes_named x.event x.reply r c))) ∙ v.1)))

asks_or : (j a : Bool) → (j ≡ true → a ≡ true) → (not j || a) ≡ true
asks_or true a f = f refl
asks_or false a f = refl

stays_opened : (c s : Bool) (x : Entry) (y : Option Entry) → c ≡ false → s ≡ false → (has_opened_request y || has_opened_attempt y) ≡ true →
    (has_opened_request (if c then None else if s then Some x else y) || has_opened_attempt (if c then None else if s then Some x else y)) ≡ true
stays_opened true s x y f g h = absurd (not_true (sym f))
stays_opened false true x y f g h = absurd (not_true (sym g))
stays_opened false false x y f g h = h

at_or_before : (m n : ℕ) → m ≤ n → nat_le m n ≡ true
at_or_before m n h = grind (arith, nat_tests)

moments_from : (floor now latest : ℕ) (xs : List Entry) → moments_fall latest xs ≡ true → moments_fall (moment_after floor xs now) xs ≡ true
moments_from floor now latest [] f = refl
moments_from floor now latest (x ∷ xs) f =
    both (nat_le x.moment (max (max now floor) x.moment)) (moments_fall x.moment xs) (at_or_before x.moment (max (max now floor) x.moment) (omega arith))
    (second_holds (nat_le x.moment latest) (moments_fall x.moment xs) f)

module _ (next : ℕ) (w : List Entry) (e : Entry) (o : IsOrderly next w) (m : IsMade w e) where
  fits_here : entry_fits w e ≡ true
  fits_here =
      both (is_below (named_by e.event e.reply) e.number && names_leads (named_by e.event e.reply) w) (not (is_some (joined e.reply)) || is_ask e.event)
      (by_name (named_by e.event e.reply) refl)
      (asks_or (is_some (joined e.reply)) (is_ask e.event) (by_join (joined e.reply) refl))
    where
      by_name : (n : Option ℕ) → named_by e.event e.reply ≡ n → (is_below n e.number && names_leads n w) ≡ true
      by_name None is = refl
      by_name (Some r) is =
          both (nat_lt r e.number) (are_leads r w) (less r e.number (open_below e.number r w m.above (m.about r is))) (open_leads e.number r w m.above o.fits (m.about r is))

      by_join : (j : Option ℕ) → joined e.reply ≡ j → is_some j ≡ true → is_ask e.event ≡ true
      by_join None is h = absurd (not_true h)
      by_join (Some r) is h = (m.joins r is).1

  head_here : closed_or_open e (e ∷ w) (read_with e.event e.reply) ≡ true
  head_here = by_reader (read_with e.event e.reply) refl
    where
      by_reader : (r : Option ℕ) → read_with e.event e.reply ≡ r → closed_or_open e (e ∷ w) r ≡ true
      by_reader None is = refl
      by_reader (Some r) is =
          (let was_open = m.about r (reader_named e.event e.reply r is) in
          cases (closes e.event e.reply r)
          (λ c. or_left (closes e.event e.reply r) (is_open (e ∷ w) r) c)
          (λ c. or_right (closes e.event e.reply r) (is_open (e ∷ w) r)
          (stays_opened (closes e.event e.reply r) (e.number == r) e (unclosed w r) c (differ_above e.number r (open_below e.number r w m.above was_open)) was_open)))

  -- an answer that ends the last outage is the newest of its key
  own_newest : is_answer e.event e.reply ≡ true → IsNewestAnswer (e ∷ w) e.number
  own_newest h =
      let a = answer_is e.event e.reply m.stepped h in
      let own = m.keyed a.0 a.1.0 a.1.1.0 a.1.1.1 in
      let given = made_answer w e a.0 a.1.0 own.0 a.1.1.1 own.1 e.event a.1.1.0 in
      let answer : Standing = record { number = e.number; moment = e.moment; own = own.0; answered = a.1.0; marked = false } in
      record {
        own = own.0;
        answer = answer;
        is_newest = ap (λ (x : Option Standing). or_else (spoken own.0 x) (newest w own.0)) given
            ∙ ap (λ (x : Option Standing). or_else x (newest w own.0)) (if_true (speaks_of own.0 a.1.0 own.0) (Some answer) None (own_speaks own.0 a.1.0));
        number = refl;
      }

  ended_here : (x : Entry) → last_word (e ∷ w) ≡ Some x → is_answer x.event x.reply ≡ true → IsNewestAnswer (e ∷ w) x.number
  ended_here x is h =
      cases (is_word e)
      (λ t. let same : e ≡ x = same_some e x (sym (ap (λ (y : Option Entry). or_else y (last_word w)) (if_true (is_word e) (Some e) None t)) ∙ is) in
      subst (λ (y : Entry). IsNewestAnswer (e ∷ w) y.number) same (own_newest (ap (λ (y : Entry). is_answer y.event y.reply) same ∙ h)))
      (λ t. let n = o.ended x (sym (ap (λ (y : Option Entry). or_else y (last_word w)) (if_false (is_word e) (Some e) None t)) ∙ is) h in
      let none = no_answer w e e.event (is_false (is_answer e.event e.reply) (λ a. not_true (sym t ∙ answer_is_word e.event e.reply m.stepped a))) in
      record {
        own = n.own;
        answer = n.answer;
        is_newest = ap (λ (y : Option Standing). or_else (spoken n.own y) (newest w n.own)) none ∙ n.is_newest;
        number = n.number;
      })

  holds_if : (s : Bool) (y : Option Entry) → (s ≡ true → is_answer e.event e.reply ≡ true) → (s ≡ false → holds_answer y ≡ true) → holds_answer (if s then Some e else y) ≡ true
  holds_if true y f g = f refl
  holds_if false y f g = g refl

  below_holds : (n : ℕ) → holds_answer (entry_at w n) ≡ true → n < e.number → holds_answer (entry_at (e ∷ w) n) ≡ true
  below_holds n h low =
      holds_if (e.number == n) (entry_at w n) (λ is. absurd (not_true (sym (differ_above e.number n low) ∙ is))) (λ _. h)

  stays_closed : (r : ℕ) → closes e.event e.reply r ≡ false → is_open_request (e ∷ w) r ≡ false → is_open_request w r ≡ false
  stays_closed r c h =
      is_false (is_open_request w r)
      (λ q. not_true (sym h ∙ by_parts (closes e.event e.reply r) (e.number == r) c (differ_above e.number r (request_below r q)) q))
    where
      by_parts : (a b : Bool) → a ≡ false → b ≡ false → has_opened_request (unclosed w r) ≡ true → has_opened_request (if a then None else if b then Some e else unclosed w r) ≡ true
      by_parts true b f g q = absurd (not_true (sym f))
      by_parts false true f g q = absurd (not_true (sym g))
      by_parts false false f g q = q

      request_below : (n : ℕ) → is_open_request w n ≡ true → n < e.number
      request_below n q = open_below e.number n w m.above (or_left (is_open_request w n) (has_opened_attempt (unclosed w n)) q)

  waited : (t r : ℕ) → waits_for (e ∷ w) t ≡ Some r → is_open_request w r ≡ false → waits_for w t ≡ Some r
  waited t r h closed = by (ends_waiting e.event e.reply t) (e.number == t) h
    where
      by : (c s : Bool) → (if c then None else if s then joined e.reply else waits_for w t) ≡ Some r → waits_for w t ≡ Some r
      by true s g = absurd (none_is_not r g)
      by false true g = clash (is_open_request w r) (m.joins r g).0 closed
      by false false g = g

  -- an answer that the newest of a key is stands in the journal, and holds an answer
  newest_holds : (k : Key) (a : Standing) → newest w k ≡ Some a → (holds_answer (entry_at w a.number) ≡ true) × (a.number < e.number)
  newest_holds k a is =
      let n = newest_at w k a is in (
        ap holds_answer (ap (entry_at w) n.number ∙ at_is_entry next w n.entry n.past o.numbers n.at) ∙ answer_held n.past n.entry n.entry.event a n.answer,
        subst (λ (i : ℕ). i < e.number) (sym n.number) (numbers_below e.number w n.entry n.past m.above n.at),
      )

  entry_below : (n : ℕ) → holds_answer (entry_at w n) ≡ true → n < e.number
  entry_below n h = by (entry_at w n) refl h
    where
      by : (y : Option Entry) → entry_at w n ≡ y → holds_answer y ≡ true → n < e.number
      by None is g = absurd (not_true g)
      by (Some y) is g = (let f = found_at w n y is in subst (λ (i : ℕ). i < e.number) f.1.1 (numbers_below e.number w y f.0 m.above f.1.0))

  named_here : (t r n : ℕ) → waits_for (e ∷ w) t ≡ Some r → is_open_request (e ∷ w) r ≡ false → answer_of_outcome (outcome_of (e ∷ w) r) ≡ Some n → holds_answer (entry_at (e ∷ w) n) ≡ true
  named_here t r n h closed names =
      cases (closes e.event e.reply r)
      (λ c. elim (outcome_kind e.number e.event e.reply r n c
      (sym (ap answer_of_outcome (if_true (closes e.event e.reply r) (outcome_by e.number e.event e.reply) (outcome_of w r) c)) ∙ names)) [
        | inl own ↦ holds_if (e.number == n) (entry_at w n) (λ _. own.1) (λ other. absurd (not_true (sym other ∙ is_equal e.number n (sym own.0))))
        | inr shut ↦ (let s = m.shuts n shut in
            let held = newest_holds s.0 s.1.0 s.1.1.0 in
            below_holds n (ap (λ (i : ℕ). holds_answer (entry_at w i)) (sym s.1.1.1) ∙ held.0) (subst (λ (i : ℕ). i < e.number) s.1.1.1 held.1))
      ])
      (λ c. let was_closed = stays_closed r c closed in
      let held = o.named t r n (waited t r h was_closed) was_closed
      (sym (ap answer_of_outcome (if_false (closes e.event e.reply r) (outcome_by e.number e.event e.reply) (outcome_of w r) c)) ∙ names) in
      below_holds n held (entry_below n held))

  pub orderly_made : (latest : ℕ) → e.moment ≡ latest → moments_fall latest w ≡ true → IsOrderly (e.number + 1) (e ∷ w)
  orderly_made latest is f = record {
    numbers = both (nat_lt e.number (e.number + 1)) (numbers_fall e.number w) (less e.number (e.number + 1) (omega arith)) m.above;
    latest = latest;
    moments = both (nat_le e.moment latest) (moments_fall e.moment w) (at_or_before e.moment latest (omega arith)) (ap (λ (n : ℕ). moments_fall n w) is ∙ f);
    fits = both (entry_fits w e) (entries_fit w) fits_here o.fits;
    head = head_here;
    ended = ended_here;
    named = named_here;
  }

-- a step keeps a journal orderly
pub orderly_after : (d : Daemon) (now : ℕ) (event : Event) → is_steppable d.past event ≡ true → IsOrderly d.next d.past → IsOrderly (next_number d + 1) (entry_made d now event ∷ d.past)
orderly_after d now event h o =
    orderly_made d.next d.past (entry_made d now event) o (made_over d now event h o.numbers) (moment_of d now) refl (moments_from d.floor now o.latest d.past o.moments)

-- a journal without entries is orderly
pub orderly_first : (next : ℕ) → IsOrderly next []
orderly_first next = record {
  numbers = refl;
  latest = 0;
  moments = refl;
  fits = refl;
  head = refl;
  ended = λ e h a. absurd (none_is_not e h);
  named = λ t r n w c h. absurd (none_is_not r w);
}
