-- Tickets that wait, and what they will take, are the same in a part that keeps what they look at.
use Rattle.std.proofs.Common.{◌≡◌, ℕ, Bool, true, false, List, [], ◌∷◌, refl, sym, ap, ◌∙◌, inl, inr}
use Rattle.std.specs.Prelude.{Option, Some, None, is_some, ◌==◌, if◌then◌else◌}
use Rattle.sd_rules.specs.declared.replies.Entry.{Entry}
use Rattle.sd_rules.specs.declared.replies.Outcome.{Outcome}
use Rattle.sd_rules.specs.declared.replies.Outcome.TheVariants as outcomes
use Rattle.sd_rules.specs.Past.{or_else}
use Rattle.sd_rules.specs.Requests.{closes, ends_waiting, joined, waits_for, outcome_by, outcome_of}
use Rattle.sd_rules.specs.Needed.{is_number, closing_of, answer_of_outcome, serves_ticket, serves_waiting}
use Rattle.sd_forgetting.specs.Parts.{part, entry_at, last_entry, IsAt}
use Rattle.sd_forgetting.proofs.Tests.{not_true, none_is_not, or_left, or_right, cases, clash, equal_numbers, is_equal, same_number}
use Rattle.sd_forgetting.proofs.Places.{part_law, entry_kept, was_kept}
use Rattle.sd_forgetting.proofs.Lasts.{number_in, where_is_entry, last_same}

past_others : (c : Bool) (x : Option ℕ) (s : Bool) (y : Option ℕ) → c ≡ false → s ≡ false → (if c then None else if s then x else y) ≡ y
past_others true x s y f g = absurd (not_true (sym f))
past_others false x true y f g = absurd (not_true (sym g))
past_others false x false y f g = refl

at_join : (c : Bool) (x : Option ℕ) (s : Bool) (y : Option ℕ) → c ≡ false → s ≡ true → (if c then None else if s then x else y) ≡ x
at_join true x s y f g = absurd (not_true (sym f))
at_join false x true y f g = refl
at_join false x false y f g = absurd (not_true g)

at_end : (c : Bool) (x : Option ℕ) (s : Bool) (y : Option ℕ) → c ≡ true → (if c then None else if s then x else y) ≡ None
at_end true x s y f = refl
at_end false x s y f = absurd (not_true f)

-- the entry of a ticket that waits
pub record Waiter (xs : List Entry) (t r : ℕ) : Type 0 where
  pub entry : Entry
  pub past : List Entry
  pub at : IsAt xs entry past
  pub number : entry.number ≡ t
  pub joins : joined entry.reply ≡ Some r

pub waiter_at : (xs : List Entry) (t r : ℕ) → waits_for xs t ≡ Some r → Waiter xs t r
waiter_at [] t r h = absurd (none_is_not r h)
waiter_at (x ∷ xs) t r h =
    cases (ends_waiting x.event x.reply t)
    (λ c. absurd (none_is_not r (sym (at_end (ends_waiting x.event x.reply t) (joined x.reply) (x.number == t) (waits_for xs t) c) ∙ h)))
    (λ c. cases (x.number == t)
    (λ is. record {
      entry = x;
      past = xs;
      at = inl (refl, refl);
      number = equal_numbers x.number t is;
      joins = sym (at_join (ends_waiting x.event x.reply t) (joined x.reply) (x.number == t) (waits_for xs t) c is) ∙ h;
    })
    (λ no. let w = waiter_at xs t r (sym (past_others (ends_waiting x.event x.reply t) (joined x.reply) (x.number == t) (waits_for xs t) c no) ∙ h) in
    record { entry = w.entry; past = w.past; at = inr w.at; number = w.number; joins = w.joins }))

waiting_stays : (keep : List Entry → Entry → Bool) (t r : ℕ) (xs : List Entry) → ((e : Entry) (past : List Entry) → IsAt xs e past → e.number ≡ t → keep past e ≡ true) →
    waits_for xs t ≡ Some r → waits_for (part keep xs) t ≡ Some r
waiting_stays keep t r [] k h = h
waiting_stays keep t r (x ∷ xs) k h =
    cases (ends_waiting x.event x.reply t)
    (λ c. absurd (none_is_not r (sym (at_end (ends_waiting x.event x.reply t) (joined x.reply) (x.number == t) (waits_for xs t) c) ∙ h)))
    (λ c. cases (x.number == t)
    (λ is. part_law (λ (l : List Entry). waits_for l t ≡ Some r) (keep xs x) x (part keep xs)
    (λ _. at_join (ends_waiting x.event x.reply t) (joined x.reply) (x.number == t) (waits_for (part keep xs) t) c is
    ∙ (sym (at_join (ends_waiting x.event x.reply t) (joined x.reply) (x.number == t) (waits_for xs t) c is) ∙ h))
    (λ dropped. clash (keep xs x) (k x xs (inl (refl, refl)) (equal_numbers x.number t is)) dropped))
    (λ no. let rest = waiting_stays keep t r xs (λ e past at. k e past (inr at))
    (sym (past_others (ends_waiting x.event x.reply t) (joined x.reply) (x.number == t) (waits_for xs t) c no) ∙ h) in
    part_law (λ (l : List Entry). waits_for l t ≡ Some r) (keep xs x) x (part keep xs)
    (λ _. past_others (ends_waiting x.event x.reply t) (joined x.reply) (x.number == t) (waits_for (part keep xs) t) c no ∙ rest)
    (λ _. rest)))

same_option : (x y : Option ℕ) → ((r : ℕ) → x ≡ Some r → y ≡ Some r) → ((r : ℕ) → y ≡ Some r → is_some x ≡ true) → x ≡ y
same_option (Some r) y f g = sym (f r refl)
same_option None None f g = refl
same_option None (Some r) f g = absurd (not_true (g r refl))

-- the outcome of a request, by its closing entry
abbrev pub outcome_from : ℕ → Option Entry → Outcome
outcome_from r None = outcomes.Dropped r
outcome_from r (Some e) = outcome_by e.number e.event e.reply

outcome_if : (c : Bool) (r : ℕ) (x : Entry) (y : Outcome) (o : Option Entry) → y ≡ outcome_from r o →
    (if c then outcome_by x.number x.event x.reply else y) ≡ outcome_from r (or_else (if c then Some x else None) o)
outcome_if true r x y o h = refl
outcome_if false r x y o h = h

pub outcome_is_from : (r : ℕ) (xs : List Entry) → outcome_of xs r ≡ outcome_from r (last_entry (λ (e : Entry). closes e.event e.reply r) xs)
outcome_is_from r [] = refl
outcome_is_from r (x ∷ xs) =
    outcome_if (closes x.event x.reply r) r x (outcome_of xs r) (last_entry (λ (e : Entry). closes e.event e.reply r) xs) (outcome_is_from r xs)

serving_there : (all : List Entry) (n : ℕ) (xs : List Entry) (y : Entry) (q : List Entry) → IsAt xs y q → serves_ticket all n (waits_for all y.number) ≡ true → serves_waiting all n xs ≡ true
serving_there all n [] y q at s = absurd at
serving_there all n (x ∷ xs) y q (inl p) s =
    or_left (serves_ticket all n (waits_for all x.number)) (serves_waiting all n xs) (ap (λ (z : Entry). serves_ticket all n (waits_for all z.number)) p.0 ∙ s)
serving_there all n (x ∷ xs) y q (inr p) s =
    or_right (serves_ticket all n (waits_for all x.number)) (serves_waiting all n xs) (serving_there all n xs y q p s)

serving : (all : List Entry) (n t r : ℕ) → waits_for all t ≡ Some r → serves_ticket all n (Some r) ≡ true → serves_waiting all n all ≡ true
serving all n t r w s =
    let x = waiter_at all t r w in
    serving_there all n all x.entry x.past x.at (ap (λ (m : ℕ). serves_ticket all n (waits_for all m)) x.number ∙ (ap (serves_ticket all n) w ∙ s))

module _
    (all : List Entry) (keep : List Entry → Entry → Bool)
    (waiting_kept : (e : Entry) (past : List Entry) → IsAt all e past → is_some (waits_for all e.number) ≡ true → keep past e ≡ true) where
  waiting_number : (t r : ℕ) → waits_for all t ≡ Some r → (e : Entry) (past : List Entry) → IsAt all e past → e.number ≡ t → keep past e ≡ true
  waiting_number t r w e past at is = waiting_kept e past at (ap (λ (n : ℕ). is_some (waits_for all n)) is ∙ ap is_some w)

  pub tickets_same : ((e : Entry) (past : List Entry) → IsAt all e past → keep past e ≡ true → is_some (joined e.reply) ≡ true → is_some (waits_for all e.number) ≡ true) →
      (t : ℕ) → waits_for all t ≡ waits_for (part keep all) t
  tickets_same why t =
      same_option (waits_for all t) (waits_for (part keep all) t)
      (λ r w. waiting_stays keep t r all (waiting_number t r w) w)
      (λ r w. let x = waiter_at (part keep all) t r w in
      let k = was_kept keep all x.entry x.past x.at in
      ap (λ (n : ℕ). is_some (waits_for all n)) (sym x.number) ∙ why x.entry k.past k.at k.kept (ap is_some x.joins))

  pub joins_same : (t r : ℕ) → waits_for all t ≡ Some r → entry_at all t ≡ entry_at (part keep all) t
  joins_same t r w = entry_kept keep t all (waiting_number t r w)

  module _ (served_kept : (e : Entry) (past : List Entry) → IsAt all e past → serves_waiting all e.number all ≡ true → keep past e ≡ true) (t r : ℕ) (w : waits_for all t ≡ Some r) where
    pub outcomes_same : outcome_of all r ≡ outcome_of (part keep all) r
    outcomes_same =
        outcome_is_from r all
        ∙ (ap (outcome_from r) (last_same keep (λ (e : Entry). closes e.event e.reply r) all
        (λ e past at c is. served_kept e past at (serving all e.number t r w
        (or_left (is_number e.number (closing_of all r)) (is_number e.number (answer_of_outcome (outcome_of all r)))
        (ap (is_number e.number) (where_is_entry (λ (x : Entry). closes x.event x.reply r) all ∙ ap number_in is) ∙ same_number e.number)))))
        ∙ sym (outcome_is_from r (part keep all)))

    pub named_same : (n : ℕ) → answer_of_outcome (outcome_of all r) ≡ Some n → entry_at all n ≡ entry_at (part keep all) n
    named_same n h =
        entry_kept keep n all
        (λ e past at is. served_kept e past at (serving all e.number t r w
        (or_right (is_number e.number (closing_of all r)) (is_number e.number (answer_of_outcome (outcome_of all r)))
        (ap (is_number e.number) h ∙ is_equal n e.number (sym is)))))
