-- What is open in a journal is open in a part that keeps what is open, and every entry that closes one that is kept.
use Rattle.std.proofs.Common.{◌≡◌, ℕ, ◌<◌, Bool, true, false, List, [], ◌∷◌, arith, refl, sym, ap, subst, ◌∙◌, inl, inr}
use Rattle.std.specs.Prelude.{Option, Some, None, nat_lt, ◌⊎◌, ◌==◌, ◌||◌, if◌then◌else◌}
use Rattle.sd_rules.specs.declared.replies.Entry.{Entry}
use Rattle.sd_rules.specs.Requests.{closes, unclosed, opens_request, opens_attempt, has_opened_request, has_opened_attempt, is_open, is_open_request, is_open_attempt}
use Rattle.sd_forgetting.specs.Parts.{part, entry_at, IsAt, numbers_fall}
use Rattle.sd_forgetting.specs.Orderly.{is_lead}
use Rattle.sd_forgetting.proofs.Tests.{not_true, none_is_not, same_some, second_holds, or_left, or_right, cases, clash, both_ways, equal_numbers, differ_above}
use Rattle.sd_forgetting.proofs.Places.{part_law, falls_in_part, entry_kept, kept_at, was_kept, one_of_number, numbers_below}

-- an entry that is kept and closes a number below its own
pub record Closer (all : List Entry) (keep : List Entry → Entry → Bool) (n : ℕ) : Type 0 where
  pub entry : Entry
  pub past : List Entry
  pub at : IsAt all entry past
  pub kept : keep past entry ≡ true
  pub closing : closes entry.event entry.reply n ≡ true
  pub above : n < entry.number

past_others : (c : Bool) (x : Entry) (s : Bool) (y : Option Entry) → c ≡ false → s ≡ false → (if c then None else if s then Some x else y) ≡ y
past_others true x s y f g = absurd (not_true (sym f))
past_others false x true y f g = absurd (not_true (sym g))
past_others false x false y f g = refl

at_lead : (c : Bool) (x : Entry) (s : Bool) (y : Option Entry) → c ≡ false → s ≡ true → (if c then None else if s then Some x else y) ≡ Some x
at_lead true x s y f g = absurd (not_true (sym f))
at_lead false x true y f g = refl
at_lead false x false y f g = absurd (not_true g)

at_closing : (c : Bool) (x : Entry) (s : Bool) (y : Option Entry) → c ≡ true → (if c then None else if s then Some x else y) ≡ None
at_closing true x s y f = refl
at_closing false x s y f = absurd (not_true f)

-- which entry is not closed
pub record Unclosed (xs : List Entry) (n : ℕ) (y : Entry) : Type 0 where
  pub past : List Entry
  pub at : IsAt xs y past
  pub number : y.number ≡ n

pub unclosed_at : (xs : List Entry) (n : ℕ) (y : Entry) → unclosed xs n ≡ Some y → Unclosed xs n y
unclosed_at [] n y h = absurd (none_is_not y h)
unclosed_at (x ∷ xs) n y h =
    cases (closes x.event x.reply n)
    (λ c. absurd (none_is_not y (sym (at_closing (closes x.event x.reply n) x (x.number == n) (unclosed xs n) c) ∙ h)))
    (λ c. cases (x.number == n)
    (λ is. let same : x ≡ y = same_some x y (sym (at_lead (closes x.event x.reply n) x (x.number == n) (unclosed xs n) c is) ∙ h) in
    record { past = xs; at = inl (same, refl); number = ap (λ (z : Entry). z.number) (sym same) ∙ equal_numbers x.number n is })
    (λ no. let u = unclosed_at xs n y (sym (past_others (closes x.event x.reply n) x (x.number == n) (unclosed xs n) c no) ∙ h) in
    record { past = u.past; at = inr u.at; number = u.number }))

-- what nothing closes in the whole nothing closes in the part
pub unclosed_kept : (keep : List Entry → Entry → Bool) (n : ℕ) (y : Entry) (xs : List Entry) →
    ((e : Entry) (past : List Entry) → IsAt xs e past → e.number ≡ n → keep past e ≡ true) → unclosed xs n ≡ Some y → unclosed (part keep xs) n ≡ Some y
unclosed_kept keep n y [] k h = h
unclosed_kept keep n y (x ∷ xs) k h =
    cases (closes x.event x.reply n)
    (λ c. absurd (none_is_not y (sym (at_closing (closes x.event x.reply n) x (x.number == n) (unclosed xs n) c) ∙ h)))
    (λ c. cases (x.number == n)
    (λ is. part_law (λ (l : List Entry). unclosed l n ≡ Some y) (keep xs x) x (part keep xs)
    (λ _. at_lead (closes x.event x.reply n) x (x.number == n) (unclosed (part keep xs) n) c is ∙ (sym (at_lead (closes x.event x.reply n) x (x.number == n) (unclosed xs n) c is) ∙ h))
    (λ dropped. clash (keep xs x) (k x xs (inl (refl, refl)) (equal_numbers x.number n is)) dropped))
    (λ no. let rest = unclosed_kept keep n y xs (λ e past at. k e past (inr at)) (sym (past_others (closes x.event x.reply n) x (x.number == n) (unclosed xs n) c no) ∙ h) in
    part_law (λ (l : List Entry). unclosed l n ≡ Some y) (keep xs x) x (part keep xs)
    (λ _. past_others (closes x.event x.reply n) x (x.number == n) (unclosed (part keep xs) n) c no ∙ rest)
    (λ _. rest)))

-- an entry that closes a number below its own has it closed
pub closed_by : (b : ℕ) (n : ℕ) (xs : List Entry) (e : Entry) (past : List Entry) → numbers_fall b xs ≡ true → IsAt xs e past → closes e.event e.reply n ≡ true → n < e.number →
    unclosed xs n ≡ None
closed_by b n [] e past f at c low = absurd at
closed_by b n (x ∷ xs) e past f (inl p) c low =
    at_closing (closes x.event x.reply n) x (x.number == n) (unclosed xs n) (ap (λ (y : Entry). closes y.event y.reply n) p.0 ∙ c)
closed_by b n (x ∷ xs) e past f (inr p) c low =
    let falls = second_holds (nat_lt x.number b) (numbers_fall x.number xs) f in
    let below = numbers_below x.number xs e past falls p in
    cases (closes x.event x.reply n)
    (λ h. at_closing (closes x.event x.reply n) x (x.number == n) (unclosed xs n) h)
    (λ h. past_others (closes x.event x.reply n) x (x.number == n) (unclosed xs n) h (differ_above x.number n (let deep : n < x.number = omega arith in deep))
    ∙ closed_by x.number n xs e past falls p c low)

pub opened_some : (u : Option Entry) → (has_opened_request u || has_opened_attempt u) ≡ true → (y : Entry) × (u ≡ Some y)
opened_some None h = absurd (not_true h)
opened_some (Some y) h = (y, refl)

pub request_some : (u : Option Entry) → has_opened_request u ≡ true → (y : Entry) × (u ≡ Some y)
request_some None h = absurd (not_true h)
request_some (Some y) h = (y, refl)

pub attempt_some : (u : Option Entry) → has_opened_attempt u ≡ true → (y : Entry) × (u ≡ Some y)
attempt_some None h = absurd (not_true h)
attempt_some (Some y) h = (y, refl)

module _
    (all : List Entry) (keep : List Entry → Entry → Bool) (b : ℕ) (falls : numbers_fall b all ≡ true)
    (kept : (e : Entry) (past : List Entry) → IsAt all e past → is_open all e.number ≡ true → keep past e ≡ true)
    (why : (e : Entry) (past : List Entry) → IsAt all e past → keep past e ≡ true → is_lead e ≡ true → (is_open all e.number ≡ true) ⊎ Closer all keep e.number) where
  pub kept_number : (n : ℕ) → is_open all n ≡ true → (e : Entry) (past : List Entry) → IsAt all e past → e.number ≡ n → keep past e ≡ true
  kept_number n o e past at is = kept e past at (ap (is_open all) is ∙ o)

  stays : (n : ℕ) (y : Entry) → is_open all n ≡ true → unclosed all n ≡ Some y → unclosed (part keep all) n ≡ Some y
  stays n y o h = unclosed_kept keep n y all (kept_number n o) h

  was : (n : ℕ) (y : Entry) → unclosed (part keep all) n ≡ Some y → is_lead y ≡ true → unclosed all n ≡ Some y
  was n y h lead =
      let u = unclosed_at (part keep all) n y h in
      let w = was_kept keep all y u.past u.at in
      elim (why y w.past w.at w.kept lead) [
        | inl o ↦ (let v = opened_some (unclosed all n) (ap (is_open all) (sym u.number) ∙ o) in
            let uu = unclosed_at all n v.0 v.1 in
            let one = one_of_number b all y w.past v.0 uu.past falls w.at uu.at (u.number ∙ sym uu.number) in
            v.1 ∙ ap (λ (z : Entry). Some z) (sym one.0))
        | inr c ↦ (let gone = closed_by b n (part keep all) c.entry (part keep c.past) (falls_in_part keep b b all falls (omega arith)) (kept_at keep all c.entry c.past c.at c.kept)
            (ap (closes c.entry.event c.entry.reply) (sym u.number) ∙ c.closing) (subst (λ m. m < c.entry.number) u.number c.above) in
            absurd (none_is_not y (sym gone ∙ h)))
      ]

  -- a request is open in the part where it is open in the whole
  pub requests_same : (n : ℕ) → is_open_request all n ≡ is_open_request (part keep all) n
  requests_same n =
      both_ways (is_open_request all n) (is_open_request (part keep all) n)
      (λ h. let v = request_some (unclosed all n) h in
      ap has_opened_request (stays n v.0 (or_left (is_open_request all n) (is_open_attempt all n) h) v.1) ∙ (sym (ap has_opened_request v.1) ∙ h))
      (λ h. let v = request_some (unclosed (part keep all) n) h in
      let opened : opens_request v.0.event v.0.reply ≡ true = sym (ap has_opened_request v.1) ∙ h in
      ap has_opened_request (was n v.0 v.1 (or_left (opens_request v.0.event v.0.reply) (opens_attempt v.0.event v.0.reply) opened)) ∙ opened)

  pub attempts_same : (n : ℕ) → is_open_attempt all n ≡ is_open_attempt (part keep all) n
  attempts_same n =
      both_ways (is_open_attempt all n) (is_open_attempt (part keep all) n)
      (λ h. let v = attempt_some (unclosed all n) h in
      ap has_opened_attempt (stays n v.0 (or_right (is_open_request all n) (is_open_attempt all n) h) v.1) ∙ (sym (ap has_opened_attempt v.1) ∙ h))
      (λ h. let v = attempt_some (unclosed (part keep all) n) h in
      let opened : opens_attempt v.0.event v.0.reply ≡ true = sym (ap has_opened_attempt v.1) ∙ h in
      ap has_opened_attempt (was n v.0 v.1 (or_right (opens_request v.0.event v.0.reply) (opens_attempt v.0.event v.0.reply) opened)) ∙ opened)

  pub leads_same : (n : ℕ) → is_open all n ≡ true → entry_at all n ≡ entry_at (part keep all) n
  leads_same n o = entry_kept keep n all (kept_number n o)
