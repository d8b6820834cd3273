-- The newest answer of each key is the same in a part that keeps it, and its leading entry with it.
use Rattle.std.proofs.Common.{◌≡◌, ℕ, Bool, true, false, List, [], ◌∷◌, refl, sym, ap, subst, ◌∙◌, inl, inr}
use Rattle.std.specs.Prelude.{Option, Some, None, ◌⊎◌, ◌||◌, if◌then◌else◌}
use Rattle.std.specs.List.{list_any}
use Rattle.sd_rules.specs.declared.keys.Key.{Key}
use Rattle.sd_rules.specs.declared.keys.Key.TheVariants as keys
use Rattle.sd_rules.specs.declared.records.Answered.{Answered}
use Rattle.sd_rules.specs.declared.records.Answered.TheVariants.{Found, Absent}
use Rattle.sd_rules.specs.declared.records.Record.{Record}
use Rattle.sd_rules.specs.declared.records.Record.TheVariants as records
use Rattle.sd_rules.specs.declared.events.Event.{Event}
use Rattle.sd_rules.specs.declared.events.Event.TheVariants as events
use Rattle.sd_rules.specs.declared.events.Row.TheVariants as rows
use Rattle.sd_rules.specs.declared.replies.Entry.{Entry}
use Rattle.sd_rules.specs.Keys.{same_key, record_speaks, speaks_of}
use Rattle.sd_rules.specs.Past.{Standing, or_else, is_closed, key_of, answer_under, answer_by, answer_in, spoken, newest}
use Rattle.sd_rules.specs.Steps.{is_again}
use Rattle.sd_rules.specs.Needed.{keys_of_record, keys_of_answer, is_number_of, is_newest_of, is_newest_of_some, is_newest_answer, read_with}
pub use Rattle.sd_rules.proofs.SameKeys.{name_is, name_same}
use Rattle.sd_rules.proofs.SameKeys.{same_key_is}
use Rattle.sd_forgetting.specs.Parts.{part, entry_at, IsAt, numbers_fall}
use Rattle.sd_forgetting.proofs.Tests.{not_true, none_is_not, same_some, or_left, or_right, either, same_number}
use Rattle.sd_forgetting.proofs.Places.{entry_kept, key_kept, key_or_none, at_through, numbers_before, one_of_number}
use Rattle.sd_forgetting.proofs.Firsts.{first_kept}

-- an answer that speaks of a key counts it among its keys
counted : (P : Key → Bool) (a k : Key) → same_key a k ≡ true → P k ≡ true → P a ≡ true
counted P a k h p = ap P (same_key_is a k h) ∙ p

record_counts : (P : Key → Bool) (found : Record) (k : Key) → record_speaks found k ≡ true → P k ≡ true → list_any P (keys_of_record found) ≡ true
record_counts P (records.User user) k h p =
    either (same_key (keys.User user.name) k) (same_key (keys.Uid user.uid) k) h
    (λ s. or_left (P (keys.User user.name)) (P (keys.Uid user.uid) || false) (counted P (keys.User user.name) k s p))
    (λ s. or_right (P (keys.User user.name)) (P (keys.Uid user.uid) || false) (or_left (P (keys.Uid user.uid)) false (counted P (keys.Uid user.uid) k s p)))
record_counts P (records.Group group) k h p =
    either (same_key (keys.Group group.name) k) (same_key (keys.Gid group.gid) k) h
    (λ s. or_left (P (keys.Group group.name)) (P (keys.Gid group.gid) || false) (counted P (keys.Group group.name) k s p))
    (λ s. or_right (P (keys.Group group.name)) (P (keys.Gid group.gid) || false) (or_left (P (keys.Gid group.gid)) false (counted P (keys.Gid group.gid) k s p)))
record_counts P (records.Groups groups) k h p = absurd (not_true h)
record_counts P (records.Host host) k h p = absurd (not_true h)
record_counts P (records.Rules book) k h p = absurd (not_true h)

answer_counts : (P : Key → Bool) (own : Key) (answered : Answered) (k : Key) → speaks_of own answered k ≡ true → P k ≡ true → list_any P (keys_of_answer own answered) ≡ true
answer_counts P own Absent k h p = or_left (P own) false (counted P own k h p)
answer_counts P own (Found found) k h p =
    either (same_key own k) (record_speaks found k) h
    (λ s. or_left (P own) (list_any P (keys_of_record found)) (counted P own k s p))
    (λ s. or_right (P own) (list_any P (keys_of_record found)) (record_counts P found k s p))

pub newest_counts : (all : List Entry) (a : Standing) (k : Key) → speaks_of a.own a.answered k ≡ true → newest all k ≡ Some a → is_newest_of_some all (Some a) ≡ true
newest_counts all a k speaks is =
    answer_counts (λ key. is_newest_of all a.number key) a.own a.answered k speaks (ap (is_number_of a.number) is ∙ same_number a.number)

-- where the newest answer of a key stands
pub record NewestAt (xs : List Entry) (k : Key) (a : Standing) : Type 0 where
  pub entry : Entry
  pub past : List Entry
  pub at : IsAt xs entry past
  pub answer : answer_in past entry ≡ Some a
  pub speaks : speaks_of a.own a.answered k ≡ true
  pub number : a.number ≡ entry.number

spoken_if : (k : Key) (y a : Standing) (b : Bool) → speaks_of y.own y.answered k ≡ b → (if b then Some y else None) ≡ Some a → (Some y ≡ Some a) × (speaks_of a.own a.answered k ≡ true)
spoken_if k y a true h g = (g, subst (λ (z : Standing). speaks_of z.own z.answered k ≡ true) (same_some y a g) h)
spoken_if k y a false h g = absurd (none_is_not a g)

pub spoken_some : (k : Key) (o : Option Standing) (a : Standing) → spoken k o ≡ Some a → (o ≡ Some a) × (speaks_of a.own a.answered k ≡ true)
spoken_some k None a h = absurd (none_is_not a h)
spoken_some k (Some y) a h = spoken_if k y a (speaks_of y.own y.answered k) refl h

under_number : (e : Entry) (answered : Answered) (own : Option Key) (a : Standing) → answer_under e answered own ≡ Some a → a.number ≡ e.number
under_number e answered None a h = absurd (none_is_not a h)
under_number e answered (Some own) a h =
    ap (λ (x : Standing). x.number) (sym (same_some (record { number = e.number; moment = e.moment; own = own; answered = answered; marked = false }) a h))

closed_number : (c : Bool) (e : Entry) (answered : Answered) (own : Option Key) (a : Standing) → (if c then answer_under e answered own else None) ≡ Some a → a.number ≡ e.number
closed_number true e answered own a h = under_number e answered own a h
closed_number false e answered own a h = absurd (none_is_not a h)

pub answer_number : (past : List Entry) (e : Entry) (event : Event) (a : Standing) → answer_by past e event ≡ Some a → a.number ≡ e.number
answer_number past e (events.Answer r answered) a h = closed_number (is_closed e.reply) e answered (key_of past r) a h
answer_number past e (events.Kept (rows.Answer n m own answered marked)) a h =
    ap (λ (x : Standing). x.number) (sym (same_some (record { number = e.number; moment = e.moment; own = own; answered = answered; marked = marked }) a h))
answer_number past e _ a h = absurd (none_is_not a h)

later_newest : (x : Entry) (xs : List Entry) (k : Key) (a : Standing) → NewestAt xs k a → NewestAt (x ∷ xs) k a
later_newest x xs k a n = record { entry = n.entry; past = n.past; at = inr n.at; answer = n.answer; speaks = n.speaks; number = n.number }

newest_by : (x : Entry) (xs : List Entry) (k : Key) (a : Standing) (o : Option Standing) → spoken k (answer_in xs x) ≡ o → or_else o (newest xs k) ≡ Some a →
    (newest xs k ≡ Some a → NewestAt xs k a) → NewestAt (x ∷ xs) k a
newest_by x xs k a None is h rest = later_newest x xs k a (rest h)
newest_by x xs k a (Some y) is h rest =
    let s = spoken_some k (answer_in xs x) a (is ∙ h) in
    record { entry = x; past = xs; at = inl (refl, refl); answer = s.0; speaks = s.1; number = answer_number xs x x.event a s.0 }

pub newest_at : (xs : List Entry) (k : Key) (a : Standing) → newest xs k ≡ Some a → NewestAt xs k a
newest_at [] k a h = absurd (none_is_not a h)
newest_at (x ∷ xs) k a h = newest_by x xs k a (spoken k (answer_in xs x)) refl h (newest_at xs k a)

-- an answer by two pasts
answer_if : (c : Bool) (e : Entry) (answered : Answered) (x y : Option Key) → (x ≡ y) ⊎ (x ≡ None) →
    ((if c then answer_under e answered x else None) ≡ (if c then answer_under e answered y else None)) ⊎ ((if c then answer_under e answered x else None) ≡ None)
answer_if false e answered x y h = inr refl
answer_if true e answered x y (inl h) = inl (ap (answer_under e answered) h)
answer_if true e answered x y (inr h) = inr (ap (answer_under e answered) h)

pub answer_or_none : (p q : List Entry) (e : Entry) (event : Event) → ((r : ℕ) → (key_of p r ≡ key_of q r) ⊎ (key_of p r ≡ None)) →
    (answer_by p e event ≡ answer_by q e event) ⊎ (answer_by p e event ≡ None)
answer_or_none p q e (events.Answer r answered) f = answer_if (is_closed e.reply) e answered (key_of p r) (key_of q r) (f r)
answer_or_none p q e (events.Kept (rows.Answer n m own answered marked)) f = inl refl
answer_or_none p q e _ f = inl refl

read_if : (c d : Bool) (e : Entry) (answered : Answered) (r : ℕ) (x y : Option Key) → ((q : ℕ) → (if c || d then Some r else None) ≡ Some q → q ≡ r → x ≡ y) →
    (if c then answer_under e answered x else None) ≡ (if c then answer_under e answered y else None)
read_if true d e answered r x y f = ap (answer_under e answered) (f r refl refl)
read_if false d e answered r x y f = refl

pub answer_kept : (p q : List Entry) (e : Entry) (event : Event) → ((r : ℕ) → read_with event e.reply ≡ Some r → key_of p r ≡ key_of q r) →
    answer_by p e event ≡ answer_by q e event
answer_kept p q e (events.Answer r answered) f =
    read_if (is_closed e.reply) (is_again e.reply) e answered r (key_of p r) (key_of q r)
    (λ n h is. subst (λ m. key_of p m ≡ key_of q m) is (f n h))
answer_kept p q e (events.Kept (rows.Answer n m own answered marked)) f = refl
answer_kept p q e _ f = refl

-- the newest answer's entry is looked at
pub newest_looked : (all : List Entry) (b : ℕ) → numbers_fall b all ≡ true → (k : Key) (a : Standing) → newest all k ≡ Some a → (e : Entry) (past : List Entry) → IsAt all e past → e.number ≡ a.number →
    is_newest_answer all past e ≡ true
newest_looked all b falls k a is e past at same =
    let n = newest_at all k a is in
    let one = one_of_number b all e past n.entry n.past falls at n.at (same ∙ n.number) in
    let here : answer_in past e ≡ Some a = ap (λ (x : Entry). answer_in past x) one.0 ∙ (ap (λ (l : List Entry). answer_in l n.entry) one.1 ∙ n.answer) in
    ap (is_newest_of_some all) here ∙ newest_counts all a k n.speaks is

module _
    (all : List Entry) (looked keep : List Entry → Entry → Bool) (b : ℕ) (falls : numbers_fall b all ≡ true)
    (answer_looked : (e : Entry) (past : List Entry) → IsAt all e past → is_newest_answer all past e ≡ true → looked past e ≡ true)
    (looked_kept : (e : Entry) (past : List Entry) → IsAt all e past → looked past e ≡ true → keep past e ≡ true)
    (lead_kept : (other : Entry) (q : List Entry) (r : ℕ) (x : Entry) (p : List Entry) → IsAt all other q → looked q other ≡ true →
    read_with other.event other.reply ≡ Some r → IsAt all x p → x.number ≡ r → keep p x ≡ true) where
  -- the leading entry of what is looked at is in the part
  pub lead_stays : (e : Entry) (past : List Entry) (r : ℕ) → IsAt all e past → looked past e ≡ true → read_with e.event e.reply ≡ Some r →
      entry_at past r ≡ entry_at (part keep past) r
  lead_stays e past r at look reads =
      entry_kept keep r past (λ x p i is. lead_kept e past r x p at look reads (at_through all e past x p at i) is)

  answer_here : (k : Key) (e : Entry) (past : List Entry) (a : Standing) → IsAt all e past → spoken k (answer_in past e) ≡ Some a → newest all k ≡ Some a →
      (keep past e ≡ true) × (spoken k (answer_in (part keep past) e) ≡ Some a)
  answer_here k e past a at h is =
      let s = spoken_some k (answer_in past e) a h in
      let look = answer_looked e past at (ap (is_newest_of_some all) s.0 ∙ newest_counts all a k s.1 is) in
      let same = answer_kept past (part keep past) e e.event (λ r reads. key_kept past (part keep past) r (lead_stays e past r at look reads)) in
      (looked_kept e past at look, ap (spoken k) (sym same) ∙ h)

  answer_later : (k : Key) (e : Entry) (past : List Entry) → IsAt all e past → spoken k (answer_in past e) ≡ None → spoken k (answer_in (part keep past) e) ≡ None
  answer_later k e past at h =
      elim (answer_or_none (part keep past) past e e.event (key_or_none keep e.number past (numbers_before b all e past falls at))) [
        | inl s ↦ ap (spoken k) s ∙ h
        | inr s ↦ ap (spoken k) s
      ]

  pub newest_same : (k : Key) → newest all k ≡ newest (part keep all) k
  newest_same k =
      first_kept keep (λ (xs : List Entry). newest xs k) (λ (past : List Entry) (e : Entry). spoken k (answer_in past e)) (λ e past. refl) all
      (answer_later k) (answer_here k) all (λ e past h. h) refl

  pub answers_same : (k : Key) (a : Standing) → newest all k ≡ Some a → entry_at all a.number ≡ entry_at (part keep all) a.number
  answers_same k a is =
      entry_kept keep a.number all (λ e past at same. looked_kept e past at (answer_looked e past at (newest_looked all b falls k a is e past at same)))
