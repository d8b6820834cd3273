-- Numbers that fall, and the entries of numbers.
use Rattle.std.proofs.Common.{◌≡◌, ℕ, ◌+◌, ◌<◌, ◌≤◌, Bool, true, false, cond, ◌&&◌, ◌==◌, nat_lt, List, [], ◌∷◌, ◌++◌, Option, None, Some, refl, sym, ◌∙◌, ap, arith}
use Rattle.std.proofs.lemmas.Bool.Decides.{nat_tests}
use Rattle.std.specs.Option.{option_map, option_and_then}
use Rattle.sd_rules.specs.declared.keys.Key.{Key}
use Rattle.sd_rules.specs.declared.events.Event.{Event}
use Rattle.sd_rules.specs.declared.replies.Entry.{Entry}
use Rattle.sd_rules.specs.Past.{key_asked, key_of}
use Rattle.sd_rules.specs.Steps.{event_at}
use Rattle.sd_voids.specs.Entries.{numbers_fall, falls, entry_at}

pub first_of_two : (a b : Bool) → a && b ≡ true → a ≡ true
first_of_two true b h = refl
first_of_two false b h = h

pub second_of_two : (a b : Bool) → a && b ≡ true → b ≡ true
second_of_two true b h = h
second_of_two false b h = cc

pub both_of_two : (a b : Bool) → a ≡ true → b ≡ true → a && b ≡ true
both_of_two true b h k = k
both_of_two false b h k = h

pub is_less : (n m : ℕ) → nat_lt n m ≡ true → n < m
is_less n m h = grind (arith, nat_tests)

pub tests_less : (n m : ℕ) → n < m → nat_lt n m ≡ true
tests_less n m h = grind (arith, nat_tests)

pub tests_not_less : (n m : ℕ) → m ≤ n → nat_lt n m ≡ false
tests_not_less n m h = grind (arith, nat_tests)

pub not_same_below : (n m : ℕ) → n < m → (n == m) ≡ false
not_same_below n m h = grind (arith, nat_tests)

pub not_same_above : (n m : ℕ) → m < n → (n == m) ≡ false
not_same_above n m h = grind (arith, nat_tests)

pub same_self : (n : ℕ) → (n == n) ≡ true
same_self n = grind (arith, nat_tests)

pub is_same : (n m : ℕ) → (n == m) ≡ true → n ≡ m
is_same n m h = grind (arith, nat_tests)

-- the newest number is below, and the others fall from it
pub head_below : (n : ℕ) (e : Entry) (past : List Entry) → numbers_fall n (e ∷ past) ≡ true → e.number < n
head_below n e past h = is_less e.number n (first_of_two (nat_lt e.number n) (numbers_fall e.number past) h)

pub tail_falls : (n : ℕ) (e : Entry) (past : List Entry) → numbers_fall n (e ∷ past) ≡ true → numbers_fall e.number past ≡ true
tail_falls n e past h = second_of_two (nat_lt e.number n) (numbers_fall e.number past) h

pub fall_further : (n m : ℕ) (past : List Entry) → numbers_fall n past ≡ true → n ≤ m → numbers_fall m past ≡ true
fall_further n m [] h le = refl
fall_further n m (e ∷ past) h le =
    let lt : e.number < n = head_below n e past h in
    both_of_two (nat_lt e.number m) (numbers_fall e.number past) (tests_less e.number m (omega arith)) (tail_falls n e past h)

-- entries that stand after others have greater numbers
pub above : (xs : List Entry) (e : Entry) (past : List Entry) (n : ℕ) → numbers_fall n (xs ++ e ∷ past) ≡ true → e.number < n
above [] e past n h = head_below n e past h
above (x ∷ xs) e past n h =
    let lt : x.number < n = head_below n x (xs ++ e ∷ past) h in
    let near : e.number < x.number = above xs e past x.number (tail_falls n x (xs ++ e ∷ past) h) in
    omega arith

-- what falls falls from some number
pub falls_from_some : (past : List Entry) → falls past ≡ true → (n : ℕ) × (numbers_fall n past ≡ true)
falls_from_some [] h = (0, refl)
falls_from_some (e ∷ past) h =
    (e.number + 1, both_of_two (nat_lt e.number (e.number + 1)) (numbers_fall e.number past) (tests_less e.number (e.number + 1) (omega arith)) h)

pub falls_of : (n : ℕ) (past : List Entry) → numbers_fall n past ≡ true → falls past ≡ true
falls_of n [] h = refl
falls_of n (e ∷ past) h = tail_falls n e past h

-- no entry is of a number from which they fall, or of a greater one
pub none_from : (n m : ℕ) (past : List Entry) → numbers_fall n past ≡ true → n ≤ m → entry_at past m ≡ None
none_from n m [] h le = refl
none_from n m (e ∷ past) h le =
    let lt : e.number < n = head_below n e past h in
    let below : e.number < m = omega arith in
    let near : e.number ≤ m = omega arith in
    ap (λ (b : Bool). cond b (Some e) (entry_at past m)) (not_same_below e.number m below) ∙ none_from e.number m past (tail_falls n e past h) near

-- what the entry of a number tells of a request and of an event
key_at : (e : Entry) (key : Option Key) (o : Option Entry) (b : Bool) → option_and_then (λ (x : Entry). key_asked x.event) o ≡ key
    → option_and_then (λ (x : Entry). key_asked x.event) (cond b (Some e) o) ≡ cond b (key_asked e.event) key
key_at e key o true h = refl
key_at e key o false h = h

pub key_of_entry : (past : List Entry) (r : ℕ) → option_and_then (λ (e : Entry). key_asked e.event) (entry_at past r) ≡ key_of past r
key_of_entry [] r = refl
key_of_entry (e ∷ past) r = key_at e (key_of past r) (entry_at past r) (e.number == r) (key_of_entry past r)

event_at_entry : (e : Entry) (event : Option Event) (o : Option Entry) (b : Bool) → option_map (λ (x : Entry). x.event) o ≡ event
    → option_map (λ (x : Entry). x.event) (cond b (Some e) o) ≡ cond b (Some e.event) event
event_at_entry e event o true h = refl
event_at_entry e event o false h = h

pub event_of_entry : (past : List Entry) (n : ℕ) → option_map (λ (e : Entry). e.event) (entry_at past n) ≡ event_at past n
event_of_entry [] n = refl
event_of_entry (e ∷ past) n = event_at_entry e (event_at past n) (entry_at past n) (e.number == n) (event_of_entry past n)

-- the same, from the entry that is found
pub key_of_is : (past : List Entry) (r : ℕ) (o : Option Entry) → o ≡ entry_at past r → key_of past r ≡ option_and_then (λ (e : Entry). key_asked e.event) o
key_of_is past r o is = sym (key_of_entry past r) ∙ ap (λ (x : Option Entry). option_and_then (λ (e : Entry). key_asked e.event) x) (sym is)

pub event_at_is : (past : List Entry) (n : ℕ) (o : Option Entry) → o ≡ entry_at past n → event_at past n ≡ option_map (λ (e : Entry). e.event) o
event_at_is past n o is = sym (event_of_entry past n) ∙ ap (λ (x : Option Entry). option_map (λ (e : Entry). e.event) x) (sym is)
