-- Entries by their places in a journal and in a part of it.
use Rattle.std.proofs.Common.{◌≡◌, ℕ, ◌<◌, ◌≤◌, Bool, true, false, List, [], ◌∷◌, arith, refl, sym, ap, subst, ◌∙◌, inl, inr}
use Rattle.std.specs.Prelude.{Option, Some, None, nat_lt, ◌⊎◌, ◌==◌, if◌then◌else◌}
use Rattle.sd_rules.specs.declared.replies.Entry.{Entry}
use Rattle.sd_rules.specs.declared.keys.Key.{Key}
use Rattle.sd_rules.specs.Past.{key_asked, key_of}
use Rattle.sd_rules.specs.Logins.{user_opened, user_of}
use Rattle.sd_rules.specs.Needed.{needed_among, is_needed}
use Rattle.sd_forgetting.specs.Parts.{part, entry_at, IsAt, numbers_fall}
use Rattle.sd_forgetting.proofs.Tests.{not_true, none_is_not, same_some, both, first_holds, second_holds, cases, if_true, if_false, equal_numbers, is_equal, is_less, less, differ, differ_above}

-- what a forget keeps is the part that is needed
pub needed_is_part : (all past : List Entry) → needed_among all past ≡ part (is_needed all) past
needed_is_part all [] = refl
needed_is_part all (e ∷ past) =
    ap (λ (l : List Entry). if is_needed all past e then e ∷ l else l) (needed_is_part all past)

at_if : (b : Bool) (x : Entry) (l : List Entry) (e : Entry) (q : List Entry) → IsAt l e q → IsAt (if b then x ∷ l else l) e q
at_if true x l e q h = inr h
at_if false x l e q h = h

at_head : (b : Bool) (x : Entry) (l : List Entry) (e : Entry) (q : List Entry) → b ≡ true → x ≡ e → l ≡ q → IsAt (if b then x ∷ l else l) e q
at_head true x l e q h f g = inl (f, g)
at_head false x l e q h f g = absurd (not_true h)

-- what is kept stands in the part
pub kept_at : (keep : List Entry → Entry → Bool) (xs : List Entry) (e : Entry) (past : List Entry) → IsAt xs e past → keep past e ≡ true →
    IsAt (part keep xs) e (part keep past)
kept_at keep [] e past h k = absurd h
kept_at keep (x ∷ xs) e past (inl p) k =
    at_head (keep xs x) x (part keep xs) e (part keep past)
    (ap (λ (l : List Entry). keep l x) p.1 ∙ (ap (keep past) p.0 ∙ k)) p.0 (ap (part keep) p.1)
kept_at keep (x ∷ xs) e past (inr p) k = at_if (keep xs x) x (part keep xs) e (part keep past) (kept_at keep xs e past p k)

-- an entry of the part stands in the whole, and is kept
pub record WasKept (keep : List Entry → Entry → Bool) (xs : List Entry) (e : Entry) (q : List Entry) : Type 0 where
  pub past : List Entry
  pub at : IsAt xs e past
  pub kept : keep past e ≡ true
  pub before : q ≡ part keep past

kept_later : (keep : List Entry → Entry → Bool) (x : Entry) (xs : List Entry) (e : Entry) (q : List Entry) → WasKept keep xs e q → WasKept keep (x ∷ xs) e q
kept_later keep x xs e q w = record { past = w.past; at = inr w.at; kept = w.kept; before = w.before }

kept_by : (keep : List Entry → Entry → Bool) (b : Bool) (x : Entry) (xs : List Entry) (e : Entry) (q : List Entry) → keep xs x ≡ b →
    IsAt (if b then x ∷ part keep xs else part keep xs) e q → (IsAt (part keep xs) e q → WasKept keep xs e q) → WasKept keep (x ∷ xs) e q
kept_by keep false x xs e q k h f = kept_later keep x xs e q (f h)
kept_by keep true x xs e q k (inr h) f = kept_later keep x xs e q (f h)
kept_by keep true x xs e q k (inl p) f = record {
  past = xs;
  at = inl (p.0, refl);
  kept = ap (keep xs) (sym p.0) ∙ k;
  before = sym p.1;
}

pub was_kept : (keep : List Entry → Entry → Bool) (xs : List Entry) (e : Entry) (q : List Entry) → IsAt (part keep xs) e q → WasKept keep xs e q
was_kept keep [] e q h = absurd h
was_kept keep (x ∷ xs) e q h = kept_by keep (keep xs x) x xs e q refl h (was_kept keep xs e q)

-- numbers
pub numbers_below : (b : ℕ) (xs : List Entry) (e : Entry) (past : List Entry) → numbers_fall b xs ≡ true → IsAt xs e past → e.number < b
numbers_below b [] e past f h = absurd h
numbers_below b (x ∷ xs) e past f (inl p) =
    subst (λ (y : Entry). y.number < b) p.0 (is_less x.number b (first_holds (nat_lt x.number b) (numbers_fall x.number xs) f))
numbers_below b (x ∷ xs) e past f (inr p) =
    let low = is_less x.number b (first_holds (nat_lt x.number b) (numbers_fall x.number xs) f) in
    let lower = numbers_below x.number xs e past (second_holds (nat_lt x.number b) (numbers_fall x.number xs) f) p in
    omega arith

pub numbers_before : (b : ℕ) (xs : List Entry) (e : Entry) (past : List Entry) → numbers_fall b xs ≡ true → IsAt xs e past → numbers_fall e.number past ≡ true
numbers_before b [] e past f h = absurd h
numbers_before b (x ∷ xs) e past f (inl p) =
    let rest = second_holds (nat_lt x.number b) (numbers_fall x.number xs) f in
    ap (λ (y : Entry). numbers_fall y.number past) (sym p.0) ∙ (ap (numbers_fall x.number) (sym p.1) ∙ rest)
numbers_before b (x ∷ xs) e past f (inr p) =
    numbers_before x.number xs e past (second_holds (nat_lt x.number b) (numbers_fall x.number xs) f) p

-- two entries of one number are one
pub one_of_number : (b : ℕ) (xs : List Entry) (e : Entry) (past : List Entry) (x : Entry) (q : List Entry) → numbers_fall b xs ≡ true →
    IsAt xs e past → IsAt xs x q → e.number ≡ x.number → (e ≡ x) × (past ≡ q)
one_of_number b [] e past x q f h i same = absurd h
one_of_number b (y ∷ ys) e past x q f (inl h) (inl i) same = (sym h.0 ∙ i.0, sym h.1 ∙ i.1)
one_of_number b (y ∷ ys) e past x q f (inl h) (inr i) same =
    let lower = numbers_below y.number ys x q (second_holds (nat_lt y.number b) (numbers_fall y.number ys) f) i in
    let is = ap (λ (z : Entry). z.number) h.0 in
    absurd (omega arith)
one_of_number b (y ∷ ys) e past x q f (inr h) (inl i) same =
    let lower = numbers_below y.number ys e past (second_holds (nat_lt y.number b) (numbers_fall y.number ys) f) h in
    let is = ap (λ (z : Entry). z.number) i.0 in
    absurd (omega arith)
one_of_number b (y ∷ ys) e past x q f (inr h) (inr i) same =
    one_of_number y.number ys e past x q (second_holds (nat_lt y.number b) (numbers_fall y.number ys) f) h i same

-- a law of a part by laws of both cases
pub part_law : (P : List Entry → Type 0) (b : Bool) (x : Entry) (l : List Entry) → (b ≡ true → P (x ∷ l)) → (b ≡ false → P l) → P (if b then x ∷ l else l)
part_law P true x l h i = h refl
part_law P false x l h i = i refl

pub falls_in_part : (keep : List Entry → Entry → Bool) (b c : ℕ) (xs : List Entry) → numbers_fall b xs ≡ true → b ≤ c → numbers_fall c (part keep xs) ≡ true
falls_in_part keep b c [] f h = refl
falls_in_part keep b c (x ∷ xs) f h =
    let low = is_less x.number b (first_holds (nat_lt x.number b) (numbers_fall x.number xs) f) in
    let rest = second_holds (nat_lt x.number b) (numbers_fall x.number xs) f in
    let lower : x.number < c = omega arith in
    let as_low : x.number ≤ c = omega arith in
    part_law (λ (l : List Entry). numbers_fall c l ≡ true) (keep xs x) x (part keep xs)
    (λ _. both (nat_lt x.number c) (numbers_fall x.number (part keep xs)) (less x.number c lower) (falls_in_part keep x.number x.number xs rest (omega arith)))
    (λ _. falls_in_part keep x.number c xs rest as_low)

-- what stands before an entry stands in the whole
pub at_through : (xs : List Entry) (e : Entry) (past : List Entry) (x : Entry) (q : List Entry) → IsAt xs e past → IsAt past x q → IsAt xs x q
at_through [] e past x q h i = absurd h
at_through (y ∷ ys) e past x q (inl p) i = inr (subst (λ (l : List Entry). IsAt l x q) (sym p.1) i)
at_through (y ∷ ys) e past x q (inr p) i = inr (at_through ys e past x q p i)

-- an entry of a lesser number stands before
pub older_before : (b : ℕ) (xs : List Entry) (e : Entry) (past : List Entry) (x : Entry) (q : List Entry) → numbers_fall b xs ≡ true →
    IsAt xs e past → IsAt xs x q → x.number < e.number → IsAt past x q
older_before b [] e past x q f h i low = absurd h
older_before b (y ∷ ys) e past x q f (inl p) (inl r) low =
    let is = ap (λ (z : Entry). z.number) (sym p.0 ∙ r.0) in
    absurd (omega arith)
older_before b (y ∷ ys) e past x q f (inl p) (inr r) low = subst (λ (l : List Entry). IsAt l x q) p.1 r
older_before b (y ∷ ys) e past x q f (inr p) (inl r) low =
    let below = numbers_below y.number ys e past (second_holds (nat_lt y.number b) (numbers_fall y.number ys) f) p in
    let is = ap (λ (z : Entry). z.number) r.0 in
    absurd (omega arith)
older_before b (y ∷ ys) e past x q f (inr p) (inr r) low =
    older_before y.number ys e past x q (second_holds (nat_lt y.number b) (numbers_fall y.number ys) f) p r low

-- the entry of a number, in the part
pub keeps_if : {X : Type 0} (f : List Entry → X) (b : Bool) (x : Entry) (l : List Entry) (z : X) → (b ≡ true → z ≡ f (x ∷ l)) → (b ≡ false → z ≡ f l) → z ≡ f (if b then x ∷ l else l)
keeps_if f true x l z h i = h refl
keeps_if f false x l z h i = i refl

entry_here : (b : Bool) (x : Entry) (y z : Option Entry) → (b ≡ false → y ≡ z) → (if b then Some x else y) ≡ (if b then Some x else z)
entry_here true x y z h = refl
entry_here false x y z h = h refl

entry_gone : (b : Bool) (x : Entry) (y z : Option Entry) → (b ≡ true → ⊥) → y ≡ z → (if b then Some x else y) ≡ z
entry_gone true x y z f h = absurd (f refl)
entry_gone false x y z f h = h

-- the entry of a number is the same in the part where it is kept
pub entry_kept : (keep : List Entry → Entry → Bool) (n : ℕ) (xs : List Entry) → ((e : Entry) (past : List Entry) → IsAt xs e past → e.number ≡ n → keep past e ≡ true) →
    entry_at xs n ≡ entry_at (part keep xs) n
entry_kept keep n [] k = refl
entry_kept keep n (x ∷ xs) k =
    let rest = entry_kept keep n xs (λ e past h. k e past (inr h)) in
    keeps_if (λ (l : List Entry). entry_at l n) (keep xs x) x (part keep xs) (entry_at (x ∷ xs) n)
    (λ _. entry_here (x.number == n) x (entry_at xs n) (entry_at (part keep xs) n) (λ _. rest))
    (λ dropped. entry_gone (x.number == n) x (entry_at xs n) (entry_at (part keep xs) n)
    (λ is. not_true (sym dropped ∙ k x xs (inl (refl, refl)) (equal_numbers x.number n is))) rest)

no_entry : (keep : List Entry → Entry → Bool) (b n : ℕ) (xs : List Entry) → numbers_fall b xs ≡ true → b ≤ n → entry_at (part keep xs) n ≡ None
no_entry keep b n [] f h = refl
no_entry keep b n (x ∷ xs) f h =
    let low = is_less x.number b (first_holds (nat_lt x.number b) (numbers_fall x.number xs) f) in
    let lower : x.number < n = omega arith in
    let at_most : x.number ≤ n = omega arith in
    let rest = no_entry keep x.number n xs (second_holds (nat_lt x.number b) (numbers_fall x.number xs) f) at_most in
    sym (keeps_if (λ (l : List Entry). entry_at l n) (keep xs x) x (part keep xs) None
    (λ _. sym (if_false (x.number == n) (Some x) (entry_at (part keep xs) n) (differ x.number n lower) ∙ rest))
    (λ _. sym rest))

-- else there is none in the part
pub entry_or_none : (keep : List Entry → Entry → Bool) (b n : ℕ) (xs : List Entry) → numbers_fall b xs ≡ true →
    (entry_at (part keep xs) n ≡ entry_at xs n) ⊎ (entry_at (part keep xs) n ≡ None)
entry_or_none keep b n [] f = inl refl
entry_or_none keep b n (x ∷ xs) f =
    let low = second_holds (nat_lt x.number b) (numbers_fall x.number xs) f in
    let rest = entry_or_none keep x.number n xs low in
    part_law (λ (l : List Entry). (entry_at l n ≡ entry_at (x ∷ xs) n) ⊎ (entry_at l n ≡ None)) (keep xs x) x (part keep xs)
    (λ _. cases (x.number == n)
    (λ is. inl (if_true (x.number == n) (Some x) (entry_at (part keep xs) n) is ∙ sym (if_true (x.number == n) (Some x) (entry_at xs n) is)))
    (λ no. elim rest [
      | inl r ↦ inl (if_false (x.number == n) (Some x) (entry_at (part keep xs) n) no ∙ (r ∙ sym (if_false (x.number == n) (Some x) (entry_at xs n) no)))
      | inr r ↦ inr (if_false (x.number == n) (Some x) (entry_at (part keep xs) n) no ∙ r)
    ]))
    (λ _. cases (x.number == n)
    (λ is. inr (no_entry keep x.number n xs low (let same = equal_numbers x.number n is in omega arith)))
    (λ no. elim rest [
      | inl r ↦ inl (r ∙ sym (if_false (x.number == n) (Some x) (entry_at xs n) no))
      | inr r ↦ inr r
    ]))

-- the entry of a number stands there
pub found_at : (xs : List Entry) (n : ℕ) (e : Entry) → entry_at xs n ≡ Some e → (q : List Entry) × (IsAt xs e q × (e.number ≡ n))
found_at [] n e h = absurd (none_is_not e h)
found_at (x ∷ xs) n e h =
    cases (x.number == n)
    (λ is. let same : x ≡ e = same_some x e (sym (if_true (x.number == n) (Some x) (entry_at xs n) is) ∙ h) in
    (xs, (inl (same, refl), ap (λ (y : Entry). y.number) (sym same) ∙ equal_numbers x.number n is)))
    (λ no. let f = found_at xs n e (sym (if_false (x.number == n) (Some x) (entry_at xs n) no) ∙ h) in
    (f.0, (inr f.1.0, f.1.1)))

-- an entry of falling numbers is the entry of its number
pub at_is_entry : (b : ℕ) (xs : List Entry) (e : Entry) (q : List Entry) → numbers_fall b xs ≡ true → IsAt xs e q → entry_at xs e.number ≡ Some e
at_is_entry b [] e q f h = absurd h
at_is_entry b (x ∷ xs) e q f (inl p) =
    if_true (x.number == e.number) (Some x) (entry_at xs e.number) (is_equal x.number e.number (ap (λ (y : Entry). y.number) p.0)) ∙ ap (λ (y : Entry). Some y) p.0
at_is_entry b (x ∷ xs) e q f (inr p) =
    let low = second_holds (nat_lt x.number b) (numbers_fall x.number xs) f in
    if_false (x.number == e.number) (Some x) (entry_at xs e.number) (differ_above x.number e.number (numbers_below x.number xs e q low p))
    ∙ at_is_entry x.number xs e q low p

-- the key and the user of a number, by its entry
abbrev pub key_in : Option Entry → Option Key
key_in None = None
key_in (Some e) = key_asked e.event

abbrev pub user_in : Option Entry → Option (List ℕ)
user_in None = None
user_in (Some e) = user_opened e.event

key_if : (b : Bool) (x : Entry) (y : Option Key) (z : Option Entry) → y ≡ key_in z → (if b then key_asked x.event else y) ≡ key_in (if b then Some x else z)
key_if true x y z h = refl
key_if false x y z h = h

pub key_by_entry : (xs : List Entry) (n : ℕ) → key_of xs n ≡ key_in (entry_at xs n)
key_by_entry [] n = refl
key_by_entry (x ∷ xs) n = key_if (x.number == n) x (key_of xs n) (entry_at xs n) (key_by_entry xs n)

user_if : (b : Bool) (x : Entry) (y : Option (List ℕ)) (z : Option Entry) → y ≡ user_in z → (if b then user_opened x.event else y) ≡ user_in (if b then Some x else z)
user_if true x y z h = refl
user_if false x y z h = h

pub user_by_entry : (xs : List Entry) (n : ℕ) → user_of xs n ≡ user_in (entry_at xs n)
user_by_entry [] n = refl
user_by_entry (x ∷ xs) n = user_if (x.number == n) x (user_of xs n) (entry_at xs n) (user_by_entry xs n)

-- both are in the part as in the whole where the entry is kept, and else as in the whole or none
pub key_kept : (xs ys : List Entry) (n : ℕ) → entry_at xs n ≡ entry_at ys n → key_of xs n ≡ key_of ys n
key_kept xs ys n h = key_by_entry xs n ∙ (ap key_in h ∙ sym (key_by_entry ys n))

pub user_kept : (xs ys : List Entry) (n : ℕ) → entry_at xs n ≡ entry_at ys n → user_of xs n ≡ user_of ys n
user_kept xs ys n h = user_by_entry xs n ∙ (ap user_in h ∙ sym (user_by_entry ys n))

pub key_or_none : (keep : List Entry → Entry → Bool) (b : ℕ) (xs : List Entry) → numbers_fall b xs ≡ true → (n : ℕ) →
    (key_of (part keep xs) n ≡ key_of xs n) ⊎ (key_of (part keep xs) n ≡ None)
key_or_none keep b xs f n = elim (entry_or_none keep b n xs f) [
  | inl h ↦ inl (key_kept (part keep xs) xs n h)
  | inr h ↦ inr (key_by_entry (part keep xs) n ∙ ap key_in h)
]

pub user_or_none : (keep : List Entry → Entry → Bool) (b : ℕ) (xs : List Entry) → numbers_fall b xs ≡ true → (n : ℕ) →
    (user_of (part keep xs) n ≡ user_of xs n) ⊎ (user_of (part keep xs) n ≡ None)
user_or_none keep b xs f n = elim (entry_or_none keep b n xs f) [
  | inl h ↦ inl (user_kept (part keep xs) xs n h)
  | inr h ↦ inr (user_by_entry (part keep xs) n ∙ ap user_in h)
]
