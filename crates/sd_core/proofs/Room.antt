-- Places: a step reserves at most one more, and one that gives a place back reserves one less.
use Rattle.std.proofs.Common.{◌≡◌, ℕ, ◌+◌, ◌-◌, ◌*◌, ◌^◌, ◌<◌, ◌≤◌, Bool, nat_lt, true, false, List, [], ◌∷◌, arith, refl, sym, subst, ◌∙◌}
use Rattle.std.specs.Prelude.{length, Option, Some, None, cond, is_some, ◌==◌, ◌||◌, if◌then◌else◌}
use Rattle.std.proofs.lemmas.Grind.{common_steps}
use Rattle.std.proofs.lemmas.Bool.Decides.{nat_tests}
use Rattle.sd_rules.specs.declared.replies.Entry.{Entry}
use Rattle.sd_rules.specs.Requests.{unclosed, closes, opens_request, opens_attempt, has_opened_request, has_opened_attempt, is_open, waits_for, ends_waiting, joined, reserves, reserved_among, reserved_places}
use Rattle.sd_rules.specs.Steps.{Daemon, number_after, next_number, lacks_places, lacks_numbers}
use Rattle.sd_core.specs.Sound.{falls_from}

-- the next number is above the last entry's
pub next_is_above : (next : ℕ) (past : List Entry) → falls_from next past ≡ true → number_after next past ≡ next
next_is_above next [] h = refl
next_is_above next (e ∷ past) h = grind (arith, nat_tests, common_steps, h)

falls_from_above : (m n : ℕ) (past : List Entry) → m ≤ n → falls_from m past ≡ true → falls_from n past ≡ true
falls_from_above m n [] le h = refl
falls_from_above m n (e ∷ past) le h = grind (arith, nat_tests, common_steps, h)

pub false_is_not_true : false ≡ true → ⊥
false_is_not_true h = cc

stands_later : (b s : Bool) → b ≡ false → (b || s) ≡ true → s ≡ true
stands_later b s f h = let joined_up : (false || s) ≡ true = subst (λ c. (c || s) ≡ true) f h in joined_up

-- whether an entry has a number
abbrev pub stands : ℕ → List Entry → Bool
stands n [] = false
stands n (e ∷ past) = (e.number == n) || stands n past

pub falls_on : (n : ℕ) (e : Entry) (past : List Entry) → falls_from n (e ∷ past) ≡ true → falls_from n past ≡ true
falls_on n e past h = falls_from_above e.number n past (grind (arith, nat_tests, h)) (grind (arith, nat_tests, h))

head_is_other : (n : ℕ) (e : Entry) (past : List Entry) → falls_from n (e ∷ past) ≡ true → (n == e.number) ≡ false
head_is_other n e past h = grind (arith, nat_tests, h)

-- what is open or waits after an entry was open or waited before it, but for the entry itself
opened_before : (c b : Bool) (x : Entry) (y : Option Entry) → b ≡ false →
    (has_opened_request (cond c None (cond b (Some x) y)) || has_opened_attempt (cond c None (cond b (Some x) y))) ≡ true →
    (has_opened_request y || has_opened_attempt y) ≡ true
opened_before true b x y f h = cc
opened_before false true x y f h = cc
opened_before false false x y f h = h

waited_before : (c b : Bool) (x y : Option ℕ) → b ≡ false → is_some (cond c None (cond b x y)) ≡ true → is_some y ≡ true
waited_before true b x y f h = cc
waited_before false true x y f h = cc
waited_before false false x y f h = h

either_before : (o o' w w' : Bool) → (o' ≡ true → o ≡ true) → (w' ≡ true → w ≡ true) → (o' || w') ≡ true → (o || w) ≡ true
either_before true o' w w' f g h = refl
either_before false true w w' f g h = let e = f refl in cc
either_before false false true w' f g h = refl
either_before false false false true f g h = g refl
either_before false false false false f g h = h

-- a number that reserves a place after an entry reserved it before, but for the entry's own
reserves_before : (e : Entry) (past : List Entry) (n : ℕ) → (e.number == n) ≡ false → reserves (e ∷ past) n ≡ true → reserves past n ≡ true
reserves_before e past n other h =
    either_before (is_open past n) (is_open (e ∷ past) n) (is_some (waits_for past n)) (is_some (waits_for (e ∷ past) n))
    (opened_before (closes e.event e.reply n) (e.number == n) e (unclosed past n) other)
    (waited_before (ends_waiting e.event e.reply n) (e.number == n) (joined e.reply) (waits_for past n) other)
    h

choice_falls : (b b' : Bool) → (b' ≡ true → b ≡ true) → (if b' then 1 else 0) ≤ (if b then 1 else 0)
choice_falls b false f = omega arith
choice_falls true true f = omega arith
choice_falls false true f = let e = f refl in absurd (false_is_not_true e)

abbrev place_if : Bool → ℕ
place_if b = if b then 1 else 0

place_taken : (b : Bool) → b ≡ true → place_if b ≡ 1
place_taken true h = refl
place_taken false h = absurd (false_is_not_true h)

place_free : (b : Bool) → b ≡ false → place_if b ≡ 0
place_free true h = absurd (false_is_not_true (sym h))
place_free false h = refl

-- the entries before an entry reserve no more after it
fewer : (e : Entry) (past xs : List Entry) → falls_from e.number xs ≡ true → reserved_among (e ∷ past) xs ≤ reserved_among past xs
fewer e past [] h = omega arith
fewer e past (x ∷ xs) h =
    let here = choice_falls (reserves past x.number) (reserves (e ∷ past) x.number) (reserves_before e past x.number (head_is_other e.number x xs h)) in
    let rest = fewer e past xs (falls_on e.number x xs h) in
    omega arith

-- an entry reserves at most one place more
pub one_more : (e : Entry) (past : List Entry) → falls_from e.number past ≡ true → reserved_places (e ∷ past) ≤ reserved_places past + 1
one_more e past h =
    let own = choice_falls true (reserves (e ∷ past) e.number) (λ _. refl) in
    let rest = fewer e past past h in
    omega arith

one_less_at : (e : Entry) (past : List Entry) (n : ℕ) (x : Entry) (xs : List Entry) (b : Bool) → (x.number == n) ≡ b →
    falls_from e.number (x ∷ xs) ≡ true → reserves past n ≡ true → reserves (e ∷ past) n ≡ false →
    (b ≡ false → reserved_among (e ∷ past) xs + 1 ≤ reserved_among past xs) →
    reserved_among (e ∷ past) (x ∷ xs) + 1 ≤ reserved_among past (x ∷ xs)
one_less_at e past n x xs true is h f g later =
    let same : x.number ≡ n = grind (arith, nat_tests, is) in
    let before : reserves past x.number ≡ true = subst (λ m. reserves past m ≡ true) (sym same) f in
    let now : reserves (e ∷ past) x.number ≡ false = subst (λ m. reserves (e ∷ past) m ≡ false) (sym same) g in
    let rest = fewer e past xs (falls_on e.number x xs h) in
    let one = place_taken (reserves past x.number) before in
    let none = place_free (reserves (e ∷ past) x.number) now in
    omega arith
one_less_at e past n x xs false is h f g later =
    let here = choice_falls (reserves past x.number) (reserves (e ∷ past) x.number) (reserves_before e past x.number (head_is_other e.number x xs h)) in
    let rest = later refl in
    omega arith

-- an entry that gives back the place of n leaves one less
one_less : (e : Entry) (past : List Entry) (n : ℕ) (xs : List Entry) → falls_from e.number xs ≡ true → stands n xs ≡ true →
    reserves past n ≡ true → reserves (e ∷ past) n ≡ false → reserved_among (e ∷ past) xs + 1 ≤ reserved_among past xs
one_less e past n [] h s f g = absurd (false_is_not_true s)
one_less e past n (x ∷ xs) h s f g =
    one_less_at e past n x xs (x.number == n) refl h f g
    (λ other. one_less e past n xs (falls_on e.number x xs h) (stands_later (x.number == n) (stands n xs) other s) f g)

-- what is open or waits has an entry of its number
open_by : (c b s : Bool) (x : Entry) (y : Option Entry) →
    ((has_opened_request y || has_opened_attempt y) ≡ true → s ≡ true) →
    (has_opened_request (cond c None (cond b (Some x) y)) || has_opened_attempt (cond c None (cond b (Some x) y))) ≡ true → (b || s) ≡ true
open_by true b s x y f h = absurd (false_is_not_true h)
open_by false true s x y f h = refl
open_by false false s x y f h = f h

pub open_stands : (past : List Entry) (n : ℕ) → is_open past n ≡ true → stands n past ≡ true
open_stands [] n h = absurd (false_is_not_true h)
open_stands (e ∷ past) n h =
    open_by (closes e.event e.reply n) (e.number == n) (stands n past) e (unclosed past n) (open_stands past n) h

waits_by : (c b s : Bool) (x y : Option ℕ) → (is_some y ≡ true → s ≡ true) → is_some (cond c None (cond b x y)) ≡ true → (b || s) ≡ true
waits_by true b s x y f h = absurd (false_is_not_true h)
waits_by false true s x y f h = refl
waits_by false false s x y f h = f h

waits_stands : (past : List Entry) (n : ℕ) → is_some (waits_for past n) ≡ true → stands n past ≡ true
waits_stands [] n h = absurd (false_is_not_true h)
waits_stands (e ∷ past) n h =
    waits_by (ends_waiting e.event e.reply n) (e.number == n) (stands n past) (joined e.reply) (waits_for past n) (waits_stands past n) h

-- what reserves a place has an entry of its number
reserves_by : (o w s : Bool) → (o ≡ true → s ≡ true) → (w ≡ true → s ≡ true) → (o || w) ≡ true → s ≡ true
reserves_by true w s f g h = f refl
reserves_by false w s f g h = g h

reserves_stands : (past : List Entry) (n : ℕ) → reserves past n ≡ true → stands n past ≡ true
reserves_stands past n = reserves_by (is_open past n) (is_some (waits_for past n)) (stands n past) (open_stands past n) (waits_stands past n)

-- an entry that opens nothing and joins nothing reserves no place
nothing_opened : (c b : Bool) (x : Entry) (y : Option Entry) → b ≡ true → opens_request x.event x.reply ≡ false → opens_attempt x.event x.reply ≡ false →
    (has_opened_request (cond c None (cond b (Some x) y)) || has_opened_attempt (cond c None (cond b (Some x) y))) ≡ false
nothing_opened true b x y is f g = refl
nothing_opened false true x y is f g = cc
nothing_opened false false x y is f g = absurd (false_is_not_true is)

nothing_joined : (c b : Bool) (x y : Option ℕ) → b ≡ true → x ≡ None → is_some (cond c None (cond b x y)) ≡ false
nothing_joined true b x y is f = refl
nothing_joined false true x y is f = cc
nothing_joined false false x y is f = absurd (false_is_not_true is)

pub neither : (o w : Bool) → o ≡ false → w ≡ false → (o || w) ≡ false
neither o w f g = cc

pub same_number : (n : ℕ) → (n == n) ≡ true
same_number n = grind (arith, nat_tests)

pub reserves_nothing : (e : Entry) (past : List Entry) → opens_request e.event e.reply ≡ false → opens_attempt e.event e.reply ≡ false → joined e.reply ≡ None →
    reserves (e ∷ past) e.number ≡ false
reserves_nothing e past f g h =
    neither (is_open (e ∷ past) e.number) (is_some (waits_for (e ∷ past) e.number))
    (nothing_opened (closes e.event e.reply e.number) (e.number == e.number) e (unclosed past e.number) (same_number e.number) f g)
    (nothing_joined (ends_waiting e.event e.reply e.number) (e.number == e.number) (joined e.reply) (waits_for past e.number) (same_number e.number) h)

-- an entry that closes or leaves what reserved a place, and opens nothing, gives that place back
pub given_back : (e : Entry) (past : List Entry) (n : ℕ) → falls_from e.number past ≡ true → reserves past n ≡ true → reserves (e ∷ past) n ≡ false →
    reserves (e ∷ past) e.number ≡ false → reserved_places (e ∷ past) + 1 ≤ reserved_places past
given_back e past n h f g own =
    let rest = one_less e past n past h (reserves_stands past n f) f g in
    let none = place_free (reserves (e ∷ past) e.number) own in
    omega arith

pub one_at_most : (b : Bool) → (if b then 1 else 0) ≤ 1
one_at_most true = omega arith
one_at_most false = omega arith

reserved_among_at_most : (all past : List Entry) → reserved_among all past ≤ length past
reserved_among_at_most all [] = omega arith
reserved_among_at_most all (e ∷ past) =
    let here = one_at_most (reserves all e.number) in
    let rest = reserved_among_at_most all past in
    omega arith

-- each entry reserves one place at most
pub reserved_at_most : (past : List Entry) → reserved_places past ≤ length past
reserved_at_most past = reserved_among_at_most past past

-- where even a place for each entry is left, none is lacking
pub places_left : (limit kept : ℕ) (d : Daemon) → limit ≡ d.settings.journal_limit → kept ≡ length d.past →
    2 * kept + 2 ≤ limit → nat_lt limit (2 * kept + 2) ≡ lacks_places d
places_left limit kept d l k h =
    let most = reserved_at_most d.past in
    let here : nat_lt limit (2 * kept + 2) ≡ false = grind (arith, nat_tests, h) in
    let none : lacks_places d ≡ false = grind (arith, nat_tests, l, k, h, most) in
    here ∙ sym none

-- and numbers likewise
pub numbers_left : (last next kept : ℕ) (d : Daemon) → last ≡ 2 ^ 64 - 1 → next ≡ next_number d → kept ≡ length d.past →
    next + kept + 2 ≤ last → nat_lt last (next + kept + 2) ≡ lacks_numbers d
numbers_left last next kept d l n k h =
    let most = reserved_at_most d.past in
    let here : nat_lt last (next + kept + 2) ≡ false = grind (arith, nat_tests, h) in
    let none : lacks_numbers d ≡ false = grind (arith, nat_tests, l, n, k, h, most) in
    here ∙ sym none

-- a number that an entry has is below the next
pub stands_below : (next n : ℕ) (past : List Entry) → falls_from next past ≡ true → stands n past ≡ true → n < next
stands_below next n [] h s = absurd (false_is_not_true s)
stands_below next n (e ∷ past) h s = at_entry (e.number == n) refl (λ f. stands_below next n past (falls_on next e past h) f) s
  where
    at_entry : (b : Bool) → (e.number == n) ≡ b → (stands n past ≡ true → n < next) → (b || stands n past) ≡ true → n < next
    at_entry true is later f = grind (arith, nat_tests, h, is)
    at_entry false is later f = later f
