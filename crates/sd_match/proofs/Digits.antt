-- Numbers by their digits.
use Rattle.std.proofs.Common.{◌≡◌, ℕ, zero, suc, ◌+◌, ◌-◌, ◌*◌, ◌^◌, ◌<◌, ◌≤◌, min, Bool, true, false, List, [], ◌∷◌, ◌++◌, length, take, drop, replicate, fold, refl, sym, ap, subst, ◌∙◌, arith, true≢false, inl, inr, length-append, length-take, length-drop, take-append-drop, mul-le-mul_right, lt_of_lt_of_le, le_trans}
use Rattle.std.specs.Prelude.{◌==◌, ◌&&◌, nat_le}
use Rattle.std.specs.List.{list_all}
use Rattle.std.specs.Cmp.Lexicographic.{pointwise}
use Rattle.std.proofs.lemmas.Bool.{and_parts, and_from, cases_Bool, leb-true, le-leb, eqb-true, eqb-false, eq-eqb, ne_eqb}
use Rattle.std.proofs.lemmas.List.{length-replicate}
use Rattle.sd_entry.specs.Values.{is_digit, value_of}
use Rattle.sd_match.specs.Matching.{are_digits, is_short_number}

abbrev value_from : ℕ → List ℕ → ℕ
value_from n digits = fold (λ m b. 10 * m + (b - 48)) n digits

abbrev same_bytes : List ℕ → List ℕ → Bool
same_bytes = pointwise ◌==◌

digit_from : (b : ℕ) → is_digit b ≡ true → 48 ≤ b
digit_from b h = leb-true 48 b (and_parts (nat_le 48 b) (nat_le b 57) h).0

digit_to : (b : ℕ) → is_digit b ≡ true → b ≤ 57
digit_to b h = leb-true b 57 (and_parts (nat_le 48 b) (nat_le b 57) h).1

same_step : (n m b c : ℕ) → 48 ≤ b → b ≤ 57 → 48 ≤ c → c ≤ 57 → (10 * n + (b - 48) == 10 * m + (c - 48)) ≡ ((n == m) && (b == c))
same_step n m b c b1 b2 c1 c2 =
    elim (cases_Bool (n == m)) [
      | inl e ↦ let p : n ≡ m = eqb-true n m e in elim (cases_Bool (b == c)) [
        | inl f ↦ let q : b ≡ c = eqb-true b c f in rw (e, f) (eq-eqb (10 * n + (b - 48)) (10 * m + (c - 48)) (omega arith))
        | inr f ↦ rw (e, f) (ne_eqb (10 * n + (b - 48)) (10 * m + (c - 48)) (λ q. eqb-false b c f (omega arith)))
      ]
      | inr e ↦ rw e (ne_eqb (10 * n + (b - 48)) (10 * m + (c - 48)) (λ q. eqb-false n m e (omega arith)))
    ]

and_true : (t : Bool) → t ≡ (t && true)
and_true true = refl
and_true false = refl

and_again : (a b c : Bool) → ((a && b) && c) ≡ (a && (b && c))
and_again true b c = refl
and_again false b c = refl

min_first : (k n : ℕ) → k ≤ n → min k n ≡ k
min_first k n h = grind arith

-- numbers with as many digits are equal where the digits are
same_values : (xs ys : List ℕ) (n m : ℕ) → length xs ≡ length ys → list_all is_digit xs ≡ true → list_all is_digit ys ≡ true → (value_from n xs == value_from m ys) ≡ ((n == m) && same_bytes xs ys)
same_values [] [] n m l p q = and_true (n == m)
same_values [] (y ∷ ys) n m l p q = absurd (omega arith)
same_values (x ∷ xs) [] n m l p q = absurd (omega arith)
same_values (x ∷ xs) (y ∷ ys) n m l p q =
    let a = and_parts (is_digit x) (list_all is_digit xs) p in
    let b = and_parts (is_digit y) (list_all is_digit ys) q in
    same_values xs ys (10 * n + (x - 48)) (10 * m + (y - 48)) (omega arith) a.1 b.1
    ∙ (ap (λ (t : Bool). t && same_bytes xs ys) (same_step n m x y (digit_from x a.0) (digit_to x a.0) (digit_from y b.0) (digit_to y b.0))
    ∙ and_again (n == m) (x == y) (same_bytes xs ys))

-- zeros in front
zeros_value : (k : ℕ) (ys : List ℕ) → value_from 0 (replicate k 48 ++ ys) ≡ value_from 0 ys
zeros_value zero ys = refl
zeros_value (suc k) ys = zeros_value k ys

zeros_digits : (k : ℕ) (ys : List ℕ) → list_all is_digit ys ≡ true → list_all is_digit (replicate k 48 ++ ys) ≡ true
zeros_digits zero ys h = h
zeros_digits (suc k) ys h = zeros_digits k ys h

zeros_front : (front back short : List ℕ) → (list_all (λ b. b == 48) front && same_bytes back short) ≡ same_bytes (front ++ back) (replicate (length front) 48 ++ short)
zeros_front [] back short = refl
zeros_front (f ∷ fs) back short = and_again (f == 48) (list_all (λ b. b == 48) fs) (same_bytes back short) ∙ ap (λ (t : Bool). (f == 48) && t) (zeros_front fs back short)

pub same_as_shorter : (long short : List ℕ) (k : ℕ) → k + length short ≡ length long → list_all is_digit long ≡ true → list_all is_digit short ≡ true
    → (list_all (λ b. b == 48) (take k long) && same_bytes (drop k long) short) ≡ (value_of long == value_of short)
same_as_shorter long short k l p q =
    let n : ℕ = length (take k long) in
    let as_long : n ≡ k = length-take k long ∙ min_first k (length long) (omega arith) in
    let padded : List ℕ = replicate n 48 ++ short in
    let len : length long ≡ length padded = sym l ∙ (ap (λ (x : ℕ). x + length short) (sym as_long ∙ sym (length-replicate n 48)) ∙ sym (length-append (replicate n 48) short)) in
    zeros_front (take k long) (drop k long) short
    ∙ (ap (λ (x : List ℕ). same_bytes x padded) (take-append-drop k long)
    ∙ (sym (same_values long padded 0 0 len p (zeros_digits n short q))
    ∙ ap (λ (x : ℕ). value_of long == x) (zeros_value n short)))

-- ---- how large a number can be

abbrev tens : ℕ → ℕ
tens zero = 1
tens (suc n) = 10 * tens n

grows : (a b : ℕ) → a ≤ b → a ≤ 10 * b
grows a b h = omega arith

tens_more : (j k : ℕ) → tens k ≤ tens (j + k)
tens_more zero k = let e : k ≡ zero + k = omega arith in let same : tens k ≤ tens k = omega arith in subst (λ (n : ℕ). tens k ≤ tens n) e same
tens_more (suc j) k = let e : suc (j + k) ≡ suc j + k = omega arith in subst (λ (n : ℕ). tens k ≤ tens n) e (grows (tens k) (tens (j + k)) (tens_more j k))

below_tens : (v m n t : ℕ) → v < (m + 1) * t → m ≤ 10 * n + 9 → v < (n + 1) * (10 * t)
below_tens v m n t h le =
    let more : (m + 1) * t ≤ (10 * n + 10) * t = mul-le-mul_right t (omega arith) in
    omega arith

least : (v t : ℕ) → v < (0 + 1) * t → t ≤ 10000000000000000000 → v < 10000000000000000000
least v t h le = omega arith

value_below : (xs : List ℕ) (n : ℕ) → list_all is_digit xs ≡ true → value_from n xs < (n + 1) * tens (length xs)
value_below [] n p = omega arith
value_below (x ∷ xs) n p =
    let a = and_parts (is_digit x) (list_all is_digit xs) p in
    let d : x ≤ 57 = digit_to x a.0 in
    below_tens (value_from (10 * n + (x - 48)) xs) (10 * n + (x - 48)) n (tens (length xs)) (value_below xs (10 * n + (x - 48)) a.1) (omega arith)

pub short_value : (text : List ℕ) → is_short_number text ≡ true → value_of text < 10000000000000000000
short_value text h =
    let a = and_parts (are_digits text) (nat_le (length text) 19) h in
    let digits = and_parts (nat_le 1 (length text)) (list_all is_digit text) a.0 in
    let short : length text ≤ 19 = leb-true (length text) 19 a.1 in
    let all : (19 - length text) + length text ≡ 19 = omega arith in
    let most : tens (length text) ≤ tens 19 = subst (λ (n : ℕ). tens (length text) ≤ tens n) all (tens_more (19 - length text) (length text)) in
    let below : value_of text < (0 + 1) * tens (length text) = value_below text 0 digits.1 in
    least (value_of text) (tens (length text)) below most

pub unlimited : (text : List ℕ) → is_short_number text ≡ true → min (value_of text) (2 ^ 128 - 1) ≡ value_of text
unlimited text h = let below : value_of text < 10000000000000000000 = short_value text h in min_first (value_of text) (2 ^ 128 - 1) (omega arith)

pub split_same : (long short front back : List ℕ) (z e : Bool) → front ≡ take (length long - length short) long → back ≡ drop (length long - length short) long
    → z ≡ list_all (λ b. b == 48) front → z ≡ true → e ≡ same_bytes back short → length short ≤ length long → list_all is_digit long ≡ true → list_all is_digit short ≡ true
    → e ≡ (value_of long == value_of short)
split_same long short front back z e f b zeros all same le p q =
    let k : ℕ = length long - length short in
    let whole : k + length short ≡ length long = omega arith in
    let z1 : list_all (λ b. b == 48) (take k long) ≡ true = ap (λ (t : List ℕ). list_all (λ b. b == 48) t) (sym f) ∙ (sym zeros ∙ all) in
    same
    ∙ (ap (λ (t : List ℕ). same_bytes t short) b
    ∙ (sym (ap (λ (t : Bool). t && same_bytes (drop k long) short) z1)
    ∙ same_as_shorter long short k whole p q))

pub split_differs : (long short front back : List ℕ) (z : Bool) → front ≡ take (length long - length short) long
    → z ≡ list_all (λ b. b == 48) front → z ≡ false → length short ≤ length long → list_all is_digit long ≡ true → list_all is_digit short ≡ true
    → z ≡ (value_of long == value_of short)
split_differs long short front back z f zeros none le p q =
    let k : ℕ = length long - length short in
    let whole : k + length short ≡ length long = omega arith in
    let z1 : list_all (λ b. b == 48) (take k long) ≡ false = ap (λ (t : List ℕ). list_all (λ b. b == 48) t) (sym f) ∙ (sym zeros ∙ none) in
    none
    ∙ (sym (ap (λ (t : Bool). t && same_bytes (drop k long) short) z1)
    ∙ same_as_shorter long short k whole p q)
