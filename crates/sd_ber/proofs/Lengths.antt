-- A length is spelled by the octets that are written for it, by no fewer ones, and read again.
use Rattle.std.proofs.Common.{◌≡◌, ℕ, zero, suc, ◌+◌, ◌/◌, ◌%◌, ◌^◌, ◌<◌, ◌≤◌, ltb, List, [], ◌∷◌, length, refl, sym, ap, ◌∙◌, arith, inl, inr}
use Rattle.std.specs.Int.{w32, to_be_bytes, from_be_bytes}
use Rattle.std.proofs.lemmas.Bool.{cases_lt, le-ltb, lt-ltb, cond-true, cond-false}
use Rattle.std.proofs.lemmas.Nat.{from_be_bytes-to_be_bytes_4}
use Rattle.sd_ber.specs.Octets.{number, without_zeros, fewest, length_octets}
use Rattle.sd_ber.specs.Grammar.{IsLength, AreOctets}

shorter : (xs : List ℕ) → length (without_zeros xs) ≤ length xs
shorter [] = omega arith
shorter (zero ∷ xs) = omega (arith, shorter xs)
shorter (suc n ∷ xs) = omega arith

same_number : (xs : List ℕ) → number (without_zeros xs) ≡ number xs
same_number [] = refl
same_number (zero ∷ xs) = same_number xs
same_number (suc n ∷ xs) = refl

-- below 2 ^ 32 the four low octets are enough
four : (n : ℕ) → n < 2 ^ 32 → fewest n ≡ without_zeros (to_be_bytes w32 n)
four n h =
    let a : n / 256 ^ 7 % 256 ≡ 0 = omega arith in
    let b : n / 256 ^ 6 % 256 ≡ 0 = omega arith in
    let c : n / 256 ^ 5 % 256 ≡ 0 = omega arith in
    let d : n / 256 ^ 4 % 256 ≡ 0 = omega arith in
    rw (a, b, c, d) refl

four_octets : (n : ℕ) → number (to_be_bytes w32 n) ≡ from_be_bytes w32 (to_be_bytes w32 n)
four_octets n = omega arith

pub number-fewest : (n : ℕ) → n < 2 ^ 32 → number (fewest n) ≡ n
number-fewest n h = ap number (four n h) ∙ same_number (to_be_bytes w32 n) ∙ four_octets n ∙ from_be_bytes-to_be_bytes_4 n h

at_most_four : (n : ℕ) → n < 2 ^ 32 → length (fewest n) ≤ 4
at_most_four n h = rw (four n h) (shorter (to_be_bytes w32 n))

low3 : (n : ℕ) → n < 2 ^ 24 → length (fewest n) ≤ 3
low3 n h =
    let z : n / 256 ^ 3 % 256 ≡ 0 = omega arith in
    rw (four n (omega arith), z) (shorter ((n / 256 ^ 2 % 256) ∷ (n / 256 ^ 1 % 256) ∷ (n % 256) ∷ []))

low2 : (n : ℕ) → n < 2 ^ 16 → length (fewest n) ≤ 2
low2 n h =
    let z : n / 256 ^ 3 % 256 ≡ 0 = omega arith in
    let y : n / 256 ^ 2 % 256 ≡ 0 = omega arith in
    rw (four n (omega arith), z, y) (shorter ((n / 256 ^ 1 % 256) ∷ (n % 256) ∷ []))

low1 : (n : ℕ) → n < 2 ^ 8 → length (fewest n) ≤ 1
low1 n h =
    let z : n / 256 ^ 3 % 256 ≡ 0 = omega arith in
    let y : n / 256 ^ 2 % 256 ≡ 0 = omega arith in
    let x : n / 256 ^ 1 % 256 ≡ 0 = omega arith in
    rw (four n (omega arith), z, y, x) (shorter ((n % 256) ∷ []))

-- no octets that spell a number are fewer than the fewest
few : (octets : List ℕ) → length octets ≤ 4 → 0 < length octets → AreOctets octets → length (fewest (number octets)) ≤ length octets
few [] small some each = omega arith
few (a ∷ []) small some each = low1 (number (a ∷ [])) (omega (arith, each.0))
few (a ∷ b ∷ []) small some each = low2 (number (a ∷ b ∷ [])) (omega (arith, each.0, each.1.0))
few (a ∷ b ∷ c ∷ []) small some each = low3 (number (a ∷ b ∷ c ∷ [])) (omega (arith, each.0, each.1.0, each.1.1.0))
few (a ∷ b ∷ c ∷ d ∷ []) small some each = at_most_four (number (a ∷ b ∷ c ∷ d ∷ [])) (omega (arith, each.0, each.1.0, each.1.1.0, each.1.1.1.0))
few (a ∷ b ∷ c ∷ d ∷ e ∷ more) small some each = absurd (omega arith)

long_octets : (n : ℕ) → 128 ≤ n → length_octets n ≡ (128 + length (fewest n)) ∷ fewest n
long_octets n h = cond-false (ltb n 128) (n ∷ []) ((128 + length (fewest n)) ∷ fewest n) (le-ltb n 128 h)

short_octets : (n : ℕ) → n < 128 → length_octets n ≡ n ∷ []
short_octets n h = cond-true (ltb n 128) (n ∷ []) ((128 + length (fewest n)) ∷ fewest n) (lt-ltb n 128 h)

short_length : (n k : ℕ) → n < 128 → 0 < k → length (length_octets n) ≤ k
short_length n k h some = rw (short_octets n h) (omega arith)

long_length : (n k : ℕ) → 128 ≤ n → length (fewest n) ≤ k → length (length_octets n) ≤ suc k
long_length n k h some = rw (long_octets n h) (omega arith)

-- no octets that spell a length are fewer than those that are written
pub fewest_octets : (n : ℕ) (octets : List ℕ) → AreOctets octets → IsLength octets n → length (length_octets n) ≤ length octets
fewest_octets n [] each h = absurd h
fewest_octets n (first ∷ []) each h = short_length n 1 (omega (arith, h.0, h.1)) (omega arith)
fewest_octets n (first ∷ second ∷ more) each h =
    elim (cases_lt n 128) [
      | inl below ↦ short_length n (suc (suc (length more))) below (omega arith)
      | inr above ↦ long_length n (suc (length more)) above (rw h.2 (few (second ∷ more) h.1 (omega arith) each.1))
    ]

some : (n : ℕ) (octets : List ℕ) → number octets ≡ n → 128 ≤ n → 0 < length octets
some n [] e h = absurd (omega arith)
some n (a ∷ octets) e h = omega arith

of_long : (n : ℕ) (octets : List ℕ) → number octets ≡ n → 0 < length octets → length octets ≤ 4 → IsLength ((128 + length octets) ∷ octets) n
of_long n [] e h l = absurd (omega arith)
of_long n (a ∷ octets) e h l = (refl, l, sym e)

-- what is written for a length spells it
pub spelled : (n : ℕ) → n < 2 ^ 32 → IsLength (length_octets n) n
spelled n h =
    elim (cases_lt n 128) [
      | inl below ↦ rw (short_octets n below) (below, refl)
      | inr above ↦ rw (long_octets n above) (of_long n (fewest n) (number-fewest n h) (some n (fewest n) (number-fewest n h) above) (at_most_four n h))
    ]
