-- Numbers, and parts behind them, are read as what they are.
use Rattle.std.specs.Prelude.{nat_lt, nat_le, ◌==◌, ◌&&◌}
use Rattle.std.proofs.Common.{◌≡◌, ◌<◌, ◌≤◌, ℕ, ◌+◌, ◌-◌, ◌*◌, ◌/◌, ◌%◌, Bool, true, cond, List, [], ◌∷◌, ◌++◌, length, Option, Some, None, refl, sym, ap, ◌∙◌, append_assoc, arith}
use Rattle.std.specs.List.{flat_map}
use Rattle.std.specs.Option.{option_and_then}
use Rattle.std.specs.Fmt.{decimal}
use Rattle.std.proofs.lemmas.Bool.{and_from, lt-ltb, le-leb}
use Rattle.std.proofs.lemmas.List.{append-nil, length_push}
use Rattle.std.proofs.lemmas.Fmt.{decimal_by_steps}
use Rattle.sd_idmap.specs.declared.reading.Stage.TheVariants.{Begin, Number}
use Rattle.sd_idmap.specs.declared.reading.Next.TheVariants.{Goes, Ends}
use Rattle.sd_idmap.specs.Sids.{part, are_numbers}
use Rattle.sd_idmap.specs.Reading.{Progress, at, greatest, one_more_digit, in_number, gone_by, step, run}
use Rattle.sd_idmap.proofs.Spelled.{is_digit_from, greatest_small, are_front}

-- ---- reading a number

on_step : (p q : Progress) (b : ℕ) (rest : List ℕ) → step p b ≡ Some q → run p (b ∷ rest) ≡ run q rest
on_step p q b rest h = ap (λ (o : Option Progress). option_and_then (λ r. run r rest) o) h

begins : (whole : List ℕ) (n : ℕ) → n < 10 → step (at whole Begin) (48 + n) ≡ Some (at whole (Number n))
begins whole n small =
    let back : 48 + n - 48 ≡ n = omega arith in
    rw (is_digit_from n small) (ap (λ (m : ℕ). Some (at whole (Number m))) back)

goes_on : (whole : List ℕ) (n : ℕ) → 10 ≤ n → n ≤ greatest (length whole) → step (at whole (Number (n / 10))) (48 + n % 10) ≡ Some (at whole (Number n))
goes_on whole n large fits =
    let back : 48 + n % 10 - 48 ≡ n % 10 = omega arith in
    let whole_again : 10 * (n / 10) + (48 + n % 10 - 48) ≡ n = omega arith in
    let fits_again : 10 * (n / 10) + (48 + n % 10 - 48) ≤ greatest (length whole) = omega arith in
    let may : (nat_lt 0 (n / 10) && nat_le (10 * (n / 10) + (48 + n % 10 - 48)) (greatest (length whole))) ≡ true = and_from (nat_lt 0 (n / 10)) (nat_le (10 * (n / 10) + (48 + n % 10 - 48)) (greatest (length whole))) (lt-ltb 0 (n / 10) (omega arith)) (le-leb (10 * (n / 10) + (48 + n % 10 - 48)) (greatest (length whole)) fits_again) in
    let more : one_more_digit (length whole) (n / 10) (48 + n % 10 - 48) ≡ Some (Goes (Number n)) = ap (λ (t : Bool). cond t (Some (Goes (Number (10 * (n / 10) + (48 + n % 10 - 48))))) None) may ∙ ap (λ (m : ℕ). Some (Goes (Number m))) whole_again in
    let next : in_number (length whole) (n / 10) (48 + n % 10) ≡ Some (Goes (Number n)) = ap (λ (t : Bool). cond t (one_more_digit (length whole) (n / 10) (48 + n % 10 - 48)) (cond ((48 + n % 10 == 45) && nat_lt (length whole) 15) (Some (Ends (n / 10))) None)) (is_digit_from (n % 10) (omega arith)) ∙ more in
    ap (gone_by whole) next

-- these digits are read as this number
abbrev AreRead : List ℕ → ℕ → List ℕ → Type 0
AreRead whole n ds = n ≤ greatest (length whole) → (rest : List ℕ) → run (at whole Begin) (ds ++ rest) ≡ run (at whole (Number n)) rest

pub number_read : (whole : List ℕ) (n : ℕ) → n ≤ greatest (length whole) → (rest : List ℕ) → run (at whole Begin) (decimal n ++ rest) ≡ run (at whole (Number n)) rest
number_read whole n fits rest =
    decimal_by_steps (AreRead whole)
    (λ m small _ more. on_step (at whole Begin) (at whole (Number m)) (48 + m) more (begins whole m small))
    (λ m ds large before ok more.
    let less : m / 10 ≤ greatest (length whole) = omega arith in
    ap (run (at whole Begin)) (append_assoc ds ((48 + m % 10) ∷ []) more)
    ∙ (before less ((48 + m % 10) ∷ more)
    ∙ on_step (at whole (Number (m / 10))) (at whole (Number m)) (48 + m % 10) more (goes_on whole m large ok)))
    n (omega (arith, (greatest_small (length whole)).1)) fits rest

hyphen : (whole : List ℕ) (n : ℕ) (rest : List ℕ) → length whole < 15 → run (at whole (Number n)) (45 ∷ rest) ≡ run (at (whole ++ n ∷ []) Begin) rest
hyphen whole n rest room = on_step (at whole (Number n)) (at (whole ++ n ∷ []) Begin) 45 rest (rw (lt-ltb (length whole) 15 room) refl)

-- parts behind a number, up to the last
pub parts_read : (ms : List ℕ) (whole : List ℕ) (n r : ℕ) → are_numbers ((whole ++ n ∷ []) ++ (ms ++ r ∷ [])) ≡ true → length whole + length ms < 15 → run (at whole (Number n)) (flat_map part (ms ++ r ∷ [])) ≡ Some (at ((whole ++ n ∷ []) ++ ms) (Number r))
parts_read [] whole n r ok room =
    hyphen whole n (decimal r ++ []) (omega arith)
    ∙ (number_read (whole ++ n ∷ []) r (are_front (whole ++ n ∷ []) r [] ok) []
    ∙ ap (λ (w : List ℕ). Some (at w (Number r))) (sym (append-nil (whole ++ n ∷ []))))
parts_read (m ∷ ms) whole n r ok room =
    let joined : ((whole ++ n ∷ []) ++ m ∷ []) ++ (ms ++ r ∷ []) ≡ (whole ++ n ∷ []) ++ (m ∷ (ms ++ r ∷ [])) = append_assoc (whole ++ n ∷ []) (m ∷ []) (ms ++ r ∷ []) in
    let fits : are_numbers (((whole ++ n ∷ []) ++ m ∷ []) ++ (ms ++ r ∷ [])) ≡ true = ap are_numbers joined ∙ ok in
    let longer : length (whole ++ n ∷ []) ≡ length whole + 1 = length_push whole n in
    let less : length (whole ++ n ∷ []) + length ms < 15 = omega arith in
    hyphen whole n (decimal m ++ flat_map part (ms ++ r ∷ [])) (omega arith)
    ∙ (number_read (whole ++ n ∷ []) m (are_front (whole ++ n ∷ []) m (ms ++ r ∷ []) ok) (flat_map part (ms ++ r ∷ []))
    ∙ (parts_read ms (whole ++ n ∷ []) m r fits less
    ∙ ap (λ (w : List ℕ). Some (at w (Number r))) (append_assoc (whole ++ n ∷ []) (m ∷ []) ms)))
