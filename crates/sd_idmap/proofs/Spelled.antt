-- What reading has gone over, and that it reads the SID of each text that spells one.
use Rattle.std.specs.Prelude.{nat_lt, nat_le, ◌==◌, ◌&&◌}
use Rattle.std.proofs.Common.{◌≡◌, ◌<◌, ◌≤◌, ℕ, zero, suc, ◌+◌, ◌-◌, ◌*◌, ◌/◌, ◌%◌, ◌^◌, Bool, true, false, cond, List, [], ◌∷◌, ◌++◌, length, take, Option, Some, None, refl, sym, ap, subst, ◌∙◌, append_assoc, arith, inl, inr}
use Rattle.std.specs.List.{list_all}
use Rattle.std.specs.Option.{option_and_then}
use Rattle.std.specs.Fmt.{decimal}
use Rattle.std.proofs.lemmas.Bool.{cases_Bool, and_parts, and_from, ltb-true, leb-true, lt-ltb, le-leb, eqb-true, ne_eqb}
use Rattle.std.proofs.lemmas.List.{append-nil, length_push}
use Rattle.std.proofs.lemmas.List.Folds.{list_all-append}
use Rattle.std.proofs.lemmas.Fmt.{decimal_digit, decimal_step}
use Rattle.sd_idmap.specs.declared.reading.Stage.{Stage}
use Rattle.sd_idmap.specs.declared.reading.Stage.TheVariants.{Lead, Begin, Number}
use Rattle.sd_idmap.specs.declared.reading.Next.{Next}
use Rattle.sd_idmap.specs.declared.reading.Next.TheVariants.{Goes, Ends}
use Rattle.sd_idmap.specs.Sids.{part, text_of, are_numbers}
use Rattle.sd_idmap.specs.Reading.{Progress, start, greatest, is_digit, in_lead, first_digit, one_more_digit, in_number, next_at, gone, gone_by, step, run}
use Rattle.sd_idmap.proofs.Texts.{text_push}

-- ---- tests

some_by : {A : Type 0} (t : Bool) (x y : A) → cond t (Some x) None ≡ Some y → (t ≡ true) × (x ≡ y)
some_by true x y h = (refl, cc)
some_by false x y h = absurd cc

pub is_digit_from : (d : ℕ) → d < 10 → is_digit (48 + d) ≡ true
is_digit_from d h = and_from (nat_le 48 (48 + d)) (nat_le (48 + d) 57) (le-leb 48 (48 + d) (omega arith)) (le-leb (48 + d) 57 (omega arith))

digit_bounds : (b : ℕ) → is_digit b ≡ true → (48 ≤ b) × (b ≤ 57)
digit_bounds b h =
    let p = and_parts (nat_le 48 b) (nat_le b 57) h in
    (leb-true 48 b p.0, leb-true b 57 p.1)

pub greatest_small : (count : ℕ) → (9 ≤ greatest count) × (greatest count < 2 ^ 48)
greatest_small count =
    elim (count == 0) as (λ v. (9 ≤ cond v (2 ^ 48 - 1) (2 ^ 32 - 1)) × (cond v (2 ^ 48 - 1) (2 ^ 32 - 1) < 2 ^ 48)) [ true ↦ (omega arith, omega arith) | false ↦ (omega arith, omega arith) ]

pub greatest_part : (count : ℕ) → greatest (suc count) ≡ 2 ^ 32 - 1
greatest_part count = rw (ne_eqb (suc count) 0 (λ e. omega (arith, e))) refl

-- ---- numbers that fit

pub are_push : (whole : List ℕ) (n : ℕ) → are_numbers whole ≡ true → n ≤ greatest (length whole) → are_numbers (whole ++ n ∷ []) ≡ true
are_push [] n ok fits = and_from (nat_lt n (2 ^ 48)) true (lt-ltb n (2 ^ 48) (omega (arith, (greatest_small 0).1, fits))) refl
are_push (a ∷ ps) n ok fits =
    let p = and_parts (nat_lt a (2 ^ 48)) (list_all (λ m. nat_lt m (2 ^ 32)) ps) ok in
    let small : n ≤ 2 ^ 32 - 1 = subst (λ (g : ℕ). n ≤ g) (greatest_part (length ps)) fits in
    and_from (nat_lt a (2 ^ 48)) (list_all (λ m. nat_lt m (2 ^ 32)) (ps ++ n ∷ [])) p.0
    (list_all-append (λ m. nat_lt m (2 ^ 32)) ps (n ∷ [])
    ∙ and_from (list_all (λ m. nat_lt m (2 ^ 32)) ps) (nat_lt n (2 ^ 32) && true) p.1 (and_from (nat_lt n (2 ^ 32)) true (lt-ltb n (2 ^ 32) (omega arith)) refl))

pub are_front : (whole : List ℕ) (n : ℕ) (more : List ℕ) → are_numbers (whole ++ n ∷ more) ≡ true → n ≤ greatest (length whole)
are_front [] n more ok =
    let p = and_parts (nat_lt n (2 ^ 48)) (list_all (λ m. nat_lt m (2 ^ 32)) more) ok in
    let small : n < 2 ^ 48 = ltb-true n (2 ^ 48) p.0 in
    omega arith
are_front (a ∷ ps) n more ok =
    let p = and_parts (nat_lt a (2 ^ 48)) (list_all (λ m. nat_lt m (2 ^ 32)) (ps ++ n ∷ more)) ok in
    let q = and_parts (list_all (λ m. nat_lt m (2 ^ 32)) ps) (list_all (λ m. nat_lt m (2 ^ 32)) (n ∷ more)) (sym (list_all-append (λ m. nat_lt m (2 ^ 32)) ps (n ∷ more)) ∙ p.1) in
    let r = and_parts (nat_lt n (2 ^ 32)) (list_all (λ m. nat_lt m (2 ^ 32)) more) q.1 in
    let small : n < 2 ^ 32 = ltb-true n (2 ^ 32) r.0 in
    subst (λ (g : ℕ). n ≤ g) (sym (greatest_part (length ps))) (omega arith)

-- ---- what was read so far

-- the numbers fit, and there is room for the one at hand
abbrev pub IsGood : List ℕ → Stage → Type 0
IsGood whole (Lead read) = (whole ≡ []) × (read ≤ 3)
IsGood whole Begin = (are_numbers whole ≡ true) × (length whole ≤ 15)
IsGood whole (Number n) = (are_numbers whole ≡ true) × (length whole ≤ 15) × (n ≤ greatest (length whole))

abbrev pub gone_over : List ℕ → Stage → List ℕ
gone_over whole (Lead read) = take read (83 ∷ 45 ∷ 49 ∷ 45 ∷ [])
gone_over whole Begin = text_of whole ++ 45 ∷ []
gone_over whole (Number n) = text_of (whole ++ n ∷ [])

pub record Moved (text : List ℕ) (p : Progress) : Type 0 where
  pub good : IsGood p.whole p.stage
  pub over : gone_over p.whole p.stage ≡ text

in_lead_moves : (read b : ℕ) (n : Next) → read ≤ 3 → in_lead read b ≡ Some n → Moved (gone_over [] (Lead read) ++ b ∷ []) (gone [] n)
in_lead_moves zero b n low h =
    let p = some_by (b == 83) (Goes (Lead 1)) n h in
    subst (λ (m : Next). Moved (b ∷ []) (gone [] m)) p.1 (record { good = (refl, omega arith); over = ap (λ (c : ℕ). c ∷ []) (sym (eqb-true b 83 p.0)) })
in_lead_moves (suc zero) b n low h =
    let p = some_by (b == 45) (Goes (Lead 2)) n h in
    subst (λ (m : Next). Moved (83 ∷ b ∷ []) (gone [] m)) p.1 (record { good = (refl, omega arith); over = ap (λ (c : ℕ). 83 ∷ c ∷ []) (sym (eqb-true b 45 p.0)) })
in_lead_moves (suc (suc zero)) b n low h =
    let p = some_by (b == 49) (Goes (Lead 3)) n h in
    subst (λ (m : Next). Moved (83 ∷ 45 ∷ b ∷ []) (gone [] m)) p.1 (record { good = (refl, omega arith); over = ap (λ (c : ℕ). 83 ∷ 45 ∷ c ∷ []) (sym (eqb-true b 49 p.0)) })
in_lead_moves (suc (suc (suc zero))) b n low h =
    let p = some_by (b == 45) (Goes Begin) n h in
    subst (λ (m : Next). Moved (83 ∷ 45 ∷ 49 ∷ b ∷ []) (gone [] m)) p.1 (record { good = (refl, omega arith); over = ap (λ (c : ℕ). 83 ∷ 45 ∷ 49 ∷ c ∷ []) (sym (eqb-true b 45 p.0)) })
in_lead_moves (suc (suc (suc (suc read)))) b n low h = absurd (omega arith)

text_digit : (whole : List ℕ) (b : ℕ) → 48 ≤ b → b ≤ 57 → text_of (whole ++ (b - 48) ∷ []) ≡ (text_of whole ++ 45 ∷ []) ++ b ∷ []
text_digit whole b low high =
    let back : 48 + (b - 48) ≡ b = omega arith in
    text_push whole (b - 48)
    ∙ (ap (λ (w : List ℕ). text_of whole ++ (45 ∷ w)) (decimal_digit (b - 48) (omega arith) ∙ ap (λ (c : ℕ). c ∷ []) back)
    ∙ sym (append_assoc (text_of whole) (45 ∷ []) (b ∷ [])))

begin_moves : (whole : List ℕ) (b : ℕ) (n : Next) → are_numbers whole ≡ true → length whole ≤ 15 → first_digit b ≡ Some n → Moved ((text_of whole ++ 45 ∷ []) ++ b ∷ []) (gone whole n)
begin_moves whole b n ok room h =
    let p = some_by (is_digit b) (Goes (Number (b - 48))) n h in
    let d = digit_bounds b p.0 in
    let fits : b - 48 ≤ greatest (length whole) = omega (arith, (greatest_small (length whole)).0, d.1) in
    subst (λ (m : Next). Moved ((text_of whole ++ 45 ∷ []) ++ b ∷ []) (gone whole m)) p.1 (record { good = (ok, room, fits); over = text_digit whole b d.0 d.1 })

decimal_more : (n b : ℕ) → 0 < n → n < 2 ^ 48 → 48 ≤ b → b ≤ 57 → decimal (10 * n + (b - 48)) ≡ decimal n ++ b ∷ []
decimal_more n b some small low high =
    let v : ℕ = 10 * n + (b - 48) in
    let tens : v / 10 ≡ n = omega arith in
    let ones : 48 + v % 10 ≡ b = omega arith in
    decimal_step v (omega arith) (omega arith) ∙ (ap (λ (m : ℕ). decimal m ++ ((48 + v % 10) ∷ [])) tens ∙ ap (λ (c : ℕ). decimal n ++ c ∷ []) ones)

text_more : (whole : List ℕ) (n b : ℕ) → 0 < n → n < 2 ^ 48 → 48 ≤ b → b ≤ 57 → text_of (whole ++ (10 * n + (b - 48)) ∷ []) ≡ text_of (whole ++ n ∷ []) ++ b ∷ []
text_more whole n b some small low high =
    text_push whole (10 * n + (b - 48))
    ∙ (ap (λ (w : List ℕ). text_of whole ++ (45 ∷ w)) (decimal_more n b some small low high)
    ∙ (sym (append_assoc (text_of whole) (part n) (b ∷ []))
    ∙ ap (λ (w : List ℕ). w ++ b ∷ []) (sym (text_push whole n))))

number_moves : (whole : List ℕ) (n b : ℕ) (m : Next) → IsGood whole (Number n) → in_number (length whole) n b ≡ Some m → Moved (text_of (whole ++ n ∷ []) ++ b ∷ []) (gone whole m)
number_moves whole n b m good h =
    elim (cases_Bool (is_digit b)) [
      | inl e ↦
          let d = digit_bounds b e in
          let more : ℕ = 10 * n + (b - 48) in
          let taken : one_more_digit (length whole) n (b - 48) ≡ Some m = sym (ap (λ (t : Bool). cond t (one_more_digit (length whole) n (b - 48)) (cond ((b == 45) && nat_lt (length whole) 15) (Some (Ends n)) None)) e) ∙ h in
          let p = some_by (nat_lt 0 n && nat_le more (greatest (length whole))) (Goes (Number more)) m taken in
          let q = and_parts (nat_lt 0 n) (nat_le more (greatest (length whole))) p.0 in
          let some : 0 < n = ltb-true 0 n q.0 in
          let fits : more ≤ greatest (length whole) = leb-true more (greatest (length whole)) q.1 in
          let small : n < 2 ^ 48 = omega (arith, (greatest_small (length whole)).1, good.2) in
          subst (λ (k : Next). Moved (text_of (whole ++ n ∷ []) ++ b ∷ []) (gone whole k)) p.1
          (record { good = (good.0, good.1, fits); over = text_more whole n b some small d.0 d.1 })
      | inr e ↦
          let taken : cond ((b == 45) && nat_lt (length whole) 15) (Some (Ends n)) None ≡ Some m = sym (ap (λ (t : Bool). cond t (one_more_digit (length whole) n (b - 48)) (cond ((b == 45) && nat_lt (length whole) 15) (Some (Ends n)) None)) e) ∙ h in
          let p = some_by ((b == 45) && nat_lt (length whole) 15) (Ends n) m taken in
          let q = and_parts (b == 45) (nat_lt (length whole) 15) p.0 in
          let room : length whole < 15 = ltb-true (length whole) 15 q.1 in
          let longer : length (whole ++ n ∷ []) ≤ 15 = omega (arith, length_push whole n, room) in
          subst (λ (k : Next). Moved (text_of (whole ++ n ∷ []) ++ b ∷ []) (gone whole k)) p.1
          (record { good = (are_push whole n good.0 good.2, longer); over = ap (λ (c : ℕ). text_of (whole ++ n ∷ []) ++ c ∷ []) (sym (eqb-true b 45 q.0)) })
    ]

moves_by : (whole : List ℕ) (stage : Stage) (b : ℕ) (n : Next) → IsGood whole stage → next_at (length whole) stage b ≡ Some n → Moved (gone_over whole stage ++ b ∷ []) (gone whole n)
moves_by whole (Lead read) b n good h =
    subst (λ (w : List ℕ). Moved (gone_over w (Lead read) ++ b ∷ []) (gone w n)) (sym good.0) (in_lead_moves read b n good.1 h)
moves_by whole Begin b n good h = begin_moves whole b n good.0 good.1 h
moves_by whole (Number k) b n good h = number_moves whole k b n good h

step_moves : (p q : Progress) (b : ℕ) → IsGood p.whole p.stage → step p b ≡ Some q → Moved (gone_over p.whole p.stage ++ b ∷ []) q
step_moves p q b good h = by (next_at (length p.whole) p.stage b) refl h
  where
    by : (o : Option Next) → next_at (length p.whole) p.stage b ≡ o → gone_by p.whole o ≡ Some q → Moved (gone_over p.whole p.stage ++ b ∷ []) q
    by None is went = absurd cc
    by (Some n) is went =
        let same : gone p.whole n ≡ q = cc in
        subst (λ (r : Progress). Moved (gone_over p.whole p.stage ++ b ∷ []) r) same (moves_by p.whole p.stage b n good is)

-- what reading reaches is good, and it has gone over all bytes
pub run_moves : (p : Progress) (xs : List ℕ) (q : Progress) → IsGood p.whole p.stage → run p xs ≡ Some q → Moved (gone_over p.whole p.stage ++ xs) q
run_moves p [] q good h =
    let same : p ≡ q = cc in
    subst (λ (r : Progress). Moved (gone_over p.whole p.stage ++ []) r) same (record { good = good; over = sym (append-nil (gone_over p.whole p.stage)) })
run_moves p (b ∷ bs) q good h = by (step p b) refl h (λ r g k. run_moves r bs q g k)
  where
    by : (o : Option Progress) → step p b ≡ o → option_and_then (λ r. run r bs) o ≡ Some q → ((r : Progress) → IsGood r.whole r.stage → run r bs ≡ Some q → Moved (gone_over r.whole r.stage ++ bs) q) → Moved (gone_over p.whole p.stage ++ (b ∷ bs)) q
    by None is went rest = absurd cc
    by (Some r) is went rest =
        let first = step_moves p r b good is in
        let text : gone_over r.whole r.stage ++ bs ≡ gone_over p.whole p.stage ++ (b ∷ bs) = ap (λ (w : List ℕ). w ++ bs) first.over ∙ append_assoc (gone_over p.whole p.stage) (b ∷ []) bs in
        subst (λ (w : List ℕ). Moved w q) text (rest r first.good went)

pub start_moves : (xs : List ℕ) (q : Progress) → run start xs ≡ Some q → Moved xs q
start_moves xs q h = run_moves start xs q (refl, omega arith) h
