-- Whether a text spells a DN does not depend on ASCII case.
use Rattle.std.proofs.Common.{◌≡◌, ℕ, suc, ◌+◌, ◌*◌, ◌<◌, ◌≤◌, Bool, true, false, ◌&&◌, ◌||◌, ◌==◌, List, [], ◌∷◌, ◌++◌, length, Option, Some, None, Result, Ok, Err, refl, sym, ap, ◌∙◌, cond, arith, lit<, inl, inr}
use Rattle.std.proofs.lemmas.Bool.{eqb-true, and_parts, cases_lt, lt-ltb, le-ltb}
use Rattle.std.proofs.lemmas.Bool.Decides.{nat_tests}
use Rattle.std.specs.Option.{option_map, option_map_or}
use Rattle.std.specs.Result.{is_ok, result_ok}
use Rattle.std.specs.Char.{eq_ignore_ascii_case, to_ascii_lowercase, is_ascii_hexdigit, digit_value}
use Rattle.sd_dn.specs.declared.Pair.{Pair}
use Rattle.sd_dn.specs.Bytes.{is_type_byte, is_reserved, is_special}
use Rattle.sd_dn.specs.Comparing.{same_text}
use Rattle.sd_dn.specs.Texts.{both_meet, spelled}
use Rattle.sd_dn.specs.Reading.{Progress, Start, BeforeType, InType, BeforeEquals, InValue, InEscape, InHex, step, ending, run, is_dn, is_empty, spaced, grown, type_begun, type_ended, value_taken, pair_ended, rdn_ended}

-- ---- what is asked of a byte

record Tests : Type 0 where
  names : Bool
  space : Bool
  equals : Bool
  comma : Bool
  plus : Bool
  backslash : Bool
  hash : Bool
  reserved : Bool
  special : Bool
  hex : Bool

tests : ℕ → Tests
tests b = record {
  names = is_type_byte b;
  space = b == 32;
  equals = b == 61;
  comma = b == 44;
  plus = b == 43;
  backslash = b == 92;
  hash = b == 35;
  reserved = is_reserved b;
  special = is_special b;
  hex = is_ascii_hexdigit b;
}

small : (x k : ℕ) → 65 ≤ x → x < 91 → k < 65 → (x == k) ≡ (x + 32 == k)
small x k a b h = grind (arith, nat_tests)

between : (x : ℕ) → 65 ≤ x → x < 91 → (x == 92) ≡ (x + 32 == 92)
between x a b = grind (arith, nat_tests)

hex_letter : (x : ℕ) → 65 ≤ x → x < 91 → is_ascii_hexdigit x ≡ is_ascii_hexdigit (x + 32)
hex_letter x a b = grind (arith, nat_tests)

type_letter : (x : ℕ) → 65 ≤ x → x < 91 → is_type_byte x ≡ is_type_byte (x + 32)
type_letter x a b = grind (arith, nat_tests)

reserved_letter : (x : ℕ) → 65 ≤ x → x < 91 → is_reserved x ≡ is_reserved (x + 32)
reserved_letter x a b = λ i. small x 44 a b (lit< tt) i || (small x 43 a b (lit< tt) i || (small x 34 a b (lit< tt) i || (between x a b i || (small x 60 a b (lit< tt) i || (small x 62 a b (lit< tt) i || small x 59 a b (lit< tt) i)))))

special_letter : (x : ℕ) → 65 ≤ x → x < 91 → is_special x ≡ is_special (x + 32)
special_letter x a b = λ i. ((reserved_letter x a b i || small x 61 a b (lit< tt) i) || small x 35 a b (lit< tt) i) || small x 32 a b (lit< tt) i

tests_letter : (x : ℕ) → 65 ≤ x → x < 91 → tests x ≡ tests (x + 32)
unfolding tests
tests_letter x a b = λ i. record {
  names = type_letter x a b i;
  space = small x 32 a b (lit< tt) i;
  equals = small x 61 a b (lit< tt) i;
  comma = small x 44 a b (lit< tt) i;
  plus = small x 43 a b (lit< tt) i;
  backslash = between x a b i;
  hash = small x 35 a b (lit< tt) i;
  reserved = reserved_letter x a b i;
  special = special_letter x a b i;
  hex = hex_letter x a b i;
}

lower_small : (x : ℕ) → x < 65 → to_ascii_lowercase x ≡ x
lower_small x h = rw (lt-ltb x 65 h) refl

lower_letter : (x : ℕ) → 65 ≤ x → x < 91 → to_ascii_lowercase x ≡ x + 32
lower_letter x a b = rw (le-ltb x 65 a, lt-ltb x 91 b) refl

lower_other : (x : ℕ) → 91 ≤ x → to_ascii_lowercase x ≡ x
lower_other x h = rw (le-ltb x 65 (omega arith), le-ltb x 91 h) refl

tests_lower : (x : ℕ) → tests x ≡ tests (to_ascii_lowercase x)
tests_lower x =
    elim (cases_lt x 65) [
      | inl less ↦ ap tests (sym (lower_small x less))
      | inr more ↦
          elim (cases_lt x 91) [
            | inl letter ↦ tests_letter x more letter ∙ ap tests (sym (lower_letter x more letter))
            | inr other ↦ ap tests (sym (lower_other x other))
          ]
    ]

tests_alike : (x y : ℕ) → eq_ignore_ascii_case x y ≡ true → tests x ≡ tests y
tests_alike x y h = tests_lower x ∙ (ap tests (eqb-true (to_ascii_lowercase x) (to_ascii_lowercase y) h) ∙ sym (tests_lower y))

-- ---- how far reading has come, without what was read

data Shape : Type 0 where
  at_start : Shape
  before_type : Shape
  in_type : Shape
  before_equals : Shape
  -- with whether the value is empty
  in_value : Bool → Shape
  in_escape : Shape
  -- with whether the first digit is one
  in_hex : Bool → Shape

shape : Progress → Shape
shape (Start dn rdn) = at_start
shape (BeforeType dn rdn) = before_type
shape (InType dn rdn name) = in_type
shape (BeforeEquals dn rdn name) = before_equals
shape (InValue dn rdn name value solid) = in_value (is_empty value)
shape (InEscape dn rdn name value) = in_escape
shape (InHex dn rdn name value high) = in_hex (is_ascii_hexdigit high)

begun_shape : Tests → Option Shape
begun_shape t = cond t.names (Some in_type) None

ended_shape : Tests → Option Shape
ended_shape t = cond t.equals (Some (in_value true)) (cond t.space (Some before_equals) None)

taken_shape : Bool → Tests → Option Shape
taken_shape empty t = cond t.space (Some (in_value empty)) (cond (t.reserved || (empty && t.hash)) None (Some (in_value false)))

step_shape : Shape → Tests → Option Shape
step_shape at_start t = begun_shape t
step_shape before_type t = cond t.space (Some before_type) (begun_shape t)
step_shape in_type t = cond t.names (Some in_type) (ended_shape t)
step_shape before_equals t = ended_shape t
step_shape (in_value empty) t = cond t.comma (Some before_type) (cond t.plus (Some before_type) (cond t.backslash (Some in_escape) (taken_shape empty t)))
step_shape in_escape t = cond t.special (Some (in_value false)) (cond t.hex (Some (in_hex t.hex)) None)
step_shape (in_hex high) t = cond (high && t.hex) (Some (in_value false)) None

over : {X Y : Type 0} (f : X → Y) (b : Bool) (x y : Option X) → option_map f (cond b x y) ≡ cond b (option_map f x) (option_map f y)
over f true x y = refl
over f false x y = refl

not_empty : (value : List ℕ) (b : ℕ) → is_empty (value ++ b ∷ []) ≡ false
not_empty [] b = refl
not_empty (v ∷ vs) b = le-ltb (suc (length (vs ++ b ∷ []))) 1 (omega arith)

spaced_empty : (value : List ℕ) → is_empty (spaced value) ≡ is_empty value
spaced_empty [] = refl
spaced_empty (v ∷ vs) = le-ltb (suc (length (vs ++ 32 ∷ []))) 1 (omega arith) ∙ sym (le-ltb (suc (length vs)) 1 (omega arith))

shape_begun : (dn : List (List Pair)) (rdn : List Pair) (b : ℕ) → option_map shape (type_begun dn rdn b) ≡ begun_shape (tests b)
unfolding shape begun_shape tests
shape_begun dn rdn b = over shape (is_type_byte b) (Some (InType dn rdn (b ∷ []))) None

shape_ended : (dn : List (List Pair)) (rdn : List Pair) (name : List ℕ) (b : ℕ) → option_map shape (type_ended dn rdn name b) ≡ ended_shape (tests b)
unfolding shape ended_shape tests
shape_ended dn rdn name b =
    over shape (b == 61) (Some (InValue dn rdn name [] 0)) (cond (b == 32) (Some (BeforeEquals dn rdn name)) None)
    ∙ ap (λ (o : Option Shape). cond (b == 61) (Some (in_value true)) o) (over shape (b == 32) (Some (BeforeEquals dn rdn name)) None)

shape_grown : (dn : List (List Pair)) (rdn : List Pair) (name value : List ℕ) (solid b : ℕ) → shape (grown dn rdn name value b) ≡ in_value false
unfolding shape
shape_grown dn rdn name value solid b = ap in_value (not_empty value b)

shape_taken : (dn : List (List Pair)) (rdn : List Pair) (name value : List ℕ) (solid b : ℕ) → option_map shape (value_taken dn rdn name value solid b) ≡ taken_shape (is_empty value) (tests b)
unfolding shape taken_shape tests
shape_taken dn rdn name value solid b =
    over shape (b == 32) (Some (InValue dn rdn name (spaced value) solid)) (cond (is_reserved b || (is_empty value && b == 35)) None (Some (grown dn rdn name value b)))
    ∙ (ap (λ (e : Bool). cond (b == 32) (Some (in_value e)) (option_map shape (cond (is_reserved b || (is_empty value && b == 35)) None (Some (grown dn rdn name value b))))) (spaced_empty value)
    ∙ ap (λ (o : Option Shape). cond (b == 32) (Some (in_value (is_empty value))) o)
    (over shape (is_reserved b || (is_empty value && b == 35)) None (Some (grown dn rdn name value b))
    ∙ ap (λ (s : Shape). cond (is_reserved b || (is_empty value && b == 35)) None (Some s)) (shape_grown dn rdn name value solid b)))

hex_shape : (dn : List (List Pair)) (rdn : List Pair) (name value : List ℕ) (c : Bool) (x : ℕ) → option_map shape (option_map_or (λ y. Some (grown dn rdn name value y)) (cond c (Some x) None) None) ≡ cond c (Some (in_value false)) None
hex_shape dn rdn name value true x = ap (λ (s : Shape). Some s) (shape_grown dn rdn name value 0 x)
hex_shape dn rdn name value false x = refl

shape_step : (s : Progress) (b : ℕ) → option_map shape (step s b) ≡ step_shape (shape s) (tests b)
unfolding shape step_shape tests
shape_step (Start dn rdn) b = shape_begun dn rdn b
shape_step (BeforeType dn rdn) b =
    over shape (b == 32) (Some (BeforeType dn rdn)) (type_begun dn rdn b)
    ∙ ap (λ (o : Option Shape). cond (b == 32) (Some before_type) o) (shape_begun dn rdn b)
shape_step (InType dn rdn name) b =
    over shape (is_type_byte b) (Some (InType dn rdn (name ++ b ∷ []))) (type_ended dn rdn name b)
    ∙ ap (λ (o : Option Shape). cond (is_type_byte b) (Some in_type) o) (shape_ended dn rdn name b)
shape_step (BeforeEquals dn rdn name) b = shape_ended dn rdn name b
shape_step (InValue dn rdn name value solid) b =
    over shape (b == 44) (Some (rdn_ended dn rdn name value solid)) (cond (b == 43) (Some (pair_ended dn rdn name value solid)) (cond (b == 92) (Some (InEscape dn rdn name value)) (value_taken dn rdn name value solid b)))
    ∙ ap (λ (o : Option Shape). cond (b == 44) (Some before_type) o)
    (over shape (b == 43) (Some (pair_ended dn rdn name value solid)) (cond (b == 92) (Some (InEscape dn rdn name value)) (value_taken dn rdn name value solid b))
    ∙ ap (λ (o : Option Shape). cond (b == 43) (Some before_type) o)
    (over shape (b == 92) (Some (InEscape dn rdn name value)) (value_taken dn rdn name value solid b)
    ∙ ap (λ (o : Option Shape). cond (b == 92) (Some in_escape) o) (shape_taken dn rdn name value solid b)))
shape_step (InEscape dn rdn name value) b =
    over shape (is_special b) (Some (grown dn rdn name value b)) (cond (is_ascii_hexdigit b) (Some (InHex dn rdn name value b)) None)
    ∙ (ap (λ (s : Shape). cond (is_special b) (Some s) (option_map shape (cond (is_ascii_hexdigit b) (Some (InHex dn rdn name value b)) None))) (shape_grown dn rdn name value 0 b)
    ∙ ap (λ (o : Option Shape). cond (is_special b) (Some (in_value false)) o) (over shape (is_ascii_hexdigit b) (Some (InHex dn rdn name value b)) None))
shape_step (InHex dn rdn name value high) b = hex_shape dn rdn name value (is_ascii_hexdigit high && is_ascii_hexdigit b) (16 * digit_value high + digit_value b)

-- ---- what is accepted

ends_at : Shape → Bool
ends_at at_start = true
ends_at before_type = false
ends_at in_type = false
ends_at before_equals = false
ends_at (in_value empty) = true
ends_at in_escape = false
ends_at (in_hex high) = false

accepts : Shape → List ℕ → Bool
accepts s [] = ends_at s
accepts s (b ∷ bs) = option_map_or (λ next. accepts next bs) (step_shape s (tests b)) false

end_accepted : (s : Progress) → is_ok {T = List (List Pair)} {E = ℕ} (option_map_or (λ dn. Ok dn) (ending s) (Err 0)) ≡ ends_at (shape s)
unfolding shape ends_at
end_accepted (Start dn rdn) = refl
end_accepted (BeforeType dn rdn) = refl
end_accepted (InType dn rdn name) = refl
end_accepted (BeforeEquals dn rdn name) = refl
end_accepted (InValue dn rdn name value solid) = refl
end_accepted (InEscape dn rdn name value) = refl
end_accepted (InHex dn rdn name value high) = refl

rest_accepted : (bs : List ℕ) (o : Option Progress) (left : ℕ) → ((s : Progress) → is_ok (run s bs) ≡ accepts (shape s) bs)
    → is_ok (option_map_or (λ next. run next bs) o (Err left)) ≡ option_map_or (λ next. accepts next bs) (option_map shape o) false
rest_accepted bs None left f = refl
rest_accepted bs (Some s) left f = f s

run_accepts : (bs : List ℕ) (s : Progress) → is_ok (run s bs) ≡ accepts (shape s) bs
unfolding accepts
run_accepts [] s = end_accepted s
run_accepts (b ∷ bs) s = rest_accepted bs (step s b) (suc (length bs)) (run_accepts bs) ∙ ap (λ (o : Option Shape). option_map_or (λ next. accepts next bs) o false) (shape_step s b)

next_alike : (xs ys : List ℕ) (o : Option Shape) → ((s : Shape) → accepts s xs ≡ accepts s ys) → option_map_or (λ next. accepts next xs) o false ≡ option_map_or (λ next. accepts next ys) o false
next_alike xs ys None f = refl
next_alike xs ys (Some s) f = f s

accepts_alike : (xs ys : List ℕ) → same_text xs ys ≡ true → (s : Shape) → accepts s xs ≡ accepts s ys
unfolding accepts
accepts_alike [] [] h s = refl
accepts_alike [] (y ∷ ys) h s = cc
accepts_alike (x ∷ xs) [] h s = cc
accepts_alike (x ∷ xs) (y ∷ ys) h s =
    let p = and_parts (eq_ignore_ascii_case x y) (same_text xs ys) h in
    next_alike xs ys (step_shape s (tests x)) (accepts_alike xs ys p.1)
    ∙ ap (λ (t : Tests). option_map_or (λ next. accepts next ys) (step_shape s t) false) (tests_alike x y p.0)

-- texts that are equal without ASCII case are DNs both, or neither is
pub spells_alike : (a b : List ℕ) → same_text a b ≡ true → is_dn a ≡ is_dn b
spells_alike a b h = run_accepts a (Start [] []) ∙ (accepts_alike a b h (shape (Start [] [])) ∙ sym (run_accepts b (Start [] [])))

-- ---- a text that equals another as a DN is one

left_dn : (r : Result (List (List Pair)) ℕ) (o : Option (List (List Pair))) (test : List (List Pair) → List (List Pair) → Bool) → both_meet test (result_ok r) o ≡ true → is_ok r ≡ true
left_dn (Ok dn) o test h = refl
left_dn (Err left) o test h = cc

pub met_dn : (text : List ℕ) (o : Option (List (List Pair))) (test : List (List Pair) → List (List Pair) → Bool) → both_meet test (spelled text) o ≡ true → is_dn text ≡ true
met_dn text o test h = left_dn (run (Start [] []) text) o test h
