-- What a text goes on with is what reading finds.
use Rattle.std.proofs.Common.{◌≡◌, ℕ, zero, suc, Bool, true, false, cond, List, [], ◌∷◌, ◌++◌, length, take, replicate, Option, Some, None, Result, Ok, Err, option_map, refl, sym, ap, subst, ◌∙◌, append_assoc, append-nil, true≢false}
use Rattle.std.specs.Prelude.{◌==◌, ◌&&◌, ◌||◌}
use Rattle.std.specs.Option.{option_map_or}
use Rattle.std.specs.Result.{result_ok}
use Rattle.std.specs.Char.{is_ascii_hexdigit}
use Rattle.std.proofs.lemmas.Bool.{le-ltb, eqb-true}
use Rattle.std.proofs.Common.{arith}
use Rattle.std.proofs.lemmas.List.{length_push}
use Rattle.sd_dn.specs.declared.Pair.{Pair}
use Rattle.sd_dn.specs.Bytes.{is_type_byte, is_reserved, is_special, hex_pair}
use Rattle.sd_dn.specs.Reading.{Progress, Start, BeforeType, InType, BeforeEquals, InValue, InEscape, InHex, type_begun, type_ended, is_empty, grown, pair_made, pair_ended, rdn_ended, value_taken, run}
use Rattle.sd_dn.specs.Reading as reading
use Rattle.sd_dn.specs.Remaining.{Rest, nothing, AtType, OnType, AtEquals, AtValue, OnValue, OnEscape, OnHex, named, renamed, begun, spaced, pair_of, new_pair, new_rdn, type_ends, remaining}

abbrev Dn : Type 0
Dn = List (List Pair)

-- the DN that reading gives, from here and behind the next byte
abbrev given : Progress → List ℕ → Option Dn
given s bs = result_ok (run s bs)

abbrev after : List ℕ → Option Progress → Option Dn
after bs next = result_ok (option_map_or (λ s. run s bs) next (Err (suc (length bs))))

-- the DN, by what was read and what is left
abbrev pub headed : Dn → List Pair → List ℕ → Rest → Dn
headed dn rdn name r = dn ++ (rdn ++ pair_made (name ++ r.name) r.value ∷ r.pairs) ∷ r.rdns

abbrev pub tailed : Dn → List Pair → List ℕ → List ℕ → Rest → Dn
tailed dn rdn name value r = dn ++ (rdn ++ pair_made name (value ++ r.value) ∷ r.pairs) ∷ r.rdns

-- ---- cases

split_if : {A B C : Type 0} (F : A → C) (G : B → C) (t : Bool) (x y : A) (u v : B) → F x ≡ G u → F y ≡ G v → F (cond t x y) ≡ G (cond t u v)
split_if F G true x y u v p q = p
split_if F G false x y u v p q = q

split_when : {A B C : Type 0} (F : A → C) (G : B → C) (s t : Bool) (x y : A) (u v : B) → s ≡ t → F x ≡ G u → F y ≡ G v → F (cond s x y) ≡ G (cond t u v)
split_when F G true true x y u v e p q = p
split_when F G true false x y u v e p q = absurd (true≢false e)
split_when F G false true x y u v e p q = absurd (true≢false (sym e))
split_when F G false false x y u v e p q = q

-- ---- what was read and what is left

named_is : (dn : Dn) (rdn : List Pair) (name : List ℕ) (b : ℕ) (o : Option Rest) → option_map (headed dn rdn (name ++ b ∷ [])) o ≡ option_map (headed dn rdn name) (named b o)
named_is dn rdn name b None = refl
named_is dn rdn name b (Some r) = ap (λ (w : List ℕ). Some (dn ++ (rdn ++ pair_made w r.value ∷ r.pairs) ∷ r.rdns)) (append_assoc name (b ∷ []) r.name)

equals_is : (dn : Dn) (rdn : List Pair) (name : List ℕ) (o : Option Rest) → option_map (tailed dn rdn name []) o ≡ option_map (headed dn rdn name) (renamed [] o)
equals_is dn rdn name None = refl
equals_is dn rdn name (Some r) = ap (λ (w : List ℕ). Some (dn ++ (rdn ++ pair_made w r.value ∷ r.pairs) ∷ r.rdns)) (sym (append-nil name))

pair_is : (dn : Dn) (rdn : List Pair) (name v : List ℕ) (o : Option Rest) → option_map (headed dn (rdn ++ pair_made name v ∷ []) []) o ≡ option_map (tailed dn rdn name v) (new_pair o)
pair_is dn rdn name v None = refl
pair_is dn rdn name v (Some r) =
    ap (λ (w : List Pair). Some (dn ++ w ∷ r.rdns)) (append_assoc rdn (pair_made name v ∷ []) (pair_of r ∷ r.pairs))
    ∙ ap (λ (w : List ℕ). Some (dn ++ (rdn ++ pair_made name w ∷ pair_of r ∷ r.pairs) ∷ r.rdns)) (sym (append-nil v))

rdn_is : (dn : Dn) (rdn : List Pair) (name v : List ℕ) (o : Option Rest) → option_map (headed (dn ++ (rdn ++ pair_made name v ∷ []) ∷ []) [] []) o ≡ option_map (tailed dn rdn name v) (new_rdn o)
rdn_is dn rdn name v None = refl
rdn_is dn rdn name v (Some r) =
    ap (λ (w : Dn). Some w) (append_assoc dn ((rdn ++ pair_made name v ∷ []) ∷ []) ((pair_of r ∷ r.pairs) ∷ r.rdns))
    ∙ ap (λ (w : List ℕ). Some (dn ++ (rdn ++ pair_made name w ∷ []) ∷ (pair_of r ∷ r.pairs) ∷ r.rdns)) (sym (append-nil v))

begun_is : (dn : Dn) (rdn : List Pair) (name v : List ℕ) (b : ℕ) (o : Option Rest) → option_map (tailed dn rdn name (v ++ b ∷ [])) o ≡ option_map (tailed dn rdn name v) (begun b o)
begun_is dn rdn name v b None = refl
begun_is dn rdn name v b (Some r) = ap (λ (w : List ℕ). Some (dn ++ (rdn ++ pair_made name w ∷ r.pairs) ∷ r.rdns)) (append_assoc v (b ∷ []) r.value)

spaced_is : (gap : ℕ) (dn : Dn) (rdn : List Pair) (name v : List ℕ) (o : Option Rest) → option_map (tailed dn rdn name (v ++ replicate gap 32)) o ≡ option_map (tailed dn rdn name v) (spaced gap o)
spaced_is zero dn rdn name v o = ap (λ (w : List ℕ). option_map (tailed dn rdn name w) o) (append-nil v)
spaced_is (suc n) dn rdn name v o =
    ap (λ (w : List ℕ). option_map (tailed dn rdn name w) o) (sym (append_assoc v (32 ∷ []) (replicate n 32)))
    ∙ (spaced_is n dn rdn name (v ++ 32 ∷ []) o
    ∙ begun_is dn rdn name v 32 (spaced n o))

take_front : (v w : List ℕ) → take (length v) (v ++ w) ≡ v
take_front [] w = refl
take_front (x ∷ xs) w = ap (λ (t : List ℕ). x ∷ t) (take_front xs w)

-- ---- values that have begun

abbrev is_filled : List ℕ → Bool
is_filled [] = false
is_filled (x ∷ xs) = true

filled_push : (w : List ℕ) (b : ℕ) → is_filled (w ++ b ∷ []) ≡ true
filled_push [] b = refl
filled_push (x ∷ xs) b = refl

not_empty : (v w : List ℕ) → is_filled v ≡ true → is_empty (v ++ w) ≡ false
not_empty [] w h = absurd (true≢false (sym h))
not_empty (x ∷ xs) w h = le-ltb (suc (length (xs ++ w))) 1 (omega arith)

and_none : (t : Bool) → (false && t) ≡ false
and_none t = refl

or_none : (s t : Bool) → t ≡ false → (s || t) ≡ s
or_none true t e = refl
or_none false t e = e

only_reserved : (v w : List ℕ) (b : ℕ) → is_filled v ≡ true → (is_reserved b || (is_empty (v ++ w) && b == 35)) ≡ is_reserved b
only_reserved v w b h = or_none (is_reserved b) (is_empty (v ++ w) && b == 35) (ap (λ (t : Bool). t && b == 35) (not_empty v w h))

push_space : (n b : ℕ) → replicate n b ++ b ∷ [] ≡ replicate (suc n) b
push_space zero b = refl
push_space (suc n) b = ap (λ (w : List ℕ). b ∷ w) (push_space n b)

-- one more space
more_space : (dn : Dn) (rdn : List Pair) (name v : List ℕ) (gap : ℕ) → is_filled v ≡ true → InValue dn rdn name (reading.spaced (v ++ replicate gap 32)) (length v) ≡ InValue dn rdn name (v ++ replicate (suc gap) 32) (length v)
more_space dn rdn name [] gap h = absurd (true≢false (sym h))
more_space dn rdn name (x ∷ xs) gap h = ap (λ (w : List ℕ). InValue dn rdn name (x ∷ w) (length (x ∷ xs))) (append_assoc xs (replicate gap 32) (32 ∷ []) ∙ ap (λ (w : List ℕ). xs ++ w) (push_space gap 32))

-- ---- the whole

record Agrees (bs : List ℕ) : Type 0 where
  at_type : (dn : Dn) (rdn : List Pair) → given (BeforeType dn rdn) bs ≡ option_map (headed dn rdn []) (remaining bs AtType)
  on_type : (dn : Dn) (rdn : List Pair) (name : List ℕ) → given (InType dn rdn name) bs ≡ option_map (headed dn rdn name) (remaining bs OnType)
  at_equals : (dn : Dn) (rdn : List Pair) (name : List ℕ) → given (BeforeEquals dn rdn name) bs ≡ option_map (headed dn rdn name) (remaining bs AtEquals)
  at_value : (dn : Dn) (rdn : List Pair) (name : List ℕ) → given (InValue dn rdn name [] 0) bs ≡ option_map (tailed dn rdn name []) (remaining bs AtValue)
  on_value : (dn : Dn) (rdn : List Pair) (name v : List ℕ) (gap : ℕ) → is_filled v ≡ true → given (InValue dn rdn name (v ++ replicate gap 32) (length v)) bs ≡ option_map (tailed dn rdn name v) (remaining bs (OnValue gap))
  on_escape : (dn : Dn) (rdn : List Pair) (name v : List ℕ) (gap : ℕ) → given (InEscape dn rdn name (v ++ replicate gap 32)) bs ≡ option_map (tailed dn rdn name v) (remaining bs (OnEscape gap))
  on_hex : (dn : Dn) (rdn : List Pair) (name v : List ℕ) (gap high : ℕ) → given (InHex dn rdn name (v ++ replicate gap 32) high) bs ≡ option_map (tailed dn rdn name v) (remaining bs (OnHex gap high))

at_end : Agrees []
at_end = record {
  at_type = λ dn rdn. refl;
  on_type = λ dn rdn name. refl;
  at_equals = λ dn rdn name. refl;
  at_value = λ dn rdn name. refl;
  on_value = λ dn rdn name v gap h.
      ap (λ (w : List ℕ). Some (dn ++ (rdn ++ pair_made name w ∷ []) ∷ [])) (sym (append-nil (v ++ replicate gap 32))) ∙ spaced_is gap dn rdn name v (Some nothing);
  on_escape = λ dn rdn name v gap. refl;
  on_hex = λ dn rdn name v gap high. refl;
}

module _ (b : ℕ) (bs : List ℕ) (h : Agrees bs) where
  ended : (dn : Dn) (rdn : List Pair) (name : List ℕ) → after bs (type_ended dn rdn name b) ≡ option_map (headed dn rdn name) (type_ends b (λ next. remaining bs next))
  ended dn rdn name =
      split_if (after bs) (option_map (headed dn rdn name)) (b == 61)
      (Some (InValue dn rdn name [] 0)) (cond (b == 32) (Some (BeforeEquals dn rdn name)) None)
      (renamed [] (remaining bs AtValue)) (cond (b == 32) (remaining bs AtEquals) None)
      (h.at_value dn rdn name ∙ equals_is dn rdn name (remaining bs AtValue))
      (split_if (after bs) (option_map (headed dn rdn name)) (b == 32) (Some (BeforeEquals dn rdn name)) None (remaining bs AtEquals) None (h.at_equals dn rdn name) refl)

  typed : (dn : Dn) (rdn : List Pair) (name : List ℕ) → given (InType dn rdn (name ++ b ∷ [])) bs ≡ option_map (headed dn rdn name) (named b (remaining bs OnType))
  typed dn rdn name = h.on_type dn rdn (name ++ b ∷ []) ∙ named_is dn rdn name b (remaining bs OnType)

  -- a byte that stands for itself
  grows : (dn : Dn) (rdn : List Pair) (name v : List ℕ) (gap x : ℕ) → given (grown dn rdn name (v ++ replicate gap 32) x) bs ≡ option_map (tailed dn rdn name v) (spaced gap (begun x (remaining bs (OnValue 0))))
  grows dn rdn name v gap x =
      let w : List ℕ = v ++ replicate gap 32 in
      let is : grown dn rdn name w x ≡ InValue dn rdn name ((w ++ x ∷ []) ++ replicate 0 32) (length (w ++ x ∷ [])) = rw (append-nil (w ++ x ∷ []), length_push w x) refl in
      ap (λ (s : Progress). given s bs) is
      ∙ (h.on_value dn rdn name (w ++ x ∷ []) 0 (filled_push w x)
      ∙ (begun_is dn rdn name w x (remaining bs (OnValue 0))
      ∙ spaced_is gap dn rdn name v (begun x (remaining bs (OnValue 0)))))

  comma : (dn : Dn) (rdn : List Pair) (name v w : List ℕ) → given (rdn_ended dn rdn name (v ++ w) (length v)) bs ≡ option_map (tailed dn rdn name v) (new_rdn (remaining bs AtType))
  comma dn rdn name v w =
      ap (λ (u : List ℕ). given (BeforeType (dn ++ (rdn ++ pair_made name u ∷ []) ∷ []) []) bs) (take_front v w)
      ∙ (h.at_type (dn ++ (rdn ++ pair_made name v ∷ []) ∷ []) []
      ∙ rdn_is dn rdn name v (remaining bs AtType))

  plus : (dn : Dn) (rdn : List Pair) (name v w : List ℕ) → given (pair_ended dn rdn name (v ++ w) (length v)) bs ≡ option_map (tailed dn rdn name v) (new_pair (remaining bs AtType))
  plus dn rdn name v w =
      ap (λ (u : List ℕ). given (BeforeType dn (rdn ++ pair_made name u ∷ [])) bs) (take_front v w)
      ∙ (h.at_type dn (rdn ++ pair_made name v ∷ [])
      ∙ pair_is dn rdn name v (remaining bs AtType))

  hexed : (dn : Dn) (rdn : List Pair) (name v : List ℕ) (gap : ℕ) (o : Option ℕ) → after bs (option_map_or (λ x. Some (grown dn rdn name (v ++ replicate gap 32) x)) o None) ≡ option_map (tailed dn rdn name v) (option_map_or (λ x. spaced gap (begun x (remaining bs (OnValue 0)))) o None)
  hexed dn rdn name v gap None = refl
  hexed dn rdn name v gap (Some x) = grows dn rdn name v gap x

  -- in a value, by the next byte: with what was kept of it, and how many bytes of that count
  valued : (dn : Dn) (rdn : List Pair) (name v w : List ℕ) (escape space plain : Option Rest) (s t : Bool) → s ≡ t
      → given (InEscape dn rdn name (v ++ w)) bs ≡ option_map (tailed dn rdn name v) escape
      → given (InValue dn rdn name (reading.spaced (v ++ w)) (length v)) bs ≡ option_map (tailed dn rdn name v) space
      → given (grown dn rdn name (v ++ w) b) bs ≡ option_map (tailed dn rdn name v) plain
      → after bs (cond (b == 44) (Some (rdn_ended dn rdn name (v ++ w) (length v)))
      (cond (b == 43) (Some (pair_ended dn rdn name (v ++ w) (length v)))
      (cond (b == 92) (Some (InEscape dn rdn name (v ++ w)))
      (cond (b == 32) (Some (InValue dn rdn name (reading.spaced (v ++ w)) (length v)))
      (cond s None (Some (grown dn rdn name (v ++ w) b)))))))
      ≡ option_map (tailed dn rdn name v) (cond (b == 44) (new_rdn (remaining bs AtType)) (cond (b == 43) (new_pair (remaining bs AtType)) (cond (b == 92) escape (cond (b == 32) space (cond t None plain)))))
  valued dn rdn name v w escape space plain s t same p q r =
      let F : Option Progress → Option Dn = λ next. after bs next in
      let G : Option Rest → Option Dn = option_map (tailed dn rdn name v) in
      let x3 : Option Progress = Some (InEscape dn rdn name (v ++ w)) in
      let x4 : Option Progress = Some (InValue dn rdn name (reading.spaced (v ++ w)) (length v)) in
      let x5 : Option Progress = cond s None (Some (grown dn rdn name (v ++ w) b)) in
      let u5 : Option Rest = cond t None plain in
      let x2 : Option Progress = Some (pair_ended dn rdn name (v ++ w) (length v)) in
      split_if F G (b == 44) (Some (rdn_ended dn rdn name (v ++ w) (length v))) (cond (b == 43) x2 (cond (b == 92) x3 (cond (b == 32) x4 x5))) (new_rdn (remaining bs AtType)) (cond (b == 43) (new_pair (remaining bs AtType)) (cond (b == 92) escape (cond (b == 32) space u5)))
      (comma dn rdn name v w)
      (split_if F G (b == 43) x2 (cond (b == 92) x3 (cond (b == 32) x4 x5)) (new_pair (remaining bs AtType)) (cond (b == 92) escape (cond (b == 32) space u5))
      (plus dn rdn name v w)
      (split_if F G (b == 92) x3 (cond (b == 32) x4 x5) escape (cond (b == 32) space u5)
      p
      (split_if F G (b == 32) x4 x5 space u5
      q
      (split_when F G s t None (Some (grown dn rdn name (v ++ w) b)) None plain same refl r))))

  one_more : Agrees (b ∷ bs)
  one_more = record {
    at_type = λ dn rdn.
        split_if (after bs) (option_map (headed dn rdn [])) (b == 32) (Some (BeforeType dn rdn)) (type_begun dn rdn b) (remaining bs AtType) (cond (is_type_byte b) (named b (remaining bs OnType)) None)
        (h.at_type dn rdn)
        (split_if (after bs) (option_map (headed dn rdn [])) (is_type_byte b) (Some (InType dn rdn (b ∷ []))) None (named b (remaining bs OnType)) None (typed dn rdn []) refl);
    on_type = λ dn rdn name.
        split_if (after bs) (option_map (headed dn rdn name)) (is_type_byte b) (Some (InType dn rdn (name ++ b ∷ []))) (type_ended dn rdn name b) (named b (remaining bs OnType)) (type_ends b (λ next. remaining bs next)) (typed dn rdn name) (ended dn rdn name);
    at_equals = λ dn rdn name. ended dn rdn name;
    at_value = λ dn rdn name.
        valued dn rdn name [] [] (remaining bs (OnEscape 0)) (remaining bs AtValue) (begun b (remaining bs (OnValue 0))) (is_reserved b || b == 35) (is_reserved b || b == 35) refl
        (h.on_escape dn rdn name [] 0) (h.at_value dn rdn name) (grows dn rdn name [] 0 b);
    on_value = λ dn rdn name v gap full.
        valued dn rdn name v (replicate gap 32) (remaining bs (OnEscape gap)) (remaining bs (OnValue (suc gap))) (spaced gap (begun b (remaining bs (OnValue 0))))
        (is_reserved b || (is_empty (v ++ replicate gap 32) && b == 35)) (is_reserved b) (only_reserved v (replicate gap 32) b full)
        (h.on_escape dn rdn name v gap)
        (ap (λ (s : Progress). given s bs) (more_space dn rdn name v gap full) ∙ h.on_value dn rdn name v (suc gap) full)
        (grows dn rdn name v gap b);
    on_escape = λ dn rdn name v gap.
        split_if (after bs) (option_map (tailed dn rdn name v)) (is_special b) (Some (grown dn rdn name (v ++ replicate gap 32) b)) (cond (is_ascii_hexdigit b) (Some (InHex dn rdn name (v ++ replicate gap 32) b)) None)
        (spaced gap (begun b (remaining bs (OnValue 0)))) (cond (is_ascii_hexdigit b) (remaining bs (OnHex gap b)) None)
        (grows dn rdn name v gap b)
        (split_if (after bs) (option_map (tailed dn rdn name v)) (is_ascii_hexdigit b) (Some (InHex dn rdn name (v ++ replicate gap 32) b)) None (remaining bs (OnHex gap b)) None (h.on_hex dn rdn name v gap b) refl);
    on_hex = λ dn rdn name v gap high. hexed dn rdn name v gap (hex_pair high b);
  }

agrees : (bs : List ℕ) → Agrees bs
agrees [] = at_end
agrees (b ∷ bs) = one_more b bs (agrees bs)

-- a text that begins with no space spells what it goes on with as a pair, one that begins with a space nothing
pub spelled_start : (b : ℕ) (bs : List ℕ) → (b == 32) ≡ false → result_ok (run (Start [] []) (b ∷ bs)) ≡ option_map (headed [] [] []) (remaining (b ∷ bs) AtType)
spelled_start b bs e =
    rw e (split_if (after bs) (option_map (headed [] [] [])) (is_type_byte b) (Some (InType [] [] (b ∷ []))) None (named b (remaining bs OnType)) None (typed b bs (agrees bs) [] [] []) refl)

pub spelled_space : (b : ℕ) (bs : List ℕ) → (b == 32) ≡ true → result_ok (run (Start [] []) (b ∷ bs)) ≡ None
spelled_space b bs e = let is : b ≡ 32 = omega (arith, eqb-true b 32 e) in rw is refl
