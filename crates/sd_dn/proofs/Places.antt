-- Where a text is refused.
use Rattle.std.proofs.Common.{◌≡◌, ℕ, suc, ◌+◌, ◌<◌, List, [], ◌∷◌, ◌++◌, length, take, Option, Some, None, Result, Ok, Err, refl, sym, ap, subst, ◌∙◌, add-one, arith, inl, inr, ◌⊎◌}
use Rattle.std.specs.Prelude.{IfOk}
use Rattle.std.specs.Option.{option_map_or}
use Rattle.std.specs.Prelude.{◌*◌, ◌↔◌, Bool, true, is_ok}
use Rattle.std.specs.Char.{digit_value}
use Rattle.sd_dn.specs.declared.Pair.{Pair}
use Rattle.sd_dn.specs.declared.DnFault.{DnFault}
use Rattle.sd_dn.specs.declared.DnFault.TheVariants as faults
use Rattle.sd_dn.specs.Grammar.{Spells, IsFirstBad, Reads}
use Rattle.sd_dn.specs.Reading.{Progress, Start, BeforeType, InType, BeforeEquals, InValue, InEscape, InHex, step, ending, run, is_dn, Gives, pair_made}
use Rattle.sd_dn.proofs.Complete.{is_read}
use Rattle.sd_dn.proofs.Sound.{After, step_after, is_spelled}

-- a text with which reading ends well from here
abbrev Completes : Progress → Type 0
Completes s = (more : List ℕ) × (dn : List (List Pair)) × (run s more ≡ Ok dn)

completes : (s : Progress) (prefix : List ℕ) → After s prefix → Completes s
completes (Start dn rdn) prefix a = ([], dn, refl)
completes (BeforeType dn rdn) prefix a = (65 ∷ 61 ∷ [], _, refl)
completes (InType dn rdn name) prefix a = (61 ∷ [], _, refl)
completes (BeforeEquals dn rdn name) prefix a = (61 ∷ [], _, refl)
completes (InValue dn rdn name value solid) prefix a = ([], _, refl)
completes (InEscape dn rdn name value) prefix a = (44 ∷ [], _, refl)
completes (InHex dn rdn name value high) prefix a = (48 ∷ [], dn ++ (rdn ++ pair_made name (value ++ (16 * digit_value high + 0) ∷ []) ∷ []) ∷ [], rw a.1 refl)

-- reading stops after n bytes: those go on to an end, and with one more they don't
record Stops (s : Progress) (bs : List ℕ) (left n : ℕ) : Type 0 where
  count : n + left ≡ length bs
  front : (more : List ℕ) × (dn : List (List Pair)) × (run s (take n bs ++ more) ≡ Ok dn)
  stop : n < length bs → (more : List ℕ) → (l : ℕ) × (run s (take (suc n) bs ++ more) ≡ Err l)

abbrev done : List (List Pair) → Result (List (List Pair)) ℕ
done x = Ok x

abbrev failed : ℕ → Result (List (List Pair)) ℕ
failed n = Err n

err_is : (m n : ℕ) → failed m ≡ failed n → m ≡ n
err_is m n e = cc

no_end : (o : Option (List (List Pair))) (left : ℕ) → option_map_or (λ dn. Ok dn) o (failed 0) ≡ Err left → left ≡ 0
no_end None left e = sym (err_is 0 left e)
no_end (Some dn) left e = absurd cc

-- what the next step is
next_or_none : (o : Option Progress) → (o ≡ None) ⊎ ((next : Progress) × (o ≡ Some next))
next_or_none None = inl refl
next_or_none (Some next) = inr (next, refl)

stops_here : (s : Progress) (b : ℕ) (bs : List ℕ) (left : ℕ) → Completes s → step s b ≡ None → run s (b ∷ bs) ≡ Err left → Stops s (b ∷ bs) left 0
stops_here s b bs left c none e =
    let all : suc (length bs) ≡ left = err_is _ _ (sym (ap (λ (o : Option Progress). option_map_or (λ next. run next bs) o (failed (suc (length bs)))) none) ∙ e) in
    record {
      count = omega arith;
      front = c;
      stop = λ lt more. (suc (length (take 0 bs ++ more)), ap (λ (o : Option Progress). option_map_or (λ next. run next (take 0 bs ++ more)) o (failed (suc (length (take 0 bs ++ more))))) none);
    }

stops_later : (s next : Progress) (b : ℕ) (bs : List ℕ) (left n : ℕ) → step s b ≡ Some next → Stops next bs left n → Stops s (b ∷ bs) left (suc n)
stops_later s next b bs left n some t =
    let goes : (more : List ℕ) → run s (b ∷ more) ≡ run next more = λ more. ap (λ (o : Option Progress). option_map_or (λ p. run p more) o (failed (suc (length more)))) some in
    record {
      count = omega (arith, t.count);
      front = (t.front.0, t.front.1, goes (take n bs ++ t.front.0) ∙ t.front.2);
      stop = λ lt more. let u = t.stop (omega arith) more in (u.0, goes (take (suc n) bs ++ more) ∙ u.1);
    }

stops : (bs : List ℕ) (s : Progress) (prefix : List ℕ) (left : ℕ) → After s prefix → run s bs ≡ Err left → (n : ℕ) × Stops s bs left n
stops [] s prefix left a e =
    (0, record { count = omega (arith, no_end (ending s) left e); front = completes s prefix a; stop = λ lt more. absurd (omega arith) })
stops (b ∷ bs) s prefix left a e =
    elim (next_or_none (step s b)) [
      | inl none ↦ (0, stops_here s b bs left (completes s prefix a) none e)
      | inr some ↦
          let goes : run s (b ∷ bs) ≡ run some.0 bs = ap (λ (o : Option Progress). option_map_or (λ p. run p bs) o (failed (suc (length bs)))) some.1 in
          let later = stops bs some.0 (prefix ++ b ∷ []) left (step_after s some.0 b prefix a some.1) (sym goes ∙ e) in
          (suc later.0, stops_later s some.0 b bs left later.0 some.1 later.1)
    ]

both : (text : List ℕ) (dn : List (List Pair)) (l : ℕ) → run (Start [] []) text ≡ Err l → Spells text dn → ⊥
both text dn l e spelled = let r : Ok dn ≡ failed l = sym (is_read text dn spelled) ∙ e in absurd cc

first_bad : (text : List ℕ) (place left : ℕ) → place + left ≡ length text → run (Start [] []) text ≡ Err left → IsFirstBad text place
first_bad text place left at e =
    let s = stops text (Start [] []) [] left (refl, refl, refl) e in
    let here : s.0 ≡ place = omega (arith, s.1.count) in
    let t : Stops (Start [] []) text left place = subst (λ (n : ℕ). Stops (Start [] []) text left n) here s.1 in
    record {
      within = omega arith;
      front = (t.front.0, t.front.1, is_spelled _ t.front.1 t.front.2);
      stop = λ lt more dn spelled. let u = t.stop lt more in both (take (place + 1) text ++ more) dn u.0 (rw add-one u.1) spelled;
      short = λ end dn spelled. both text dn left e spelled;
    }

ok_is : (x y : List (List Pair)) → done x ≡ done y → x ≡ y
ok_is x y e = cc

pub one_meaning : (text : List ℕ) (a b : List (List Pair)) → Spells text a → Spells text b → a ≡ b
one_meaning text a b p q = ok_is a b (sym (is_read text a p) ∙ is_read text b q)

-- whether a text is a DN's is whether it spells one
test_true : (text : List ℕ) (r : Result (List (List Pair)) ℕ) → run (Start [] []) text ≡ r → is_ok r ≡ true → (dn : List (List Pair)) × Spells text dn
test_true text (Ok dn) e h = (dn, is_spelled text dn e)
test_true text (Err left) e h = absurd cc

pub is_dn_exact : (text : List ℕ) (is : Bool) → is ≡ is_dn text → (is ≡ true) ↔ ((dn : List (List Pair)) × Spells text dn)
is_dn_exact text is e = (λ h. test_true text (run (Start [] []) text) refl (sym e ∙ h), λ s. e ∙ ap (λ (r : Result (List (List Pair)) ℕ). is_ok r) (is_read text s.0 s.1))

pub test_exact : {E : Type 0} (text : List ℕ) (r : Result Bool E) → IfOk r (λ is. is ≡ is_dn text) → IfOk r (λ is. (is ≡ true) ↔ ((dn : List (List Pair)) × Spells text dn))
test_exact text (Ok is) e = is_dn_exact text is e
test_exact text (Err e) h = tt

-- ---- what an answer says

pub read_so : (text : List ℕ) (r : Result (List (List Pair)) DnFault) → Gives (length text) r (run (Start [] []) text) → IfOk r (λ dn. Spells text dn)
read_so text (Ok dn) g = is_spelled text dn g
read_so text (Err e) g = tt

pub reads_all : (text : List ℕ) (r : Result (List (List Pair)) DnFault) → Gives (length text) r (run (Start [] []) text) → (dn : List (List Pair)) → Spells text dn → Reads r dn
reads_all text (Ok x) g dn spelled = let e : done x ≡ done dn = sym g ∙ is_read text dn spelled in cc
reads_all text (Err (faults.BadDn place)) g dn spelled = both text dn g.0 g.2 spelled
reads_all text (Err faults.Memory) g dn spelled = tt

pub bad_at : (text : List ℕ) (r : Result (List (List Pair)) DnFault) → Gives (length text) r (run (Start [] []) text) → (place : ℕ) → r ≡ Err (faults.BadDn place) → IsFirstBad text place
bad_at text r g place e =
    let h : Gives (length text) (Err (faults.BadDn place)) (run (Start [] []) text) = subst (λ (x : Result (List (List Pair)) DnFault). Gives (length text) x (run (Start [] []) text)) e g in
    first_bad text place h.0 h.1 h.2
