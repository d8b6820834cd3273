-- Reading a text step by step: behind a front, one byte more, and where it fails.
use Rattle.std.specs.Prelude.{slice_index}
use Rattle.std.proofs.Common.{◌≡◌, ℕ, ◌+◌, ◌<◌, ◌≤◌, List, [], ◌∷◌, ◌++◌, length, take, Option, Some, None, refl, sym, ap, subst, ◌∙◌, append_assoc, arith, inl, inr}
use Rattle.std.specs.Option.{option_and_then}
use Rattle.std.proofs.lemmas.List.{take_more, take_all}
use Rattle.std.proofs.lemmas.Option.{same_Some}
use Rattle.sd_pieces.specs.Steps.{run_by, StopsAt, IsBadAt, GoesOn, IsFirstBad}

module _ {S : Type 0} (step : S → ℕ → Option S) where
  abbrev run : S → List ℕ → Option S
  run = run_by step

  -- reading goes on behind a front
  run_through : (g h : S → Option S) (o : Option S) → ((q : S) → g q ≡ h q) → option_and_then g o ≡ option_and_then h o
  run_through g h None same = refl
  run_through g h (Some q) same = same q

  and_then_twice : (f g : S → Option S) (o : Option S) → option_and_then (λ q. option_and_then g (f q)) o ≡ option_and_then g (option_and_then f o)
  and_then_twice f g None = refl
  and_then_twice f g (Some q) = refl

  pub run_on : (p : S) (xs ys : List ℕ) → run p (xs ++ ys) ≡ option_and_then (λ q. run q ys) (run p xs)
  run_on p [] ys = refl
  run_on p (b ∷ bs) ys =
      run_through (λ q. run q (bs ++ ys)) (λ q. option_and_then (λ r. run r ys) (run q bs)) (step p b) (λ q. run_on q bs ys)
      ∙ and_then_twice (λ q. run q bs) (λ r. run r ys) (step p b)

  -- one byte more
  pub run_push : (p : S) (xs : List ℕ) (b : ℕ) → run p (xs ++ b ∷ []) ≡ option_and_then (λ q. step q b) (run p xs)
  run_push p xs b = run_on p xs (b ∷ []) ∙ by (run p xs)
    where
      last : (o : Option S) → option_and_then (λ q. run q []) o ≡ o
      last None = refl
      last (Some q) = refl

      by : (o : Option S) → option_and_then (λ q. run q (b ∷ [])) o ≡ option_and_then (λ q. step q b) o
      by None = refl
      by (Some q) = last (step q b)

  -- a step over the byte at the place
  pub further : (start : S) (text : List ℕ) (place : ℕ) (p q : S) → place < length text → run start (take place text) ≡ Some p → step p (slice_index text place) ≡ Some q → run start (take (place + 1) text) ≡ Some q
  further start text place p q within front goes =
      ap (run start) (take_more text place 0 within)
      ∙ (run_push start (take place text) (slice_index text place)
      ∙ (ap (λ (o : Option S). option_and_then (λ r. step r (slice_index text place)) o) front ∙ goes))

  -- no text goes on from a byte that is refused
  pub stops_all : (start : S) (text : List ℕ) (place : ℕ) → StopsAt step start text place → (more : List ℕ) → run start (take (place + 1) text ++ more) ≡ None
  stops_all start text place s more =
      let byte : ℕ = slice_index text place in
      ap (λ (w : List ℕ). run start (w ++ more)) (take_more text place 0 s.within)
      ∙ (ap (run start) (append_assoc (take place text) (byte ∷ []) more)
      ∙ (run_on start (take place text) (byte ∷ more)
      ∙ (ap (λ (o : Option S). option_and_then (λ q. run q (byte ∷ more)) o) s.front
      ∙ ap (λ (o : Option S). option_and_then (λ q. run q more) o) s.refused)))

  module _ {T : Type 0} (ended : S → Option T) where
    -- the byte at the place is refused
    pub stopped : (start : S) (text : List ℕ) (place : ℕ) (p : S) → place < length text → run start (take place text) ≡ Some p → step p (slice_index text place) ≡ None → IsBadAt step start ended text place
    stopped start text place p within front refused = inl (record { within = within; reached = p; front = front; refused = refused })

    -- nothing ends behind the last byte
    pub ended_short : (start : S) (text : List ℕ) (place : ℕ) (p : S) → length text ≤ place → run start (take place text) ≡ Some p → None ≡ ended p → IsBadAt step start ended text (length text)
    ended_short start text place p end front none =
        inr (record { at_end = refl; reached = p; whole = ap (run start) (sym (take_all place text end)) ∙ front; none = sym none })

    module _ (Spells : List ℕ → T → Type 0) (start : S) (goes : (text : List ℕ) (p : S) → run start text ≡ Some p → GoesOn Spells text) where
      no_progress : (o : Option S) (p : S) → o ≡ Some p → o ≡ None → ⊥
      no_progress o p h k = absurd cc

      not_both : (o : Option S) (p q : S) (value : T) → o ≡ Some p → ended p ≡ Some value → o ≡ Some q → ended q ≡ None → ⊥
      not_both o p q value h is k none = let same : Some p ≡ Some q = sym h ∙ k in no_value (ended p) value is (ap ended (same_Some p q same) ∙ none)
        where
          no_value : (o : Option T) (value : T) → o ≡ Some value → o ≡ None → ⊥
          no_value o value a b = absurd cc

      -- where what is reached goes on to a value, and the text of each value is read to its end, reading fails at the first byte with which no value goes on
      pub first_bad : ((text : List ℕ) (value : T) → Spells text value → (p : S) × (run start text ≡ Some p) × (ended p ≡ Some value)) → (text : List ℕ) (place : ℕ) → IsBadAt step start ended text place → IsFirstBad Spells text place
      first_bad read text place (inl s) =
          let within : place < length text = s.within in
          record {
            within = omega arith;
            front = goes (take place text) s.reached s.front;
            stop = λ _ more value spelled. let r = read (take (place + 1) text ++ more) value spelled in no_progress (run start (take (place + 1) text ++ more)) r.0 r.1 (stops_all start text place s more);
            short = λ at_end value spelled. omega arith;
          }
      first_bad read text place (inr e) =
          let end : place ≡ length text = e.at_end in
          record {
            within = omega arith;
            front = subst (GoesOn Spells) (sym (take_all place text (omega arith))) (goes text e.reached e.whole);
            stop = λ less more value spelled. omega arith;
            short = λ at_end value spelled. let r = read text value spelled in not_both (run start text) r.0 e.reached value r.1 r.2 e.whole e.none;
          }
