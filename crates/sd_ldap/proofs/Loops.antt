-- Reading one after another, as a loop does.
use Rattle.std.proofs.Common.{◌≡◌, ℕ, zero, suc, ◌-◌, ◌+◌, ◌≤◌, ◌<◌, true, false, eqb, List, [], ◌∷◌, ◌++◌, length, Result, Ok, Err, refl, sym, ap, ◌∙◌, append_assoc, arith}
use Rattle.std.proofs.lemmas.List.{append-nil}
use Rattle.std.specs.Prelude.{IsOk}
use Rattle.sd_ber.specs.Reading.{Reading}
use Rattle.sd_ldap.specs.declared.fault.ReadFault.{ReadFault}
use Rattle.sd_ldap.specs.declared.fault.ReadFault.TheVariants.{Memory, Bad}
use Rattle.sd_ldap.specs.Monad.{◌>>=◌, Fails, IsEnd, Passes, ended, each}

-- what was read before, and what is still read
abbrev pub with_front : {A : Type 0} → List A → Result (List A) ℕ → Result (List A) ℕ
with_front front (Ok xs) = Ok (front ++ xs)
with_front front (Err at) = Err at

abbrev done : {A : Type 0} → A → Result A ℕ
done x = Ok x

pub passes_ok : {A : Type 0} (front : List A) (total : Result (List A) ℕ) → total ≡ Ok front → IsOk total
passes_ok front total e = rw e refl

no_front : {A : Type 0} (read : Result (List A) ℕ) → with_front [] read ≡ read
no_front (Ok xs) = refl
no_front (Err at) = refl

module _ {A : Type 0} (one : Reading → Result (A × Reading) ℕ) where
  regroup : (front : List A) (x : A) (read : Result (List A) ℕ) → with_front front (read >>= λ xs. Ok (x ∷ xs)) ≡ with_front (front ++ x ∷ []) read
  regroup front x (Ok xs) = ap done (sym (append_assoc front (x ∷ []) xs))
  regroup front x (Err at) = refl

  turn : (n : ℕ) (r : Reading) → eqb (length r.rest) 0 ≡ false → each one (suc n) r ≡ (one r >>= λ x. each one n x.1 >>= λ xs. Ok (x.0 ∷ xs))
  unfolding each
  turn n r some = rw some refl

  pub goes_on : (front : List A) (count i : ℕ) (r : Reading) (x : A) (after : Reading) (total : Result (List A) ℕ) → i < count → eqb (length r.rest) 0 ≡ false → one r ≡ Ok (x, after)
      → with_front front (each one (count - i) r) ≡ total → with_front (front ++ x ∷ []) (each one (count - (i + 1)) after) ≡ total
  goes_on front count i r x after total lt some h so_far =
      let k : count - i ≡ suc (count - (i + 1)) = omega arith in
      let first : each one (count - i) r ≡ (one r >>= λ y. each one (count - (i + 1)) y.1 >>= λ xs. Ok (y.0 ∷ xs)) = ap (λ (n : ℕ). each one n r) k ∙ turn (count - (i + 1)) r some in
      let second : each one (count - i) r ≡ (each one (count - (i + 1)) after >>= λ xs. Ok (x ∷ xs)) = first ∙ ap (λ (read : Result (A × Reading) ℕ). read >>= λ y. each one (count - (i + 1)) y.1 >>= λ xs. Ok (y.0 ∷ xs)) h in
      sym (ap (with_front front) second ∙ regroup front x (each one (count - (i + 1)) after)) ∙ so_far

  pub stops : (front : List A) (k : ℕ) (r : Reading) (total : Result (List A) ℕ) → eqb (length r.rest) 0 ≡ true → with_front front (each one k r) ≡ total → total ≡ Ok front
  unfolding each
  stops front zero r total none so_far = sym so_far ∙ rw none (ap done (append-nil front))
  stops front (suc k) r total none so_far = sym so_far ∙ rw none (ap done (append-nil front))

  pub fails : (e : ReadFault) (front : List A) (count i : ℕ) (r : Reading) (total : Result (List A) ℕ) → i < count → eqb (length r.rest) 0 ≡ false → Fails e (one r)
      → with_front front (each one (count - i) r) ≡ total → Fails e total
  fails Memory front count i r total lt some h so_far = tt
  fails (Bad at) front count i r total lt some h so_far =
      let k : count - i ≡ suc (count - (i + 1)) = omega arith in
      let first : each one (count - i) r ≡ (one r >>= λ y. each one (count - (i + 1)) y.1 >>= λ xs. Ok (y.0 ∷ xs)) = ap (λ (n : ℕ). each one n r) k ∙ turn (count - (i + 1)) r some in
      let second : each one (count - i) r ≡ Err at = first ∙ ap (λ (read : Result (A × Reading) ℕ). read >>= λ y. each one (count - (i + 1)) y.1 >>= λ xs. Ok (y.0 ∷ xs)) h in
      sym so_far ∙ ap (with_front front) second

  pub starts : (r : Reading) (count : ℕ) → count ≡ length r.rest → with_front [] (each one (count - 0) r) ≡ each one (length r.rest) r
  starts r count e =
      let k : count - 0 ≡ length r.rest = omega (arith, e) in
      ap (λ (n : ℕ). with_front [] (each one n r)) k ∙ no_front (each one (length r.rest) r)

  -- after the last turn
  last : (front : List A) (count i : ℕ) (r : Reading) (total : Result (List A) ℕ) → count ≤ i → with_front front (each one (count - i) r) ≡ total → total ≡ with_front front (ended [] r)
  unfolding each
  last front count i r total le so_far =
      let k : count - i ≡ 0 = omega arith in
      sym so_far ∙ ap (λ (n : ℕ). with_front front (each one n r)) k

  pub last_ok : (front : List A) (count i : ℕ) (r : Reading) (total : Result (List A) ℕ) → count ≤ i → with_front front (each one (count - i) r) ≡ total → eqb (length r.rest) 0 ≡ true → total ≡ Ok front
  last_ok front count i r total le so_far none = last front count i r total le so_far ∙ rw none (ap done (append-nil front))

  pub last_err : (e : ReadFault) (front : List A) (count i : ℕ) (r : Reading) (total : Result (List A) ℕ) → count ≤ i → with_front front (each one (count - i) r) ≡ total → IsEnd (Err e) r → Fails e total
  last_err Memory front count i r total le so_far is = tt
  last_err (Bad at) front count i r total le so_far is = last front count i r total le so_far ∙ rw (is.1, is.0) refl

  pub passes_end : (result : Result (Unit {0}) ReadFault) (front : List A) (count i : ℕ) (r : Reading) (total : Result (List A) ℕ) → count ≤ i → with_front front (each one (count - i) r) ≡ total → IsEnd result r → Passes result total
  passes_end (Ok x) front count i r total le so_far is = passes_ok front total (last_ok front count i r total le so_far is)
  passes_end (Err e) front count i r total le so_far is = last_err e front count i r total le so_far is
