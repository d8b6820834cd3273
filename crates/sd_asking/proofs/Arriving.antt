-- What all bytes that answer a request decide is what those that came decided, if they did.
use Rattle.std.proofs.Common.{◌≡◌, ℕ, ◌+◌, ◌≤◌, List, [], ◌∷◌, ◌++◌, length, Option, Some, None, refl, sym, ap, ◌∙◌, append_assoc, append-nil, arith}
use Rattle.std.specs.Io.KnownBytes.{append_known, prepend_known}
use Rattle.std.proofs.lemmas.List.{length-append}
use Rattle.sd_client.specs.declared.step.Request.{Request}
use Rattle.sd_client.specs.Coming.{Comes, gained}
use Rattle.sd_client.specs.Deciding.{undecided, decided}
use Rattle.sd_client.proofs.Stable.{decided_stable}

-- so many bytes are still to come, and with those that came they are the ones before and the answer
pub record IsArrived (old answer new : List ℕ) (coming : Option (List ℕ)) : Type 0 where
  pub rest : List ℕ
  pub is : coming ≡ Some rest
  pub all : old ++ answer ≡ new ++ rest
  pub grown : length old ≤ length new

by_rest : (old answer new : List ℕ) (coming : Option (List ℕ)) → new ≡ old ++ gained old new → Some answer ≡ prepend_known (gained old new) coming → IsArrived old answer new coming
by_rest old answer new None grown e = absurd cc
by_rest old answer new (Some rest) grown e =
    let parts : answer ≡ gained old new ++ rest = cc in
    record {
      rest = rest;
      is = refl;
      all = ap (λ (bytes : List ℕ). old ++ bytes) parts ∙ sym (append_assoc old (gained old new) rest) ∙ ap (λ (bytes : List ℕ). bytes ++ rest) (sym grown);
      grown = omega (arith, ap length grown, length-append old (gained old new));
    }

pub arrived : (r r' c coming : Option (List ℕ)) (old answer new : List ℕ) → c ≡ Some [] → Comes r r' (append_known c answer) coming old new → IsArrived old answer new coming
arrived r r' c coming old answer new quiet came =
    by_rest old answer new coming came.grown (sym (ap (λ (known : Option (List ℕ)). append_known known answer) quiet) ∙ came.coming)

-- what was decided is what all decide
pub kept : (request : Request) (id at : ℕ) (old answer new : List ℕ) (coming : Option (List ℕ)) → IsArrived old answer new coming → at ≤ length old → (decided request id at new ≡ undecided → ⊥)
    → decided request id at (old ++ answer) ≡ decided request id at new
kept request id at old answer new coming a there some =
    ap (λ (bytes : List ℕ). decided request id at bytes) a.all ∙ decided_stable request id at new a.rest (omega (arith, a.grown)) some

-- where nothing is to come any more, all came
pub none_left : (request : Request) (id at : ℕ) (old answer new : List ℕ) (coming : Option (List ℕ)) → IsArrived old answer new coming → coming ≡ Some [] → decided request id at (old ++ answer) ≡ decided request id at new
none_left request id at old answer new coming a quiet =
    let none : a.rest ≡ [] = let both : Some a.rest ≡ Some [] = sym a.is ∙ quiet in cc in
    ap (λ (bytes : List ℕ). decided request id at bytes) (a.all ∙ ap (λ (bytes : List ℕ). new ++ bytes) none ∙ append-nil new)

empty : (bytes : List ℕ) → length bytes ≡ 0 → bytes ≡ []
empty [] e = refl
empty (byte ∷ bytes) e = absurd (omega arith)

-- a place within what came that is the end of all: nothing is to come
pub record IsQuiet (new : List ℕ) (coming : Option (List ℕ)) (at : ℕ) : Type 0 where
  pub quiet : coming ≡ Some []
  pub read : at ≡ length new

pub at_end : (old answer new : List ℕ) (coming : Option (List ℕ)) (at : ℕ) → IsArrived old answer new coming → at ≤ length new → at ≡ length (old ++ answer) → IsQuiet new coming at
at_end old answer new coming at a within end =
    let size : length (old ++ answer) ≡ length new + length a.rest = ap length a.all ∙ length-append new a.rest in
    record {
      quiet = a.is ∙ ap Some (empty a.rest (omega (arith, size, end)));
      read = omega (arith, size, end);
    }

-- all came, and was read
pub record IsRestored (old new : List ℕ) (coming : Option (List ℕ)) (at count : ℕ) : Type 0 where
  pub quiet : coming ≡ Some []
  pub read : at ≡ length new
  pub grown : length new ≡ length old + count
  pub short : length new ≤ 67108864

pub restored : (old answer new : List ℕ) (coming : Option (List ℕ)) (at count : ℕ) → IsArrived old answer new coming → at ≤ length new → at ≡ length (old ++ answer) → length (old ++ answer) ≡ length old + count → length old + count ≤ 67108864
    → IsRestored old new coming at count
restored old answer new coming at count a there end size within =
    let q = at_end old answer new coming at a there end in
    record {
      quiet = q.quiet;
      read = q.read;
      grown = omega (arith, q.read, end, size);
      short = omega (arith, q.read, end, size);
    }
