-- Reading items one behind another, as a loop does.
use Rattle.std.proofs.Common.{◌≡◌, ℕ, suc, ◌-◌, ◌+◌, ◌≤◌, ◌<◌, List, [], ◌∷◌, ◌++◌, Option, Some, None, refl, sym, ap, ◌∙◌, append_assoc, arith}
use Rattle.std.proofs.lemmas.List.{append-nil}
use Rattle.sd_keeper.specs.declared.field.FieldFault.{FieldFault}
use Rattle.sd_keeper.specs.declared.field.FieldFault.TheVariants as faults
use Rattle.sd_keeper.specs.Reading.{◌>>=◌, Fails, items_at}

-- what was read before, and what is still read
abbrev pub with_front : {T : Type 0} → List T → Option (List T × List ℕ) → Option (List T × List ℕ)
with_front front read = read >>= λ x. Some (front ++ x.0, x.1)

regroup : {T : Type 0} (front : List T) (x : T) (read : Option (List T × List ℕ)) → with_front front (read >>= λ y. Some (x ∷ y.0, y.1)) ≡ with_front (front ++ x ∷ []) read
regroup {T} front x (Some y) = ap (λ (items : List T). Some (items, y.1)) (simp append_assoc)
regroup front x None = refl

module _ {T : Type 0} (item_at : List ℕ → Option (T × List ℕ)) where
  pub goes_on : (front : List T) (count i : ℕ) (bytes : List ℕ) (x : T) (behind : List ℕ) (total : Option (List T × List ℕ)) → i < count → item_at bytes ≡ Some (x, behind)
      → with_front front (items_at item_at (count - i) bytes) ≡ total → with_front (front ++ x ∷ []) (items_at item_at (count - (i + 1)) behind) ≡ total
  unfolding items_at
  goes_on front count i bytes x behind total lt h so_far =
      let k : count - i ≡ suc (count - (i + 1)) = omega arith in
      let one : with_front front (items_at item_at (count - i) bytes) ≡ with_front (front ++ x ∷ []) (items_at item_at (count - (i + 1)) behind) = rw (k, h) (regroup front x (items_at item_at (count - (i + 1)) behind)) in
      sym one ∙ so_far

  pub ends : (fault : FieldFault) (front : List T) (count i : ℕ) (bytes : List ℕ) (total : Option (List T × List ℕ)) → i < count → Fails fault (item_at bytes)
      → with_front front (items_at item_at (count - i) bytes) ≡ total → Fails fault total
  unfolding items_at
  ends faults.Memory front count i bytes total lt h so_far = tt
  ends faults.Bad front count i bytes total lt h so_far =
      let k : count - i ≡ suc (count - (i + 1)) = omega arith in
      let one : with_front front (items_at item_at (count - i) bytes) ≡ None = rw (k, h) refl in
      sym so_far ∙ one

  pub is_done : (front : List T) (count i : ℕ) (bytes : List ℕ) (total : Option (List T × List ℕ)) → count ≤ i → with_front front (items_at item_at (count - i) bytes) ≡ total → total ≡ Some (front, bytes)
  unfolding items_at
  is_done front count i bytes total le so_far =
      let k : count - i ≡ 0 = omega arith in
      let one : with_front front (items_at item_at (count - i) bytes) ≡ Some (front, bytes) = rw k (ap (λ (items : List T). Some (items, bytes)) (append-nil front)) in
      sym so_far ∙ one
