-- The places that are kept for names.
use Rattle.std.proofs.Common.{◌≡◌, ℕ, Bool, true, false, List, [], ◌∷◌, refl, sym, ap, ◌∙◌, inl, inr, Option, Some, cond}
use Rattle.std.proofs.lemmas.Bool.{cases_Bool}
use Rattle.indexmap.specs.IndexMap.{insert_entry}
use Rattle.sd_names.specs.declared.naming.Part.{Part}
use Rattle.sd_names.specs.declared.naming.Name.{Name}
use Rattle.sd_names.specs.Naming.{parts, names_equal}
use Rattle.sd_names.proofs.Names.{levels_equal, equal_parts, equal_of, parts_same}
use Rattle.sd_places.specs.Naming.{place_named}

pub place_same : (names : List (Name × ℕ)) (a b : Name) → parts a ≡ parts b → place_named names a ≡ place_named names b
place_same [] a b e = refl
place_same (p ∷ ps) a b e =
    let test : names_equal a p.0 ≡ names_equal b p.0 = equal_parts a p.0 ∙ ap (λ (x : List (List Part)). levels_equal x (parts p.0)) e ∙ sym (equal_parts b p.0) in
    ap (λ (t : Bool). cond t (Some p.1) (place_named ps a)) test ∙ ap (λ (r : Option ℕ). cond (names_equal b p.0) (Some p.1) r) (place_same ps a b e)

over : (a : Bool) (n m : ℕ) (r : Option ℕ) → cond a (Some n) r ≡ cond a (Some n) (cond a (Some m) r)
over true n m r = refl
over false n m r = refl

turned : (a b : Bool) (x y r : Option ℕ) → (a ≡ true → b ≡ true → ⊥) → cond a x (cond b y r) ≡ cond b y (cond a x r)
turned true true x y r h = absurd (h refl refl)
turned true false x y r h = refl
turned false true x y r h = refl
turned false false x y r h = refl

pub place_put : (names : List (Name × ℕ)) (k q : Name) (n : ℕ) → place_named (insert_entry names_equal names k n) q ≡ cond (names_equal q k) (Some n) (place_named names q)
place_put [] k q n = refl
place_put (p ∷ ps) k q n =
    elim (cases_Bool (names_equal k p.0)) [
      | inl equal ↦
          let same : parts k ≡ parts p.0 = parts_same k p.0 equal in
          let test : names_equal q k ≡ names_equal q p.0 = equal_parts q k ∙ ap (λ (x : List (List Part)). levels_equal (parts q) x) same ∙ sym (equal_parts q p.0) in
          let kept : place_named (insert_entry names_equal (p ∷ ps) k n) q ≡ cond (names_equal q p.0) (Some n) (place_named ps q) = rw equal refl in
          kept ∙ over (names_equal q p.0) n p.1 (place_named ps q) ∙ ap (λ (t : Bool). cond t (Some n) (cond (names_equal q p.0) (Some p.1) (place_named ps q))) (sym test)
      | inr differ ↦
          let kept : place_named (insert_entry names_equal (p ∷ ps) k n) q ≡ cond (names_equal q p.0) (Some p.1) (place_named (insert_entry names_equal ps k n) q) = rw differ refl in
          let apart : names_equal q p.0 ≡ true → names_equal q k ≡ true → ⊥ = λ e g.
          let both : names_equal k p.0 ≡ true = equal_of k p.0 (sym (parts_same q k g) ∙ parts_same q p.0 e) in
          let bad : true ≡ false = sym both ∙ differ in
          cc in
          kept ∙ ap (λ (r : Option ℕ). cond (names_equal q p.0) (Some p.1) r) (place_put ps k q n)
          ∙ turned (names_equal q p.0) (names_equal q k) (Some p.1) (Some n) (place_named ps q) apart
    ]
