-- Entries that fit, by how many there are.
use Rattle.std.proofs.Common.{◌≡◌, ℕ, ◌≤◌, ◌<◌, List, [], ◌∷◌, length, map, refl, sym, ap, ◌∙◌, arith}
use Rattle.std.specs.Prelude.{slice_index_or}
use Rattle.sd_ldap.specs.declared.entry.DirEntry.{DirEntry}
use Rattle.sd_ldap.specs.Values.{SearchValue}
use Rattle.sd_fetch.specs.Told.{where_one}

pub one_item : {A B : Type 0} (f : A → B) (xs : List A) (x : A) (ys : List B) → 1 ≤ length xs → length xs < 2 → x ≡ slice_index_or xs 0 x → map f xs ≡ ys → ys ≡ f x ∷ []
one_item f [] x ys some few is e = absurd (omega arith)
one_item {A} {B} f (a ∷ []) x ys some few is e = sym e ∙ ap (λ (y : A). f y ∷ []) (sym is)
one_item f (a ∷ b ∷ rest) x ys some few is e = absurd (omega arith)

pub many_none : {A : Type 0} (f : A → DirEntry) (xs : List A) (ys : List DirEntry) (g : DirEntry → List SearchValue) → 2 ≤ length xs → map f xs ≡ ys → where_one g ys ≡ []
many_none f [] ys g many e = absurd (omega arith)
many_none f (a ∷ []) ys g many e = absurd (omega arith)
many_none f (a ∷ b ∷ rest) ys g many e = ap (where_one g) (sym e)
