-- A field whose bytes all stand for themselves is printed as it is.
use Rattle.std.proofs.Common.{◌≡◌, ℕ, Bool, true, false, cond, ◌||◌, List, [], ◌∷◌, ◌++◌, refl, ◌∙◌, ap}
use Rattle.std.specs.List.{list_any}
use Rattle.sd_wire.specs.Escapes.{is_escaped, escape, field}

plain_step : (b : ℕ) (bs rest : List ℕ) (escaped others : Bool) → (escaped || others) ≡ false → (others ≡ false → rest ≡ bs)
    → cond escaped (escape b) (b ∷ []) ++ rest ≡ b ∷ bs
plain_step b bs rest true others h f = cc
plain_step b bs rest false others h f = ap (λ (l : List ℕ). b ∷ l) (f h)

pub plain_is : (bs : List ℕ) → list_any is_escaped bs ≡ false → field bs ≡ bs
plain_is [] h = refl
plain_is (b ∷ bs) h = plain_step b bs (field bs) (is_escaped b) (list_any is_escaped bs) h (plain_is bs)
