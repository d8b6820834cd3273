-- Texts compared as the DNs that they spell.
use Rattle.std.specs.Prelude.{ℕ, Bool, true, false, List, [], Option, Some, None, unwrap_or}
use Rattle.std.specs.Result.{result_ok}
use Rattle.sd_dn.specs.declared.Pair.{Pair}
use Rattle.sd_dn.specs.Reading.{Start, run}
use Rattle.sd_dn.specs.Comparing.{same_dn}

-- the DN that a text spells
abbrev pub spelled : List ℕ → Option (List (List Pair))
spelled text = result_ok (run (Start [] []) text)

-- a test of two things, where both are there
abbrev pub both_meet : {A : Type 0} → (A → A → Bool) → Option A → Option A → Bool
both_meet test (Some a) (Some b) = test a b
both_meet test (Some a) None = false
both_meet test None b = false

-- both texts spell a DN, and the DNs are equal
abbrev pub same_dn_text : List ℕ → List ℕ → Bool
same_dn_text a b = both_meet same_dn (spelled a) (spelled b)
