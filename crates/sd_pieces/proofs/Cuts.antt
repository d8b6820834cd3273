-- A text that is cut at a byte, and its pieces.
use Rattle.std.proofs.Common.{◌≡◌, ℕ, ◌<◌, List, [], ◌∷◌, length, Option, refl, arith}
use Rattle.std.specs.Prelude.{IfSome, ◌==◌}
use Rattle.std.specs.List.{slice_split}
use Rattle.sd_pieces.specs.Pieces.{cut_of, pieces_in, pieces}

-- the first piece, and those of what is left
pub split_cut : (by : ℕ) (bytes : List ℕ) → slice_split (λ b. b == by) bytes ≡ (cut_of by bytes).0 ∷ pieces_in by (cut_of by bytes).1
split_cut by [] = refl
split_cut by (b ∷ bs) = grind (arith, split_cut by bs)

-- what is left is shorter
cut_shorter : (by : ℕ) (bytes : List ℕ) → IfSome (cut_of by bytes).1 (λ rest. length rest < length bytes)
cut_shorter by [] = tt
cut_shorter by (b ∷ bs) = grind (arith, cut_shorter by bs)

-- the same of a cut that equals it
pub pieces_by_cut : (by : ℕ) (bytes : List ℕ) (cut : List ℕ × Option (List ℕ)) → cut ≡ cut_of by bytes → pieces by bytes ≡ cut.0 ∷ pieces_in by cut.1
pieces_by_cut by bytes cut h = rw h (split_cut by bytes)

pub shorter_by_cut : (by : ℕ) (bytes : List ℕ) (cut : List ℕ × Option (List ℕ)) → cut ≡ cut_of by bytes → IfSome cut.1 (λ rest. length rest < length bytes)
shorter_by_cut by bytes cut h = rw h (cut_shorter by bytes)
