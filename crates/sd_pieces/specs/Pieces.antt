-- A text that a byte parts.
use Rattle.std.specs.Prelude.{ℕ, ◌==◌, if◌then◌else◌, List, [], ◌∷◌, Option, Some, None}
use Rattle.std.specs.List.{slice_split}

-- what stands before the first byte that parts, and what stands behind it
abbrev pub cut_of : ℕ → List ℕ → List ℕ × Option (List ℕ)
cut_of by [] = ([], None)
cut_of by (b ∷ bs) = if b == by then ([], Some bs) else (b ∷ (cut_of by bs).0, (cut_of by bs).1)

-- the pieces between the bytes that part
abbrev pub pieces : ℕ → List ℕ → List (List ℕ)
pieces by bytes = slice_split (λ b. b == by) bytes

-- the pieces of what is left, where something is
abbrev pub pieces_in : ℕ → Option (List ℕ) → List (List ℕ)
pieces_in by None = []
pieces_in by (Some bytes) = pieces by bytes
