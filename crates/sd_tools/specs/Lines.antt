-- The first line of what a source gives, while it is taken.
use Rattle.std.specs.Prelude.{◌≡◌, ℕ, ◌++◌, List, [], ◌∷◌, Option, None, Some}
use Rattle.std.specs.Io.KnownBytes.{Consumes, IsAtEnd}
use Rattle.sd_tools.specs.Queries.{first_line}

-- the next byte was taken, or no byte is left
abbrev pub IsNext : Option (List ℕ) → Option (List ℕ) → Option ℕ → Type 0
IsNext old new (Some byte) = Consumes old new (byte ∷ [])
IsNext old new None = Consumes old new [] × IsAtEnd new

-- the bytes taken, and then the first line of those left, are the first line of all
abbrev pub SoFar : Option (List ℕ) → Option (List ℕ) → List ℕ → Type 0
SoFar None left taken = Unit {0}
SoFar (Some all) None taken = ⊥
SoFar (Some all) (Some left) taken = first_line all ≡ taken ++ first_line left

-- the bytes taken are the first line of all
abbrev pub IsLine : Option (List ℕ) → List ℕ → Type 0
IsLine None taken = Unit {0}
IsLine (Some all) taken = first_line all ≡ taken
