-- A block at the front of a text.
use Rattle.std.proofs.Common.{◌≡◌, ◌≤◌, ℕ, List, [], ◌∷◌, length, drop, get_or, refl, arith}
use Rattle.sd_idmap.specs.Hash.{blocks_mixed, mixed, block_of}

pub block_first : (h : ℕ) (xs : List ℕ) → 4 ≤ length xs → blocks_mixed h xs ≡ blocks_mixed (mixed h (block_of (get_or xs 0 0) (get_or xs 1 0) (get_or xs 2 0) (get_or xs 3 0))) (drop 4 xs)
block_first h [] four = absurd (omega arith)
block_first h (a ∷ []) four = absurd (omega arith)
block_first h (a ∷ b ∷ []) four = absurd (omega arith)
block_first h (a ∷ b ∷ c ∷ []) four = absurd (omega arith)
block_first h (a ∷ b ∷ c ∷ d ∷ rest) four = refl
