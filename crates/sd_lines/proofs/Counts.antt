-- Lists of words of another length.
use Rattle.std.proofs.Common.{◌≡◌, ◌≢◌, ◌<◌, ℕ, List, [], ◌∷◌, length, None, refl, arith}
use Rattle.sd_lines.specs.Words.{one_of, pair_of, first_of, two_of, three_of, tag_of}

pub one_other : (ws : List (List ℕ)) → length ws ≢ 1 → one_of ws ≡ None
one_other [] h = refl
one_other (a ∷ []) h = absurd (h refl)
one_other (a ∷ b ∷ ws) h = refl

pub pair_other : (ws : List (List ℕ)) → length ws ≢ 2 → pair_of ws ≡ None
pair_other [] h = refl
pair_other (a ∷ []) h = refl
pair_other (a ∷ b ∷ []) h = absurd (h refl)
pair_other (a ∷ b ∷ c ∷ ws) h = refl

pub ruleset others = (one_other, pair_other)

-- ---- lists that are shorter

pub first_fewer : (ws : List (List ℕ)) → length ws < 1 → first_of ws ≡ None
first_fewer [] h = refl
first_fewer (a ∷ ws) h = grind (arith)

pub two_fewer : (ws : List (List ℕ)) → length ws < 2 → two_of ws ≡ None
two_fewer [] h = refl
two_fewer (a ∷ []) h = refl
two_fewer (a ∷ b ∷ ws) h = grind (arith)

pub three_fewer : (ws : List (List ℕ)) → length ws < 3 → three_of ws ≡ None
three_fewer [] h = refl
three_fewer (a ∷ []) h = refl
three_fewer (a ∷ b ∷ []) h = refl
three_fewer (a ∷ b ∷ c ∷ ws) h = grind (arith)

pub tag_fewer : (w : List ℕ) → length w < 2 → tag_of w ≡ None
tag_fewer [] h = refl
tag_fewer (a ∷ []) h = refl
tag_fewer (a ∷ b ∷ w) h = grind (arith)

pub ruleset fewer = (first_fewer, two_fewer, three_fewer, tag_fewer)
