-- Links that are made one after the other.
use Rattle.std.proofs.Common.{◌≡◌, ℕ, List, [], ◌∷◌, Option, Some, None, refl, ap, append_assoc, ◌∙◌}
use Rattle.sd_tools.specs.Replies.{with_pieces}

again : (path : List ℕ) (before : Option (List (List ℕ))) → with_pieces (with_pieces before (path ∷ [])) (path ∷ []) ≡ with_pieces before (path ∷ path ∷ [])
again path None = refl
again path (Some paths) = ap Some (append_assoc paths (path ∷ []) (path ∷ []))

-- two links, one made after the other
pub twice : (path : List ℕ) (before between now : Option (List (List ℕ))) → between ≡ with_pieces before (path ∷ [])
    → now ≡ with_pieces between (path ∷ []) → now ≡ with_pieces before (path ∷ path ∷ [])
twice path before between now e f = f ∙ ap (λ (x : Option (List (List ℕ))). with_pieces x (path ∷ [])) e ∙ again path before
