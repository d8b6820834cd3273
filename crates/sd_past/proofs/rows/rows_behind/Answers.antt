use Rattle.std.proofs.Common.{◌≡◌, ◌++◌, ◌∷◌, [], List, ap, reverse, arith}
use Rattle.std.proofs.lemmas.Grind.{common_steps}
use Rattle.std.proofs.lemmas.List.{reverse-append, reverse-reverse}
use Rattle.sd_rules.specs.KeptRows as kept
use Rattle.sd_past.proofs.rows.rows_behind.Goals as goal

behind_head : {X : Type 0} → (xs : List X) (h : X) → reverse (xs ++ h ∷ []) ≡ h ∷ reverse xs
behind_head xs h = reverse-append xs (h ∷ [])

from_behind : {X : Type 0} → (rows xs : List X) (h : X) → reverse rows ≡ xs ++ h ∷ [] → rows ≡ h ∷ reverse xs
from_behind rows xs h e =
    let turned : reverse (reverse rows) ≡ reverse (xs ++ h ∷ []) = ap reverse e in
    let whole : reverse (reverse rows) ≡ rows = reverse-reverse rows in
    let first : reverse (xs ++ h ∷ []) ≡ h ∷ reverse xs = behind_head xs h in
    cc

-- all rows behind the head, the last first, are those of all entries
pub returns : goal.returns
returns c =
    from_behind c.loop-place.rows (kept.rows_among (reverse c.args.all.now) (reverse c.args.all.now)) c.args.head (grind (arith, common_steps, c.loop-place.invariant))
