-- What was appended piece by piece is appended as a whole.
use Rattle.std.proofs.Common.{◌≡◌, ℕ, List, ◌++◌, ◌∙◌, ap, append_assoc}
use Rattle.std.specs.Prelude.{Result, Ok, Err, OnOk}

pub joined : {X Y : Type 0} (r : Result X Y) (start first second middle out : List ℕ) → middle ≡ start ++ first → OnOk r (out ≡ middle ++ second) → OnOk r (out ≡ start ++ (first ++ second))
joined (Ok x) start first second middle out at then = then ∙ ap (λ (bytes : List ℕ). bytes ++ second) at ∙ append_assoc start first second
joined (Err y) start first second middle out at then = then
