-- Scripts go on from where they stand.
use Rattle.std.proofs.Common.{◌≡◌, ◌++◌, List, [], ◌∷◌, refl, ap}
use Rattle.sd_rules.specs.declared.tasks.Need.{Need}
use Rattle.sd_rules.specs.Scripts.{Script, Seen, need_at, next_need, script_after, seen_at}

pub goes_on : (script : Script) (earlier later : List Seen) → script_after script (later ++ earlier) ≡ script_after (script_after script earlier) later
goes_on script earlier [] = refl
goes_on script earlier (seen ∷ later) = ap (λ (s : Script). seen_at s seen) (goes_on script earlier later)

pub needs_on : (script : Script) (earlier later : List Seen) → next_need script (later ++ earlier) ≡ next_need (script_after script earlier) later
needs_on script earlier later = ap (λ (s : Script). need_at s) (goes_on script earlier later)
