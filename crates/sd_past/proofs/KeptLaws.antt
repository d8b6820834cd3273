-- The head and what stands behind it are the rows that are kept.
use Rattle.std.proofs.Common.{◌≡◌, ℕ, List, ◌∷◌, reverse, ◌∙◌, ap}
use Rattle.std.specs.Prelude.{Result, Ok, Err, IfOk}
use Rattle.sd_rules.specs.declared.events.Row.{Row}
use Rattle.sd_rules.specs.declared.events.Row.TheVariants.{Head}
use Rattle.sd_rules.specs.declared.replies.Entry.{Entry}
use Rattle.sd_rules.specs.KeptRows.{rows_among}
use Rattle.sd_rules.specs.Steps.{number_after, moment_after}
use Rattle.sd_past.specs.Kept.{Keeps}

pub kept_behind : {M : Type 0} (r : Result (List Row) M) (next floor n m : ℕ) (past : List Entry) → n ≡ number_after next past → m ≡ moment_after floor past 0
    → IfOk r (λ rows. rows ≡ Head 2 n m ∷ reverse (rows_among past past)) → IfOk r (λ rows. Keeps next floor past rows)
kept_behind (Ok rs) next floor n m past is at h = λ s.
    h
    ∙ ap (λ (x : ℕ). Head 2 x m ∷ reverse (rows_among past past)) is
    ∙ ap (λ (x : ℕ). Head 2 (number_after next past) x ∷ reverse (rows_among past past)) at
kept_behind (Err e) next floor n m past is at h = tt
