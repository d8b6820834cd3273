-- The rows that are kept of a list are those of its entries, the newest first.
use Rattle.std.proofs.Common.{◌≡◌, ℕ, List, reverse, ◌∙◌, ap}
use Rattle.std.specs.Prelude.{Result, Ok, Err, IfOk}
use Rattle.sd_rules.specs.declared.events.Row.{Row}
use Rattle.sd_rules.specs.declared.replies.Entry.{Entry}
use Rattle.sd_rules.specs.KeptRows.{rows_of}
use Rattle.sd_keeping.specs.Opening.{daemon}
use Rattle.sd_keeping.specs.Opening as opening
use Rattle.sd_past.specs.Kept.{Keeps}

pub kept_of_list : {M : Type 0} (r : Result (List Row) M) (next floor : ℕ) (es items past : List Entry) → es ≡ items → reverse items ≡ past
    → IfOk r (opening.Keeps next floor es) → IfOk r (λ rows. Keeps next floor past rows)
kept_of_list (Ok rs) next floor es items past is same h = λ s.
    h s
    ∙ ap (λ (l : List Entry). rows_of (daemon s next floor l)) is
    ∙ ap (λ (p : List Entry). rows_of (record { settings = s; next = next; floor = floor; past = p })) same
kept_of_list (Err e) next floor es items past is same h = tt
