-- A journal of kept rows is orderly.
use Rattle.std.proofs.Common.{◌≡◌, ℕ, Bool, true, false, List, [], ◌∷◌, map, refl, sym, ◌∙◌}
use Rattle.std.specs.Prelude.{Option, None, ◌==◌, if◌then◌else◌}
use Rattle.sd_rules.specs.declared.events.Row.{Row}
use Rattle.sd_rules.specs.Requests.{waits_for}
use Rattle.sd_rules.specs.KeptRows.{kept_entry, row_number}
use Rattle.sd_forgetting.specs.Parts.{numbers_fall, moments_fall}
use Rattle.sd_forgetting.specs.Orderly.{entries_fit, last_word, head_is_open, IsOrderly}
use Rattle.sd_forgetting.proofs.Tests.{none_is_not}

rows_fit : (rs : List Row) → entries_fit (map kept_entry rs) ≡ true
rows_fit [] = refl
rows_fit (row ∷ rs) = rows_fit rs

rows_head : (rs : List Row) → head_is_open (map kept_entry rs) ≡ true
rows_head [] = refl
rows_head (row ∷ rs) = refl

rows_say_none : (rs : List Row) → last_word (map kept_entry rs) ≡ None
rows_say_none [] = refl
rows_say_none (row ∷ rs) = rows_say_none rs

none_if : (b : Bool) (y : Option ℕ) → y ≡ None → (if b then None else y) ≡ None
none_if true y h = refl
none_if false y h = h

rows_wait_none : (rs : List Row) (t : ℕ) → waits_for (map kept_entry rs) t ≡ None
rows_wait_none [] t = refl
rows_wait_none (row ∷ rs) t = none_if (row_number row == t) (waits_for (map kept_entry rs) t) (rows_wait_none rs t)

-- where its numbers and moments fall
pub rows_orderly : (next latest : ℕ) (rs : List Row) → numbers_fall next (map kept_entry rs) ≡ true → moments_fall latest (map kept_entry rs) ≡ true → IsOrderly next (map kept_entry rs)
rows_orderly next latest rs f g = record {
  numbers = f;
  latest = latest;
  moments = g;
  fits = rows_fit rs;
  head = rows_head rs;
  ended = λ e h a. absurd (none_is_not e (sym (rows_say_none rs) ∙ h));
  named = λ t r n w c h. absurd (none_is_not r (sym (rows_wait_none rs t) ∙ w));
}
