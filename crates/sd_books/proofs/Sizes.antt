-- The texts of the newest answer are among those of all entries, and each rule of a book has some.
use Rattle.std.proofs.Common.{ℕ, ◌+◌, ◌≤◌, Bool, true, false, List, [], ◌∷◌, length, arith}
use Rattle.std.specs.Prelude.{Option, Some, None, sum_by, if◌then◌else◌}
use Rattle.std.proofs.lemmas.Grind.{common_steps}
use Rattle.sd_rules.specs.declared.keys.Key.{Key}
use Rattle.sd_rules.specs.declared.records.Answered.{Answered}
use Rattle.sd_rules.specs.declared.records.Rule.{Rule}
use Rattle.sd_rules.specs.declared.events.Event.{Event}
use Rattle.sd_rules.specs.declared.events.Event.TheVariants as events
use Rattle.sd_rules.specs.declared.events.Row.{Row}
use Rattle.sd_rules.specs.declared.events.Row.TheVariants as rows
use Rattle.sd_rules.specs.declared.replies.Entry.{Entry}
use Rattle.sd_rules.specs.Keys.{speaks_of}
use Rattle.sd_rules.specs.Past.{Standing, is_closed, key_of, answer_in, answer_by, answer_under, spoken, newest, or_else}
use Rattle.sd_rules.specs.TextBytes.{bytes_of_rule, bytes_of_row, bytes_of_event, bytes_of_answered, text_bytes}
use Rattle.sd_books.specs.Bounds.{bytes_of_standing}

-- each rule counts for at least eight bytes
pub rules_within_bytes : (rules : List Rule) → length rules ≤ sum_by bytes_of_rule rules
rules_within_bytes [] = omega arith
rules_within_bytes (rule ∷ rules) = grind (arith, common_steps, rules_within_bytes rules)

within_choice : (b : Bool) (x : Option Standing) (n : ℕ) → bytes_of_standing x ≤ n → bytes_of_standing (if b then x else None) ≤ n
within_choice true x n h = h
within_choice false x n h = omega arith

pub spoken_within : (k : Key) (a : Option Standing) → bytes_of_standing (spoken k a) ≤ bytes_of_standing a
spoken_within k None = omega arith
spoken_within k (Some a) = within_choice (speaks_of a.own a.answered k) (Some a) (bytes_of_answered a.answered) (omega arith)

under_within : (e : Entry) (answered : Answered) (own : Option Key) → bytes_of_standing (answer_under e answered own) ≤ bytes_of_answered answered
under_within e answered None = omega arith
under_within e answered (Some own) = omega arith

kept_within : (past : List Entry) (e : Entry) (row : Row) → bytes_of_standing (answer_by past e (events.Kept row)) ≤ bytes_of_row row
kept_within past e (rows.Answer n m key answered voided) = omega arith
kept_within past e _ = omega arith

pub answer_within : (past : List Entry) (e : Entry) (event : Event) → bytes_of_standing (answer_by past e event) ≤ bytes_of_event event
answer_within past e (events.Answer request answered) =
    within_choice (is_closed e.reply) (answer_under e answered (key_of past request)) (bytes_of_answered answered) (under_within e answered (key_of past request))
answer_within past e (events.Kept row) = kept_within past e row
answer_within past e _ = omega arith

choice_within : (a b : Option Standing) (m n : ℕ) → bytes_of_standing a ≤ m → bytes_of_standing b ≤ n → bytes_of_standing (or_else a b) ≤ m + n
choice_within None b m n f g = omega arith
choice_within (Some a) b m n f g = omega arith

-- the texts of the newest answer of a key are among those of the entries
pub newest_within : (past : List Entry) (k : Key) → bytes_of_standing (newest past k) ≤ text_bytes past
newest_within [] k = omega arith
newest_within (e ∷ past) k =
    let own = spoken_within k (answer_in past e) in
    let held = answer_within past e e.event in
    choice_within (spoken k (answer_in past e)) (newest past k) (bytes_of_event e.event) (text_bytes past) (omega arith) (newest_within past k)
