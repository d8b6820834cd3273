-- The texts of an event that had room, and of what is given for it, are bounded.
use Rattle.std.proofs.Common.{◌≡◌, ℕ, zero, suc, ◌+◌, ◌*◌, ◌≤◌, Bool, true, false, nat_lt, List, [], ◌∷◌, arith, refl, sym, subst}
use Rattle.std.specs.Prelude.{Option, Some, None, Result, Ok, Err, OnOk, IfOk, cond, not, ◌&&◌, ◌||◌, ◌==◌, sum_by, slice_get}
use Rattle.std.proofs.lemmas.Grind.{common_steps}
use Rattle.std.proofs.lemmas.Bool.Decides.{nat_tests}
use Rattle.sd_rules.specs.declared.records.Answered.{Answered}
use Rattle.sd_rules.specs.declared.records.Answered.TheVariants.{Found, Absent}
use Rattle.sd_rules.specs.declared.records.Record.{Record}
use Rattle.sd_rules.specs.declared.records.Record.TheVariants as records
use Rattle.sd_rules.specs.declared.records.Rule.{Rule}
use Rattle.sd_rules.specs.declared.events.Event.{Event}
use Rattle.sd_rules.specs.declared.events.Event.TheVariants.{Answer, Abandon, Collect, Leave, Kept}
use Rattle.sd_rules.specs.declared.events.Row.{Row}
use Rattle.sd_rules.specs.declared.events.Row.TheVariants as rows
use Rattle.sd_rules.specs.declared.replies.By.TheVariants as by
use Rattle.sd_rules.specs.declared.replies.Entry.{Entry}
use Rattle.sd_rules.specs.declared.replies.Given.{Given}
use Rattle.sd_rules.specs.declared.replies.Refused.{Refused}
use Rattle.sd_rules.specs.declared.replies.Reply.{Reply}
use Rattle.sd_rules.specs.declared.replies.Reply.TheVariants as replies
use Rattle.sd_rules.specs.Steps.{Daemon, given, entry_made, is_full, gives_back, lacks_places, lacks_text, lacks_numbers, event_at, event_named, record_in, record_of, record_in_answer, record_named, answer_named, rule_named, rule_in, name_of_rule}
use Rattle.sd_rules.specs.TextBytes.{bytes_of_answered, bytes_of_event, bytes_of_row, bytes_of_key, bytes_of_record, bytes_of_rule, bytes_of_service, bytes_of_text, text_bytes}
use Rattle.sd_core.specs.Sound.{IsSound}
use Rattle.sd_desk.specs.Steps.{HasBoundedTexts, record_bytes, rule_bytes, most_text}

abbrev event_bytes : Option Event → ℕ
event_bytes None = 0
event_bytes (Some event) = bytes_of_event event

either_event : (b : Bool) (event : Event) (other : Option Event) (n : ℕ) → event_bytes other ≤ n → event_bytes (cond b (Some event) other) ≤ bytes_of_event event + n
either_event true event other n h = omega arith
either_event false event other n h = omega arith

at_within : (past : List Entry) (n : ℕ) → event_bytes (event_at past n) ≤ text_bytes past
at_within [] n = omega arith
at_within (e ∷ past) n = either_event (e.number == n) e.event (event_at past n) (text_bytes past) (at_within past n)

named_within : (past : List Entry) (o : Option ℕ) → event_bytes (event_named past o) ≤ text_bytes past
named_within past None = omega arith
named_within past (Some n) = at_within past n

answer_within : (answered : Answered) → record_bytes (record_in_answer answered) ≤ bytes_of_answered answered
answer_within (Found found) = omega arith
answer_within Absent = omega arith

row_within : (row : Row) → record_bytes (record_of (Kept row)) ≤ bytes_of_row row
row_within (rows.Answer n m key answered voided) = let w = answer_within answered in omega arith
row_within _ = omega arith

event_within : (event : Event) → record_bytes (record_of event) ≤ bytes_of_event event
event_within (Answer request answered) = answer_within answered
event_within (Kept row) = row_within row
event_within _ = omega arith

in_within : (o : Option Event) → record_bytes (record_in o) ≤ event_bytes o
in_within None = omega arith
in_within (Some event) = event_within event

found_within : (past : List Entry) (reply : Reply) → record_bytes (record_named past reply) ≤ text_bytes past
found_within past reply =
    let held = in_within (event_named past (answer_named reply)) in
    let whole = named_within past (answer_named reply) in
    omega arith

name_within : (rules : List Rule) (place : ℕ) → rule_bytes (name_of_rule (slice_get rules place)) ≤ sum_by bytes_of_rule rules
name_within [] place = grind (arith, common_steps)
name_within (rule ∷ rules) zero = grind (arith, common_steps)
name_within (rule ∷ rules) (suc place) = grind (arith, common_steps, name_within rules place)

rule_within : (o : Option Record) (place : ℕ) → rule_bytes (rule_in o place) ≤ record_bytes o
rule_within None place = omega arith
rule_within (Some (records.Rules book)) place = let w = name_within book.rules place in omega arith
rule_within (Some _) place = omega arith

rule_named_within : (past : List Entry) (reply : Reply) → rule_bytes (rule_named past reply) ≤ text_bytes past
rule_named_within past (replies.Granted (by.Rule n place)) =
    let held = rule_within (record_in (event_at past n)) place in
    let inside = in_within (event_at past n) in
    let whole = at_within past n in
    omega arith
rule_named_within past _ = omega arith

-- what gives a place back has no text
no_text : (past : List Entry) (event : Event) → gives_back past event ≡ true → bytes_of_event event ≡ 0
no_text past (Abandon n) h = refl
no_text past (Leave ticket) h = refl
no_text past (Collect ticket) h = refl
no_text past _ h = let clash : ⊥ = cc in absurd clash

fits_room : (back places texts numbers : Bool) (m n : ℕ) → not back && (places || (texts || numbers)) ≡ false → (back ≡ true → m ≤ n) → (texts ≡ false → m ≤ n) → m ≤ n
fits_room true places texts numbers m n h f g = f refl
fits_room false places texts false m n h f g = g (grind (arith, h))
fits_room false places texts true m n h f g = g (grind (arith, h))

pub bounded : (d : Daemon) (now : ℕ) (event : Event) (g : Given) → IsSound d → is_full d event ≡ false → g ≡ given d now event → HasBoundedTexts event g
bounded d now event g sound room is =
    let texts = sound.texts in
    let found = found_within d.past (entry_made d now event).reply in
    let rule = rule_named_within d.past (entry_made d now event).reply in
    let event_fits : bytes_of_event event ≤ most_text = fits_room (gives_back d.past event) (lacks_places d) (lacks_text d event) (lacks_numbers d) (bytes_of_event event) most_text room
    (λ back. let none = no_text d.past event back in omega arith)
    (λ fits. grind (arith, nat_tests, fits)) in
    subst (HasBoundedTexts event) (sym is) (record { event_bytes = event_fits; found_bytes = omega arith; rule_name_bytes = omega arith })

pub bounded_if_made : (d : Daemon) (now : ℕ) (event : Event) (r : Result Given Refused) → IsSound d → OnOk r (is_full d event ≡ false) → IfOk r (λ g. g ≡ given d now event) →
    IfOk r (HasBoundedTexts event)
bounded_if_made d now event (Ok g) sound room is = bounded d now event g sound room is
bounded_if_made d now event (Err refused) sound room is = tt
