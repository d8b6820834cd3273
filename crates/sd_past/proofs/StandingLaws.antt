-- What is kept of an answer tells the answer, and the newest answer of a key stands in the entry of its number.
use Rattle.std.proofs.Common.{◌≡◌, ℕ, ◌<◌, Bool, true, false, cond, ◌==◌, List, [], ◌∷◌, Option, None, Some, refl, sym, ◌∙◌, ap, arith}
use Rattle.std.specs.Option.{option_map}
use Rattle.sd_rules.specs.declared.keys.Key.{Key}
use Rattle.sd_rules.specs.declared.events.Event.{Event}
use Rattle.sd_rules.specs.declared.events.Event.TheVariants.{Answer, Kept}
use Rattle.sd_rules.specs.declared.events.Row.TheVariants as rows
use Rattle.sd_rules.specs.declared.records.Answered.{Answered}
use Rattle.sd_rules.specs.declared.records.Record.{Record}
use Rattle.sd_rules.specs.declared.replies.Entry.{Entry}
use Rattle.sd_rules.specs.Keys.{speaks_of}
use Rattle.sd_rules.specs.Past.{Standing, is_closed, key_of, answer_under, answer_by, answer_in, spoken, or_else, newest}
use Rattle.sd_rules.specs.Steps.{event_at, record_of, record_in, record_in_answer}
use Rattle.sd_cache.specs.declared.kept.Newest.{Newest}
use Rattle.sd_cache.specs.Kept.{kept_of}
use Rattle.sd_voids.specs.Entries.{numbers_fall, falls}
use Rattle.sd_voids.proofs.FallLaws.{head_below, tail_falls, falls_from_some, not_same_above, same_self}
use Rattle.sd_past.specs.Standings.{standing_of}

pub standing_kept : (o : Option Standing) → option_map standing_of (option_map kept_of o) ≡ o
standing_kept None = refl
standing_kept (Some a) = refl

-- an event holds what an answer of an entry found
abbrev Holds : Entry → Event → Standing → Type 0
Holds e event a = (a.number ≡ e.number) × (record_of event ≡ record_in_answer a.answered)

abbrev number_or : ℕ → Option Standing → ℕ
number_or n None = n
number_or n (Some s) = s.number

abbrev record_or : Answered → Option Standing → Option Record
record_or answered None = record_in_answer answered
record_or answered (Some s) = record_in_answer s.answered

holds_under : (e : Entry) (request : ℕ) (answered : Answered) (own : Option Key) (a : Standing) → answer_under e answered own ≡ Some a → Holds e (Answer request answered) a
holds_under e request answered None a is = cc
holds_under e request answered (Some own) a is =
    (ap (λ (o : Option Standing). number_or e.number o) (sym is), ap (λ (o : Option Standing). record_or answered o) is)

holds_closed : (e : Entry) (request : ℕ) (answered : Answered) (closed : Bool) (own : Option Key) (a : Standing) → cond closed (answer_under e answered own) None ≡ Some a
    → Holds e (Answer request answered) a
holds_closed e request answered true own a is = holds_under e request answered own a is
holds_closed e request answered false own a is = cc

holds_answer : (past : List Entry) (e : Entry) (event : Event) (a : Standing) → answer_by past e event ≡ Some a → Holds e event a
holds_answer past e (Answer request answered) a is = holds_closed e request answered (is_closed e.reply) (key_of past request) a is
holds_answer past e (Kept (rows.Answer n m own answered marked)) a is =
    (ap (λ (o : Option Standing). number_or e.number o) (sym is), ap (λ (o : Option Standing). record_or answered o) is)
holds_answer past e _ a is = cc

spoken_or : (b : Bool) (s a : Standing) → cond b (Some s) None ≡ Some a → Some s ≡ Some a
spoken_or true s a is = is
spoken_or false s a is = cc

spoken_is : (k : Key) (o : Option Standing) (a : Standing) → spoken k o ≡ Some a → o ≡ Some a
spoken_is k None a is = is
spoken_is k (Some s) a is = spoken_or (speaks_of s.own s.answered k) s a is

-- the entry of its number holds what an answer found
abbrev At : List Entry → Standing → Type 0
At past a = record_in (event_at past a.number) ≡ record_in_answer a.answered

here : (e : Entry) (past : List Entry) (a : Standing) → Holds e e.event a → At (e ∷ past) a
here e past a holds =
    ap (λ (n : ℕ). record_in (cond (e.number == n) (Some e.event) (event_at past n))) holds.0
    ∙ ap (λ (b : Bool). record_in (cond b (Some e.event) (event_at past e.number))) (same_self e.number)
    ∙ holds.1

there : (e : Entry) (past : List Entry) (a : Standing) → a.number < e.number → At past a → At (e ∷ past) a
there e past a lt at =
    ap (λ (b : Bool). record_in (cond b (Some e.event) (event_at past a.number))) (not_same_above e.number a.number lt) ∙ at

-- and its number is below
abbrev Stands : ℕ → List Entry → Standing → Type 0
Stands n past a = (a.number < n) × At past a

step : (n : ℕ) (e : Entry) (past : List Entry) (a : Standing) (o rest : Option Standing) → e.number < n → or_else o rest ≡ Some a → (o ≡ Some a → Holds e e.event a)
    → (rest ≡ Some a → Stands e.number past a) → Stands n (e ∷ past) a
step n e past a (Some s) rest lt is own older =
    let holds = own is in
    let same : a.number ≡ e.number = holds.0 in
    (omega arith, here e past a holds)
step n e past a None rest lt is own older =
    let stands = older is in
    let below : a.number < e.number = stands.0 in
    (omega arith, there e past a below stands.1)

newest_at : (n : ℕ) (past : List Entry) (k : Key) (a : Standing) → numbers_fall n past ≡ true → newest past k ≡ Some a → Stands n past a
newest_at n [] k a falling is = cc
newest_at n (e ∷ past) k a falling is =
    step n e past a (spoken k (answer_in past e)) (newest past k) (head_below n e past falling) is
    (λ own. holds_answer past e e.event a (spoken_is k (answer_in past e) a own))
    (λ older. newest_at e.number past k a (tail_falls n e past falling) older)

record_by : (past : List Entry) (k : Key) (o : Option Standing) (kept : Newest) → newest past k ≡ o → option_map kept_of o ≡ Some kept → falls past ≡ true
    → record_in (event_at past kept.number) ≡ record_in_answer kept.answered
record_by past k None kept is by falling = cc
record_by past k (Some a) kept is by falling =
    let some : (n : ℕ) × (numbers_fall n past ≡ true) = falls_from_some past falling in
    let stands = newest_at some.0 past k a some.1 is in
    ap (λ (o : Option Newest). at o) (sym by) ∙ stands.1 ∙ ap (λ (o : Option Newest). found o) by
  where
    at : Option Newest → Option Record
    at None = None
    at (Some kept) = record_in (event_at past kept.number)

    found : Option Newest → Option Record
    found None = None
    found (Some kept) = record_in_answer kept.answered

-- what is kept of the newest answer of a key holds the record of the entry of its number
pub record_kept : (past : List Entry) (k : Key) (kept : Newest) → falls past ≡ true → option_map kept_of (newest past k) ≡ Some kept
    → record_in (event_at past kept.number) ≡ record_in_answer kept.answered
record_kept past k kept falling by = record_by past k (newest past k) kept refl by falling
