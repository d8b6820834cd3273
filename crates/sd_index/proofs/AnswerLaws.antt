-- Which entries hold an answer, and that the cache stays the journal's.
use Rattle.std.proofs.Common.{◌≡◌, ℕ, Bool, false, cond, List, Option, None, refl, sym, ◌∙◌, ap}
use Rattle.sd_rules.specs.declared.keys.Key.{Key}
use Rattle.sd_rules.specs.declared.keys.What.{What}
use Rattle.sd_rules.specs.declared.records.Answered.{Answered}
use Rattle.sd_rules.specs.declared.events.Event.{Event}
use Rattle.sd_rules.specs.declared.events.Event.TheVariants.{Answer, Void, Kept}
use Rattle.sd_rules.specs.declared.events.Row.{Row}
use Rattle.sd_rules.specs.declared.events.Row.TheVariants as rows
use Rattle.sd_rules.specs.declared.replies.Entry.{Entry}
use Rattle.sd_rules.specs.Past.{is_closed, key_of, answer_under, answer_by, answer_in, voids}

-- an answer of the directory
pub answer_closed : (past : List Entry) (e : Entry) (request : ℕ) (answered : Answered) (b : Bool) → e.event ≡ Answer request answered → is_closed e.reply ≡ b
    → answer_in past e ≡ cond b (answer_under e answered (key_of past request)) None
answer_closed past e request answered b is closed =
    ap (λ (v : Event). answer_by past e v) is ∙ ap (λ (c : Bool). cond c (answer_under e answered (key_of past request)) None) closed

pub answer_keyed : (past : List Entry) (e : Entry) (request : ℕ) (answered : Answered) (own : Option Key)
    → answer_in past e ≡ answer_under e answered (key_of past request) → own ≡ key_of past request → answer_in past e ≡ answer_under e answered own
answer_keyed past e request answered own is keyed = is ∙ ap (λ (o : Option Key). answer_under e answered o) (sym keyed)

-- a kept row
pub answer_of_row : (past : List Entry) (e : Entry) (row : Row) → e.event ≡ Kept row → answer_in past e ≡ answer_by past e (Kept row)
answer_of_row past e row is = ap (λ (v : Event). answer_by past e v) is

pub other_row : (past : List Entry) (e : Entry) (row : Row)
    → ((n m : ℕ) (own : Key) (answered : Answered) (marked : Bool) → row ≡ rows.Answer n m own answered marked → ⊥) → answer_by past e (Kept row) ≡ None
other_row past e (rows.Answer n m own answered marked) f = absurd (f n m own answered marked refl)
other_row past e _ f = refl

-- any other event
pub other_event : (past : List Entry) (e : Entry) (event : Event) → ((request : ℕ) (answered : Answered) → event ≡ Answer request answered → ⊥)
    → ((row : Row) → event ≡ Kept row → ⊥) → answer_by past e event ≡ None
other_event past e (Answer request answered) f g = absurd (f request answered refl)
other_event past e (Kept row) f g = absurd (g row refl)
other_event past e _ f g = refl

-- an invalidation holds no answer, and nothing else voids
pub void_answers_none : (past : List Entry) (e : Entry) (what : What) → e.event ≡ Void what → answer_in past e ≡ None
void_answers_none past e what is = ap (λ (v : Event). answer_by past e v) is

pub others_void_none : (event : Event) (own : Key) (answered : Answered) → ((what : What) → event ≡ Void what → ⊥) → voids event own answered ≡ false
others_void_none (Void what) own answered f = absurd (f what refl)
others_void_none _ own answered f = refl
