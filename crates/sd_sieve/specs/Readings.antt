-- What the entries that are looked at are read with. All are the entries of a journal, the newest first.
use Rattle.std.specs.Prelude.{◌≡◌, ℕ, Bool, false, ◌&&◌, ◌||◌, List, [], ◌∷◌, reverse, Option, Some, None, if◌then◌else◌}
use Rattle.sd_rules.specs.declared.events.Event.{Event}
use Rattle.sd_rules.specs.declared.events.Event.TheVariants.{Answer, Pick, Fall}
use Rattle.sd_rules.specs.declared.replies.Entry.{Entry}
use Rattle.sd_rules.specs.declared.replies.Reply.{Reply}
use Rattle.sd_rules.specs.Needed.{is_number, is_looked_at, is_last_again, read_with}
use Rattle.sd_rules.specs.Past.{is_closed}
use Rattle.sd_rules.specs.Steps.{is_again}
use Rattle.sd_findings.specs.Findings.{is_among}
use Rattle.sd_findings.specs.Marks.{marks}
use Rattle.sd_sieve.specs.declared.reads.Looked.{Looked}

-- the request or attempt that an entry may serve while it is open
abbrev pub served : Event → Option ℕ
served (Answer request answered) = Some request
served (Pick request) = Some request
served (Fall request server why) = Some request
served _ = None

abbrev pub only_if : Bool → Option ℕ → Option ℕ
only_if b o = if b then o else None

-- an entry that is looked at, sought in a part of the journal, is read with the request or attempt n
abbrev pub reads_lead : List Entry → ℕ → List Entry → Bool
reads_lead all n [] = false
reads_lead all n (e ∷ past) =
    is_number n (only_if (is_looked_at all past e) (read_with e.event e.reply)) || reads_lead all n past

-- the request of an answer that is read with it
abbrev pub answer_read : Event → Reply → Option ℕ
answer_read (Answer request answered) reply = if is_closed reply || is_again reply then Some request else None
answer_read _ reply = None

-- an answer to the request n that is looked at, sought in a part of the journal, is read with it
abbrev pub reads_answer : List Entry → ℕ → List Entry → Bool
reads_answer all n [] = false
reads_answer all n (e ∷ past) =
    is_number n (only_if (is_looked_at all past e) (answer_read e.event e.reply)) || reads_answer all n past

-- an entry is the last answer to a request, where one is named, that was replied Again, and an answer to the request that is
-- looked at is read with it
abbrev pub is_again_read : List Entry → Entry → List Entry → Option ℕ → Bool
is_again_read all e past None = false
is_again_read all e past (Some request) = is_last_again all request e && reads_answer all request past

-- they are those of a part of the entries that are looked at by all, and what is read with them
pub record AreLooked (all part : List Entry) (l : Looked) : Type 0 where
  pub marks : reverse l.marks.items ≡ marks (is_looked_at all) part
  pub leads : (n : ℕ) → is_among n l.leads.keys ≡ reads_lead all n part
  pub answers : (n : ℕ) → is_among n l.answers.keys ≡ reads_answer all n part
