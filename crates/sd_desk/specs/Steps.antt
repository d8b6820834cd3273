-- What a call of the desk comes to, over the seat's front and its own entries.
use Rattle.std.specs.Prelude.{◌≡◌, ℕ, ◌≤◌, ◌*◌, ◌^◌, true, false, List, [], ◌∷◌, ◌++◌, reverse, Option, Some, None}
use Rattle.sd_rules.specs.declared.keys.Key.{Key}
use Rattle.sd_rules.specs.declared.records.Answered.{Answered}
use Rattle.sd_rules.specs.declared.records.Answered.TheVariants.{Found, Absent}
use Rattle.sd_rules.specs.declared.records.Record.{Record}
use Rattle.sd_rules.specs.declared.events.Event.{Event}
use Rattle.sd_rules.specs.declared.events.Event.TheVariants.{Answer, Collect, Kept}
use Rattle.sd_rules.specs.declared.replies.Entry.{Entry}
use Rattle.sd_rules.specs.declared.replies.Given.{Given}
use Rattle.sd_rules.specs.Keys.{is_answer_of_kind}
use Rattle.sd_rules.specs.Reaching.{Reaches, after_forget}
use Rattle.sd_rules.specs.Needed.{forgotten}
use Rattle.sd_rules.specs.Requests.{waits_for, is_open_request}
use Rattle.sd_rules.specs.Steps as steps
use Rattle.sd_rules.specs.Steps.{Daemon}
use Rattle.sd_rules.specs.TextBytes.{bytes_of_text, bytes_of_record, bytes_of_event}
use Rattle.sd_core.specs.Laws.{IsKept, FollowsLaws}
use Rattle.sd_desk.specs.Speaking.{Speaks}

-- The request of an answer is of a key of the answer's kind.
pub record AnswersKind (front : Daemon) (request : ℕ) (answered : Answered) : Type 0 where
  pub key : Key
  pub speaks : Speaks request key front
  pub of_kind : is_answer_of_kind answered key ≡ true

abbrev pub MayAnswer : Daemon → ℕ → Answered → Type 0
MayAnswer front request (Found found) = AnswersKind front request (Found found)
MayAnswer front request Absent = Unit {0}

-- what whoever hands an event to the desk knows of it: it is no kept row, and an answer that found its key is of the kind that was asked
abbrev pub MayStep : Daemon → Event → Type 0
MayStep front (Kept row) = ⊥
MayStep front (Answer request answered) = MayAnswer front request answered
MayStep front _ = Unit {0}

abbrev pub record_bytes : Option Record → ℕ
record_bytes None = 0
record_bytes (Some found) = bytes_of_record found

abbrev pub rule_bytes : Option (List ℕ) → ℕ
rule_bytes None = 0
rule_bytes (Some name) = bytes_of_text name

abbrev pub most_text : ℕ
most_text = 512 * 1024 * 1024

-- the texts of an event, and of what is given for it, are at most 512 MiB each
pub record HasBoundedTexts (event : Event) (given : Given) : Type 0 where
  pub event_bytes : bytes_of_event event ≤ most_text
  pub found_bytes : record_bytes given.found ≤ most_text
  pub rule_name_bytes : rule_bytes given.rule ≤ most_text

-- One entry was made over a journal, which is what the seat's front then is. The entry is the seat's own, and its only new one.
pub record MadeOver (before new : Daemon) (mine_before mine_after : List Entry) (now : ℕ) (event : Event) (given : Given) : Type 0 where
  pub kept : IsKept before
  pub room : steps.is_full before event ≡ false
  pub front : new ≡ steps.after before now event
  pub gives : given ≡ steps.given before now event
  pub mine : mine_after ≡ mine_before ++ steps.entry_made before now event ∷ []
  pub laws : FollowsLaws before now event given
  pub texts : HasBoundedTexts event given

-- One entry was made over a journal that the front before reaches.
pub record MadeEntry (old new : Daemon) (mine_before mine_after : List Entry) (now : ℕ) (event : Event) (given : Given) : Type 0 where
  pub before : Daemon
  pub reached : Reaches old before
  pub made : MadeOver before new mine_before mine_after now event given

-- The step of an event over a journal was refused as full, with this count.
pub record WasFull (before : Daemon) (event : Event) (count : ℕ) : Type 0 where
  pub full : steps.is_full before event ≡ true
  pub places : count ≡ steps.full_count before

-- A forget left what is needed of a journal that the front before reaches, and hands back the others, the oldest first.
pub record Forgot (old new : Daemon) (others : List Entry) : Type 0 where
  pub before : Daemon
  pub reached : Reaches old before
  pub front : new ≡ after_forget before
  pub others_are : reverse others ≡ forgotten before.past

-- A ticket waits for a request, which is open.
pub record IsPending (past : List Entry) (ticket request : ℕ) : Type 0 where
  pub waits : waits_for past ticket ≡ Some request
  pub open_yet : is_open_request past request ≡ true

-- An entry that collects a ticket was made over a journal that the front before reaches, in which the ticket's request is not open.
pub record Collected (old new : Daemon) (mine_before mine_after : List Entry) (now ticket : ℕ) (given : Given) : Type 0 where
  pub before : Daemon
  pub reached : Reaches old before
  pub made : MadeOver before new mine_before mine_after now (Collect ticket) given
  pub ready : (request : ℕ) → IsPending before.past ticket request → ⊥

-- A step was refused as full over a journal that was reached from what a forget left.
pub record FullAfterForget (old new : Daemon) (event : Event) (count : ℕ) : Type 0 where
  pub before : Daemon
  pub reached : Reaches old before
  pub forgot : Reaches (after_forget before) new
  pub full : WasFull new event count
