-- What the entries made so far say of keys: their answers, invalidations and outages.
-- A past is the list of the entries made so far, the newest first.
use Rattle.std.specs.Prelude.{ℕ, Bool, true, false, ◌||◌, ◌==◌, ◌+◌, nat_lt, List, [], ◌∷◌, Option, Some, None, if◌then◌else◌}
use Rattle.sd_rules.specs.declared.keys.Key.{Key}
use Rattle.sd_rules.specs.declared.records.Answered.{Answered}
use Rattle.sd_rules.specs.declared.events.Event.{Event}
use Rattle.sd_rules.specs.declared.events.Event.TheVariants.{Ask, Answer, Outage, Void, Offline, Online, Kept}
use Rattle.sd_rules.specs.declared.events.Row.TheVariants as rows
use Rattle.sd_rules.specs.declared.replies.Entry.{Entry}
use Rattle.sd_rules.specs.declared.replies.Reply.{Reply}
use Rattle.sd_rules.specs.declared.replies.Reply.TheVariants as replies
use Rattle.sd_rules.specs.Keys.{speaks_of, covers}

abbrev pub is_closed : Reply → Bool
is_closed replies.Closed = true
is_closed _ = false

abbrev pub is_shut : Reply → Bool
is_shut (replies.Shut outcome) = true
is_shut _ = false

-- the key that an event asks for
abbrev pub key_asked : Event → Option Key
key_asked (Ask key) = Some key
key_asked _ = None

-- the key of a request, asked by the entry of its number
abbrev pub key_of : List Entry → ℕ → Option Key
key_of [] request = None
key_of (e ∷ past) request = if e.number == request then key_asked e.event else key_of past request

-- an answer as it stands in the past, with its own key, and whether a kept row marks it as invalidated
pub record Standing : Type 0 where
  pub number : ℕ
  pub moment : ℕ
  pub own : Key
  pub answered : Answered
  pub marked : Bool

abbrev pub answer_under : Entry → Answered → Option Key → Option Standing
answer_under e answered None = None
answer_under e answered (Some own) =
    Some (record { number = e.number; moment = e.moment; own = own; answered = answered; marked = false })

-- the answer that an entry holds: an Answer that was replied Closed, which answers the key of its request, or a kept answer
abbrev pub answer_by : List Entry → Entry → Event → Option Standing
answer_by past e (Answer request answered) =
    if is_closed e.reply then answer_under e answered (key_of past request) else None
answer_by past e (Kept (rows.Answer n m own answered marked)) =
    Some (record { number = e.number; moment = e.moment; own = own; answered = answered; marked = marked })
answer_by past e _ = None

abbrev pub answer_in : List Entry → Entry → Option Standing
answer_in past e = answer_by past e e.event

-- an answer, where it speaks of k
abbrev pub spoken : Key → Option Standing → Option Standing
spoken k None = None
spoken k (Some a) = if speaks_of a.own a.answered k then Some a else None

abbrev pub or_else : {X : Type 0} → Option X → Option X → Option X
or_else (Some x) other = Some x
or_else None other = other

-- the newest answer of a key: the last that speaks of it
abbrev pub newest : List Entry → Key → Option Standing
newest [] k = None
newest (e ∷ past) k = or_else (spoken k (answer_in past e)) (newest past k)

-- an event is an invalidation that covers what was answered to a key
abbrev pub voids : Event → Key → Answered → Bool
voids (Void what) own answered = covers what own answered
voids _ own answered = false

-- an invalidation that covers an answer stands after it
abbrev pub is_void_after : List Entry → Standing → Bool
is_void_after [] a = false
is_void_after (e ∷ past) a = if e.number == a.number then false else voids e.event a.own a.answered || is_void_after past a

-- an answer is voided where an invalidation that covers it stands after it, or its kept row says so
abbrev pub is_voided : List Entry → Standing → Bool
is_voided past a = a.marked || is_void_after past a

-- an entry records an outage: a request or an attempt that found no server, or the operator's word
abbrev pub records_outage : Event → Reply → Bool
records_outage (Outage request) reply = is_closed reply || is_shut reply
records_outage Offline reply = true
records_outage _ reply = false

-- an entry ends an outage: an answer of the directory, or the operator's word
abbrev pub ends_outage : Event → Reply → Bool
ends_outage (Answer request answered) reply = is_closed reply
ends_outage Online reply = true
ends_outage _ reply = false

-- the outage that stands at t, by its number: the last recorded, where nothing has ended it and its time is not over
abbrev pub outage_at : ℕ → List Entry → ℕ → Option ℕ
outage_at timeout [] t = None
outage_at timeout (e ∷ past) t =
    if records_outage e.event e.reply then (if nat_lt t (e.moment + timeout) then Some e.number else None)
    else if ends_outage e.event e.reply then None
    else outage_at timeout past t
