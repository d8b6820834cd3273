-- What is asked of an entry once its journal was gone over: so most entries need not be read again.
use Rattle.std.specs.Prelude.{◌≡◌, ℕ, Bool, true, false, ◌||◌, ◌-◌, ◌^◌, nat_lt, List, reverse, Option, Some, None, is_some, if◌then◌else◌}
use Rattle.sd_rules.specs.declared.events.Event.{Event}
use Rattle.sd_rules.specs.declared.events.Event.TheVariants.{Ask, Answer, Refuse, Outage, Abandon, Collect, Leave, Offline, LoginOpen, LoginLook, Access}
use Rattle.sd_rules.specs.declared.replies.Entry.{Entry}
use Rattle.sd_rules.specs.declared.replies.Reply.{Reply}
use Rattle.sd_rules.specs.Needed.{is_number, last_where, last_outage, serves_waiting}
use Rattle.sd_rules.specs.Requests.{is_open, waits_for}
use Rattle.sd_rules.specs.Steps.{is_again}
use Rattle.sd_findings.specs.Marks.{marks}
use Rattle.sd_findings.specs.declared.briefs.Brief.{Brief}
use Rattle.sd_findings.specs.declared.briefs.Briefs.{Briefs}
use Rattle.sd_findings.specs.declared.briefs.Traits.{Traits}

-- an entry of such an event is looked at for its number alone, and read with no other
abbrev pub is_plain : Event → Bool
is_plain (Ask key) = true
is_plain (Refuse request why) = true
is_plain (Outage request) = true
is_plain (Abandon request) = true
is_plain (Collect ticket) = true
is_plain (Leave ticket) = true
is_plain Offline = true
is_plain (LoginOpen user) = true
is_plain (LoginLook user) = true
is_plain (Access user service) = true
is_plain _ = false

-- the request of an answer that was replied Again
abbrev pub request_again : Event → Reply → Option ℕ
request_again (Answer request answered) reply = if is_again reply then Some request else None
request_again _ reply = None

-- what is asked of an entry beside its number
abbrev pub traits_of : Entry → Traits
traits_of e = record { is_plain = is_plain e.event; is_again = is_some (request_again e.event e.reply) }

abbrev pub brief_of : Entry → Brief
brief_of e = record { number = e.number; traits = traits_of e }

-- how far a number is above the first, in 32 bits: the greatest where it is as far, farther, or below
abbrev pub far : ℕ
far = 2 ^ 32 - 1

abbrev pub offset_of : ℕ → ℕ → ℕ
offset_of first n = if nat_lt n first then far else (if nat_lt (n - first) far then n - first else far)

-- they are those of a part of the entries, the newest first
pub record AreBriefsOf (part : List Entry) (b : Briefs) : Type 0 where
  pub offsets : reverse b.offsets.items ≡ marks (λ past e. offset_of b.first e.number) part
  pub traits : reverse b.traits.items ≡ marks (λ past e. traits_of e) part

-- they are those of a journal's entries, both the oldest first
abbrev pub AreBriefs : List Entry → Briefs → Type 0
AreBriefs all b = AreBriefsOf (reverse all) b

-- the entry of a number is looked at for that: it is open, or the last outage, it waits or serves a ticket that does, or it is the
-- last of all
abbrev pub is_number_looked_at : List Entry → ℕ → Bool
is_number_looked_at all n =
    is_open all n
    || (is_number n (last_outage all)
    || (is_some (waits_for all n)
    || (serves_waiting all n all
    || is_number n (last_where (λ (x : Entry). true) all))))
