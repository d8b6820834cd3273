-- What can be seen of a ticket, and whether the daemon is to end.
use Rattle.std.specs.Prelude.{ℕ, Bool, true, false, ◌||◌, List, [], ◌∷◌, Option, Some, None, if◌then◌else◌}
use Rattle.sd_rules.specs.declared.events.Event.{Event}
use Rattle.sd_rules.specs.declared.events.Event.TheVariants.{Stop}
use Rattle.sd_rules.specs.declared.replies.Entry.{Entry}
use Rattle.sd_rules.specs.Requests.{is_open_request, waits_for}
use Rattle.sd_core.specs.declared.cores.Look.{Look}
use Rattle.sd_core.specs.declared.cores.Look.TheVariants.{Running, Closed, NoTicket}

abbrev pub look_by : List Entry → Option ℕ → Look
look_by past None = NoTicket
look_by past (Some request) = if is_open_request past request then Running request else Closed

-- what a ticket waits for, without an entry
abbrev pub look_of : List Entry → ℕ → Look
look_of past ticket = look_by past (waits_for past ticket)

abbrev pub is_stop : Event → Bool
is_stop Stop = true
is_stop _ = false

-- the operator's word to end the daemon stands among the entries
abbrev pub has_stopped : List Entry → Bool
has_stopped [] = false
has_stopped (e ∷ past) = is_stop e.event || has_stopped past
