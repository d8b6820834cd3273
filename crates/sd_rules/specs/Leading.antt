-- What who makes events leads, by the numbers of its requests and attempts.
use Rattle.std.specs.Prelude.{ℕ, ◌==◌, ◌+◌, ◌++◌, nat_lt, remove, length, List, [], ◌∷◌, Option, Some, None, if◌then◌else◌}
use Rattle.sd_rules.specs.declared.events.Event.{Event}
use Rattle.sd_rules.specs.declared.events.Event.TheVariants.{Pick, Fall, Answer, Refuse, Outage, Abandon, LoginOnline, LoginTry}
use Rattle.sd_rules.specs.declared.replies.Reply.{Reply}
use Rattle.sd_rules.specs.declared.replies.Reply.TheVariants.{Lead, Refresh, Join, Bind, Cached, Took, NoTicket}

-- the request or attempt that an event is about
abbrev pub about : Event → Option ℕ
about (Pick n) = Some n
about (Fall n server why) = Some n
about (Answer n answered) = Some n
about (Refuse n refusal) = Some n
about (Outage n) = Some n
about (Abandon n) = Some n
about (LoginOnline n result) = Some n
about (LoginTry n login right) = Some n
about _ = None

-- the request or attempt that a reply says is led
abbrev pub opened : Reply → Option ℕ
opened (Lead request) = Some request
opened (Refresh n request) = Some request
opened (Bind attempt) = Some attempt
opened (Cached attempt login) = Some attempt
opened _ = None

abbrev pub place_in : List ℕ → ℕ → ℕ
place_in [] n = 0
place_in (m ∷ ms) n = if m == n then 0 else place_in ms n + 1

abbrev pub without_place : List ℕ → ℕ → List ℕ
without_place ms place = if nat_lt place (length ms) then remove ms place else ms

abbrev pub without : List ℕ → Option ℕ → List ℕ
without ms None = ms
without ms (Some n) = without_place ms (place_in ms n)

abbrev pub with_one : List ℕ → Option ℕ → List ℕ
with_one ms None = ms
with_one ms (Some n) = ms ++ n ∷ []

-- the ticket that is waited with after a reply
abbrev pub ticket_after : Option ℕ → Reply → Option ℕ
ticket_after waiting (Join request ticket) = Some ticket
ticket_after waiting (Took outcome) = None
ticket_after waiting NoTicket = None
ticket_after waiting _ = waiting
