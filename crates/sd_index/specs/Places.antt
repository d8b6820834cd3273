-- The places that are reserved.
use Rattle.std.specs.Prelude.{ℕ, Bool, false, ◌==◌, List, [], ◌∷◌, ◌++◌, filter, Option, Some, None, is_some, if◌then◌else◌}
use Rattle.sd_rules.specs.declared.keys.Key.{Key}
use Rattle.sd_rules.specs.declared.events.Event.{Event}
use Rattle.sd_rules.specs.declared.events.Event.TheVariants.{Ask, LoginOpen}
use Rattle.sd_rules.specs.declared.replies.Entry.{Entry}
use Rattle.sd_rules.specs.declared.replies.Reply.{Reply}
use Rattle.sd_rules.specs.declared.replies.Reply.TheVariants.{Join}
use Rattle.sd_rules.specs.Keys.{same_key}
use Rattle.sd_rules.specs.Past.{or_else}
use Rattle.sd_rules.specs.Requests.{is_lead, is_bind, closes, ends_waiting, is_open_request, is_open_attempt, waits_for}
use Rattle.sd_index.specs.declared.places.Place.{Place}
use Rattle.sd_index.specs.declared.places.Place.TheVariants as places

abbrev pub ticket_of : ℕ → Reply → Option Place
ticket_of number (Join request ticket) = Some (places.Ticket number request)
ticket_of number _ = None

abbrev pub place_by : ℕ → Event → Reply → Option Place
place_by number (Ask key) reply = if is_lead reply then Some (places.Request number key) else ticket_of number reply
place_by number (LoginOpen user) reply = if is_bind reply then Some (places.Attempt number) else ticket_of number reply
place_by number _ reply = ticket_of number reply

-- the place that an entry takes
abbrev pub place_of : Entry → Option Place
place_of e = place_by e.number e.event e.reply

abbrev pub listed : Option Place → List Place
listed None = []
listed (Some place) = place ∷ []

-- the places that the entries of a past have taken, in the order of the entries
abbrev pub taken : List Entry → List Place
taken [] = []
taken (e ∷ past) = taken past ++ listed (place_of e)

-- what a place is reserved for is open, or waits
abbrev pub stands : List Entry → Place → Bool
stands past (places.Request number key) = is_open_request past number
stands past (places.Attempt number) = is_open_attempt past number
stands past (places.Ticket ticket request) = is_some (waits_for past ticket)

-- the places that are reserved: of those taken, the ones that stand
abbrev pub reserved : List Entry → List Place
reserved past = filter (stands past) (taken past)

-- an entry gives a place back
abbrev pub gives_back : Event → Reply → Place → Bool
gives_back event reply (places.Request number key) = closes event reply number
gives_back event reply (places.Attempt number) = closes event reply number
gives_back event reply (places.Ticket ticket request) = ends_waiting event reply ticket

abbrev pub running_at : Key → Place → Option ℕ
running_at k (places.Request number own) = if same_key own k then Some number else None
running_at k _ = None

-- the first request for a key
abbrev pub running_in : List Place → Key → Option ℕ
running_in [] k = None
running_in (place ∷ ps) k = or_else (running_at k place) (running_in ps k)

-- the places of one request, of one attempt, of one ticket
abbrev pub is_request_of : ℕ → Place → Bool
is_request_of n (places.Request number key) = number == n
is_request_of n _ = false

abbrev pub is_attempt_of : ℕ → Place → Bool
is_attempt_of n (places.Attempt number) = number == n
is_attempt_of n _ = false

abbrev pub ticket_at : ℕ → Place → Option ℕ
ticket_at t (places.Ticket ticket request) = if ticket == t then Some request else None
ticket_at t _ = None

-- the request that a ticket waits for
abbrev pub waits_in : List Place → ℕ → Option ℕ
waits_in [] t = None
waits_in (place ∷ ps) t = or_else (ticket_at t place) (waits_in ps t)
