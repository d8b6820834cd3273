-- The open requests with their keys, and the tickets that wait with their requests and outcomes.
use Rattle.std.specs.Prelude.{ℕ, Bool, true, ◌||◌, ◌==◌, List, [], ◌∷◌, map, Option, Some, None, is_some, if◌then◌else◌}
use Rattle.std.specs.Option.{option_map, option_and_then, option_map_or}
use Rattle.std.specs.List.{list_any}
use Rattle.std.specs.Map.{lookup, remove_entry}
use Rattle.std.specs.BTreeMap.{insert_entry}
use Rattle.std.specs.Ordering.{nat_cmp}
use Rattle.sd_rules.specs.declared.keys.Key.{Key}
use Rattle.sd_rules.specs.declared.replies.Outcome.{Outcome}
use Rattle.sd_rules.specs.Keys.{same_key}

-- the request that a ticket waits for, and its outcome once it is closed
pub record Ticket : Type 0 where
  pub request : ℕ
  pub outcome : Option Outcome

-- the keys of the open requests by their numbers, and the tickets that wait by theirs, both in rising order
pub record Table : Type 0 where
  pub requests : List (ℕ × Key)
  pub tickets : List (ℕ × Ticket)

-- what stands at a number
abbrev pub at_number : {X : Type 0} → List (ℕ × X) → ℕ → Option X
at_number entries number = lookup (λ n. n == number) entries

-- the request that is open for a key
abbrev pub open_for : List (ℕ × Key) → Key → Option ℕ
open_for [] key = None
open_for (request ∷ requests) key = if same_key request.1 key then Some request.0 else open_for requests key

-- a request of this number is open
abbrev pub is_open_request : Table → ℕ → Bool
is_open_request table number = is_some (at_number table.requests number)

-- the request that a ticket waits for
abbrev pub waits_for : Table → ℕ → Option ℕ
waits_for table ticket = option_map (λ t. t.request) (at_number table.tickets ticket)

-- the outcome of the request that a ticket waits for, once that is closed
abbrev pub outcome_for : Table → ℕ → Option Outcome
outcome_for table ticket = option_and_then (λ t. t.outcome) (at_number table.tickets ticket)

-- there is no outcome to take: the ticket does not wait, or its request is open
abbrev pub has_none_to_take : Table → ℕ → Bool
has_none_to_take table ticket = option_map_or (λ request. is_open_request table request) (waits_for table ticket) true

-- a number is that of an open request, of a waiting ticket, or of the request that one waits for
abbrev pub is_named : Table → ℕ → Bool
is_named table number =
    is_open_request table number || (is_some (at_number table.tickets number) || list_any (λ t. t.1.request == number) table.tickets)

-- a request is opened for a key
abbrev pub with_request : ℕ → Key → Table → Table
with_request number key table = record table { requests = insert_entry nat_cmp table.requests number key }

-- a ticket begins to wait for a request
abbrev pub with_ticket : ℕ → ℕ → Table → Table
with_ticket number ticket table = record table { tickets = insert_entry nat_cmp table.tickets ticket (record { request = number; outcome = None }) }

-- each ticket of a request is given its outcome
abbrev pub with_outcome : ℕ → Outcome → Ticket → Ticket
with_outcome number outcome t = if t.request == number then record t { outcome = Some outcome } else t

-- a request is closed
abbrev pub after_close : ℕ → Outcome → Table → Table
after_close number outcome table =
    record { requests = remove_entry (λ n. n == number) table.requests; tickets = map (λ t. (t.0, with_outcome number outcome t.1)) table.tickets }

-- a ticket waits no more
abbrev pub without_ticket : ℕ → Table → Table
without_ticket ticket table = record table { tickets = remove_entry (λ n. n == ticket) table.tickets }

-- a ticket takes an outcome, where there is one for it
abbrev pub after_take : ℕ → Table → Table
after_take ticket table = if is_some (outcome_for table ticket) then without_ticket ticket table else table
