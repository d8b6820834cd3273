-- What is kept beside the open requests and the tickets, so that no call walks over all of them.
use Rattle.std.specs.Prelude.{◌≡◌, ℕ, ◌+◌, ◌-◌, ◌<◌, ◌==◌, Bool, nat_lt, List, [], ◌∷◌, map, Option, Some, None, true, is_some, if◌then◌else◌}
use Rattle.sd_rules.specs.declared.keys.Key.{Key}
use Rattle.sd_rules.specs.declared.replies.Outcome.{Outcome}
use Rattle.sd_rules.specs.contracts.keys.KeyPartialEq.TheImpl as key_equality
use Rattle.sd_table.specs.declared.waited.Waited.{Waited}
use Rattle.sd_table.specs.Table.{Ticket, at_number, open_for}

-- what `==` says of two keys, by which they are found
abbrev pub keys_equal : Key → Key → Bool
keys_equal = (key_equality.ghosts).eq

-- how many tickets wait for a request
abbrev pub waiting_count : List (ℕ × ℕ) → ℕ → ℕ
waiting_count [] number = 0
waiting_count (t ∷ tickets) number = (if t.1 == number then 1 else 0) + waiting_count tickets number

abbrev pub ticket_count : Option Waited → ℕ
ticket_count None = 0
ticket_count (Some w) = w.tickets

abbrev pub outcome_in : Option Waited → Option Outcome
outcome_in None = None
outcome_in (Some w) = w.outcome

abbrev pub one_more : Option Waited → Waited
one_more None = record { tickets = 1; outcome = None }
one_more (Some w) = record w { tickets = w.tickets + 1 }

-- nothing is kept of a request once its last ticket waits no more
abbrev pub one_less : Option Waited → Option Waited
one_less None = None
one_less (Some w) = if nat_lt 1 w.tickets then Some (record w { tickets = w.tickets - 1 }) else None

-- what is kept of a request once a ticket waits no more; the first argument is that ticket's request, if it waited
abbrev pub after_leave : Option ℕ → ℕ → Option Waited → Option Waited
after_leave None number w = w
after_leave (Some request) number w = if number == request then one_less w else w

abbrev pub with_given : Outcome → Option Waited → Option Waited
with_given outcome None = None
with_given outcome (Some w) = Some (record w { outcome = Some outcome })

-- the tickets as they are seen: each with its request and the outcome that is kept of that
abbrev pub ticket_of : (ℕ → Option Waited) → ℕ → Ticket
ticket_of waited request = record { request = request; outcome = outcome_in (waited request) }

abbrev pub seen_ticket : (ℕ → Option Waited) → ℕ × ℕ → ℕ × Ticket
seen_ticket waited t = (t.0, ticket_of waited t.1)

abbrev pub seen_tickets : List (ℕ × ℕ) → (ℕ → Option Waited) → List (ℕ × Ticket)
seen_tickets tickets waited = map (seen_ticket waited) tickets

-- what is kept of a request is the number of its tickets, and nothing where it has none
abbrev pub IsCount : ℕ → Option Waited → Type 0
IsCount n None = n ≡ 0
IsCount n (Some w) = (w.tickets ≡ n) × (0 < n)

-- no two open requests have the same key
abbrev pub OneForKey : List (ℕ × Key) → Type 0
OneForKey [] = Unit {0}
OneForKey (request ∷ requests) = (open_for requests request.1 ≡ None) × OneForKey requests

-- the index by keys, the counts and the outcomes fit the open requests and the tickets
pub record IsKept (keys : List (ℕ × Key)) (numbers : Key → Option ℕ) (tickets : List (ℕ × ℕ)) (waited : ℕ → Option Waited) : Type 0 where
  pub index : (key : Key) → numbers key ≡ open_for keys key
  pub one : OneForKey keys
  pub counted : (number : ℕ) → IsCount (waiting_count tickets number) (waited number)
  -- no open request has an outcome, and each other one for which a ticket waits has
  pub unanswered : (number : ℕ) (key : Key) → at_number keys number ≡ Some key → outcome_in (waited number) ≡ None
  pub answered : (number : ℕ) → is_some (waited number) ≡ true → outcome_in (waited number) ≡ None → is_some (at_number keys number) ≡ true
