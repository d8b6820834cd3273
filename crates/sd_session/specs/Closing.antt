-- What of a session's own is open in a journal: the requests and attempts that its entries opened, the tickets that they gave.
use Rattle.std.specs.Prelude.{◌≡◌, ℕ, ◌<◌, ◌⊎◌, ◌||◌, ◌==◌, Bool, true, false, List, [], ◌∷◌, Option, Some, None}
use Rattle.sd_rules.specs.declared.events.Event.{Event}
use Rattle.sd_rules.specs.declared.events.Event.TheVariants.{Abandon, Leave}
use Rattle.sd_rules.specs.declared.replies.Entry.{Entry}
use Rattle.sd_rules.specs.Reaching.{Reaches}
use Rattle.sd_rules.specs.Requests.{is_open, is_open_request, is_open_attempt, waits_for, reserves}
use Rattle.sd_rules.specs.Steps.{Daemon}
use Rattle.sd_forgetting.specs.Orderly.{IsOrderly}
use Rattle.sd_engine.specs.Courses.{Client}
use Rattle.sd_session.specs.Holding.{lists, leads_of, attempt_of, waits_of, client_renews}

-- no number of these entries is that of an open request or attempt, or of a ticket that waits
abbrev pub NoneReserved : Daemon → List Entry → Type 0
NoneReserved d [] = Unit {0}
NoneReserved d (e ∷ entries) = (reserves d.past e.number ≡ false) × NoneReserved d entries

-- ---- what is known of the number of an own entry

-- the number was given before
pub record WasGiven (n : ℕ) (d : Daemon) : Type 0 where
  pub orderly : IsOrderly d.next d.past
  pub below : n < d.next

-- no request or attempt of the number is open, and none will be
pub record IsShut (n : ℕ) (d : Daemon) : Type 0 where
  pub given : WasGiven n d
  pub shut : is_open d.past n ≡ false

-- no ticket of the number waits, and none will
pub record HasLeft (n : ℕ) (d : Daemon) : Type 0 where
  pub given : WasGiven n d
  pub left : waits_for d.past n ≡ None

-- no request of the number is open, and none will be
pub record IsNoRequest (n : ℕ) (d : Daemon) : Type 0 where
  pub given : WasGiven n d
  pub none : is_open_request d.past n ≡ false

-- no attempt of the number is open, and none will be
pub record IsNoAttempt (n : ℕ) (d : Daemon) : Type 0 where
  pub given : WasGiven n d
  pub none : is_open_attempt d.past n ≡ false

-- what the request in hand leads as a request is no attempt, and the other way round
pub record IsSorted (d : Daemon) (client : Option Client) : Type 0 where
  pub renews : client_renews client ≡ true
  pub requests : (n : ℕ) → lists (leads_of client) n ≡ true → IsNoAttempt n d
  pub attempts : (n : ℕ) → attempt_of client ≡ Some n → IsNoRequest n d

-- the session leads a request or an attempt where it is open, and has the ticket that waits
pub record IsLed (d : Daemon) (leads : List ℕ) (ticket : Option ℕ) (n : ℕ) : Type 0 where
  pub given : WasGiven n d
  pub led : (lists leads n ≡ true) ⊎ IsShut n d
  pub waited : (ticket ≡ Some n) ⊎ HasLeft n d

-- the request in hand goes on with a request or an attempt where it is open, and with the ticket that waits
pub record IsHeld (d : Daemon) (client : Option Client) (n : ℕ) : Type 0 where
  pub led : (lists (leads_of client) n ≡ true) ⊎ ((attempt_of client ≡ Some n) ⊎ IsShut n d)
  pub waited : (waits_of client ≡ Some n) ⊎ HasLeft n d

abbrev pub AreLed : Daemon → List ℕ → Option ℕ → List Entry → Type 0
AreLed d leads ticket [] = Unit {0}
AreLed d leads ticket (e ∷ entries) = IsLed d leads ticket e.number × AreLed d leads ticket entries

abbrev pub AreHeld : Daemon → Option Client → List Entry → Type 0
AreHeld d client [] = Unit {0}
AreHeld d client (e ∷ entries) = IsHeld d client e.number × AreHeld d client entries

-- one of these entries has the number
abbrev pub has_number : List Entry → ℕ → Bool
has_number [] n = false
has_number (e ∷ own) n = (e.number == n) || has_number own n

-- no number is listed twice
abbrev pub AreApart : List ℕ → Type 0
AreApart [] = Unit {0}
AreApart (n ∷ ns) = (lists ns n ≡ false) × AreApart ns

-- What is led are numbers of own entries, each once, and the ticket is the number of one.
pub record AreOwn (leads : List ℕ) (ticket : Option ℕ) (own : List Entry) : Type 0 where
  pub leads_own : (n : ℕ) → lists leads n ≡ true → has_number own n ≡ true
  pub once : AreApart leads
  pub ticket_own : (n : ℕ) → ticket ≡ Some n → has_number own n ≡ true

-- What own entries opened is led and gone on with, where it is open. Nothing else is led.
pub record Accounts (d : Daemon) (leads : List ℕ) (ticket : Option ℕ) (client : Option Client) (own : List Entry) : Type 0 where
  pub led : AreLed d leads ticket own
  pub held : AreHeld d client own
  pub sorted : IsSorted d client
  pub are_own : AreOwn leads ticket own

-- From one journal to a later one these requests, attempts and this ticket are given up.
pub record GivesUp (d f : Daemon) (leads : List ℕ) (ticket : Option ℕ) : Type 0 where
  pub reaches : Reaches d f
  pub abandoned : (n : ℕ) → lists leads n ≡ true → WasGiven n d → IsShut n f
  pub left : (n : ℕ) → ticket ≡ Some n → WasGiven n d → HasLeft n f

-- what an event gives up is open no more
abbrev pub IsOver : Daemon → Daemon → Event → Type 0
IsOver d f (Abandon n) = WasGiven n d → IsShut n f
IsOver d f (Leave ticket) = WasGiven ticket d → HasLeft ticket f
IsOver d f _ = Unit {0}
