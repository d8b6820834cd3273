-- How the clients of a scenario take their steps.
use Rattle.std.specs.Prelude.{◌≡◌, ◌⊎◌, ◌≤◌, ℕ, zero, suc, Bool, true, false, ◌&&◌, ◌+◌, ◌++◌, not, slice_get, slice_set, length, List, [], ◌∷◌, Option, Some, None, Result, Ok, Err, if◌then◌else◌}
use Rattle.sd_rules.specs.declared.keys.Key.{Key}
use Rattle.sd_ldap.specs.declared.entry.DirEntry.{DirEntry}
use Rattle.sd_rules.specs.declared.events.Event.{Event}
use Rattle.sd_rules.specs.declared.events.Event.TheVariants as events
use Rattle.sd_rules.specs.declared.replies.Entry.{Entry}
use Rattle.sd_rules.specs.declared.replies.Given.{Given}
use Rattle.sd_conf.specs.declared.config.Config.{Config}
use Rattle.sd_rules.specs.declared.tasks.Bound.{Bound}
use Rattle.sd_rules.specs.declared.tasks.Fetched.{Fetched}
use Rattle.sd_rules.specs.declared.tasks.Need.{Need}
use Rattle.sd_rules.specs.declared.tasks.Need.TheVariants as needs
use Rattle.sd_rules.specs.Requests.{is_open_request, waits_for}
use Rattle.sd_rules.specs.Steps.{Daemon, after, given, is_full, full_count}
use Rattle.sd_world.specs.declared.directory.Change.{Change}
use Rattle.sd_world.specs.Clients.{Client, about, asked, bound, fetched, gone, is_settled, need_of, replied}
use Rattle.sd_provider.specs.Servers as servers
use Rattle.sd_world.specs.Modes.{mode_of}
use Rattle.sd_world.specs.Prints.{answer_line, left_line}

-- What surrounds the tasks of a scenario: the configuration; the directory's entries; the changes of its servers with the
-- newest first; the moment handed in.
pub record Site : Type 0 where
  pub config : Config
  pub entries : List DirEntry
  pub changes : List Change
  pub moment : ℕ

-- What a scenario works on: the daemon; what surrounds the tasks; the clients, the first task's first; the most entries that the
-- journal has; whether tasks are held; and what was printed.
pub record World : Type 0 where
  pub daemon : Daemon
  pub site : Site
  pub clients : List Client
  pub limit : ℕ
  pub is_held : Bool
  pub printed : List ℕ

-- What a client works on: the daemon, itself, and what was printed.
pub record Act : Type 0 where
  pub daemon : Daemon
  pub client : Client
  pub printed : List ℕ

abbrev pub act : Daemon → Client → List ℕ → Act
act d c printed = record { daemon = d; client = c; printed = printed }

-- What ends a scenario early, with what was printed before: a step that is refused as full, with the number in the refusal; or tasks
-- that did not come to rest within the bound on their moves. The second never comes.
pub data Halt : Type 0 where
  Full : ℕ → List ℕ → Halt
  Endless : List ℕ → Halt

-- what was done was not ended by the bound on the moves
abbrev pub is_bounded : {A : Type 0} → Result A Halt → Bool
is_bounded (Ok x) = true
is_bounded (Err (Full n printed)) = true
is_bounded (Err (Endless printed)) = false

-- an early end ends all that is done
infixl 10 ◌>>=◌
abbrev pub ◌>>=◌ : {A B E : Type 0} → Result A E → (A → Result B E) → Result B E
(Ok x) >>= f = f x
(Err e) >>= f = Err e

-- the same with what was printed before
abbrev pub at_text : {A : Type 0} → List ℕ → Result A ℕ → Result A Halt
at_text printed (Ok x) = Ok x
at_text printed (Err n) = Err (Full n printed)

-- the daemon after a step, and what the step gives, or the number in the refusal as full
abbrev pub step : Daemon → ℕ → Event → Result (Daemon × Given) ℕ
step d now event = if is_full d event then Err (full_count d) else Ok (after d now event, given d now event)

-- a step whose reply nobody waits for
abbrev pub happened : Daemon → ℕ → Event → Result Daemon ℕ
happened d now event = step d now event >>= λ s. Ok s.0

-- ---- one move of a client

-- what the lookup of a key at a server comes to
abbrev pub fetched_at : Site → ℕ → Key → Fetched
fetched_at s server key = servers.fetched_in (mode_of s.changes server) s.config s.entries key

-- what a bind at a server comes to
abbrev pub bound_at : Site → ℕ → List ℕ → List ℕ → Bound
bound_at s server dn password = servers.bound_in (mode_of s.changes server) s.entries dn password

-- what needs no event is done at once, with the client and what was printed: a server is asked, an answer is printed
abbrev pub settled_by : Site → ℕ → Client × List ℕ → Need → Client × List ℕ
settled_by s number p (needs.Fetch server key) = (fetched p.0 (fetched_at s server key), p.1)
settled_by s number p (needs.Bind server dn password) = (bound p.0 (bound_at s server dn password), p.1)
settled_by s number p (needs.Say said) = (p.0, p.1 ++ answer_line s.config.pwfield number said)
settled_by s number p _ = p

abbrev pub settled : Site → ℕ → Client × List ℕ → Client × List ℕ
settled s number p = settled_by s number (asked p.0, p.1) (need_of p.0)

abbrev pub with_pair : Daemon → Client × List ℕ → Act
with_pair d p = act d p.0 p.1

-- what an event of a client leads to
abbrev pub replied_act : Act → Event → Daemon × Given → Act
replied_act a event s = act s.0 (replied a.client (about event) s.1) a.printed

abbrev pub stepped : Site → Act → Event → Result Act Halt
stepped s a event = at_text a.printed (step a.daemon s.moment event) >>= λ r. Ok (replied_act a event r)

abbrev pub acted_by : Site → ℕ → Act → Need → Result Act Halt
acted_by s number a (needs.Step event) = stepped s a event
acted_by s number a (needs.Await ticket) = stepped s a (events.Collect ticket)
acted_by s number a need = Ok (with_pair a.daemon (settled_by s number (a.client, a.printed) need))

-- A move of the client of task `number`: the event that it needs, or what it needs without one; then the directory's answer or
-- the printing that follows, and whether this was all. After these two it has ended or needs an event.
abbrev pub asked_act : Act → Act
asked_act a = act a.daemon (asked a.client) a.printed

abbrev pub settled_act : Site → ℕ → Act → Act
settled_act s number a = with_pair a.daemon (settled s number (settled s number (a.client, a.printed)))

abbrev pub moved : Site → ℕ → Act → Result Act Halt
moved s number a = acted_by s number (asked_act a) (need_of a.client) >>= λ b. Ok (settled_act s number b)

-- ---- which clients move

-- a ticket whose request is open
abbrev pub is_waiting_for : List Entry → Option ℕ → Bool
is_waiting_for past None = false
is_waiting_for past (Some request) = is_open_request past request

abbrev pub is_waiting : List Entry → Option ℕ → Bool
is_waiting past None = false
is_waiting past (Some ticket) = is_waiting_for past (waits_for past ticket)

-- a client that has not ended and doesn't wait for an open request
abbrev pub is_ready : List Entry → Client → Bool
is_ready past c = not c.is_over && not (is_waiting past c.ticket)

abbrev pub is_ready_at : List Entry → Option Client → Bool
is_ready_at past None = false
is_ready_at past (Some c) = is_ready past c

-- the client in this place is there, and between two moves
abbrev pub is_settled_at : Option Client → Bool
is_settled_at None = false
is_settled_at (Some c) = is_settled c

-- no client is ready
abbrev pub NoneIsReady : World → Type 0
NoneIsReady w = (place : ℕ) → is_ready_at w.daemon.past (slice_get w.clients place) ≡ false

-- the world with what a client's move made of it
abbrev pub with_act : World → ℕ → Act → World
with_act w place a = record w { daemon = a.daemon; clients = slice_set w.clients place a.client; printed = a.printed }

abbrev pub act_of : World → Client → Act
act_of w c = act w.daemon c w.printed

-- a client moves; its task has the number of its place, counted from 1
abbrev pub client_moved : World → ℕ → Client → Result World Halt
client_moved w place c = moved w.site (place + 1) (act_of w c) >>= λ a. Ok (with_act w place a)

abbrev pub client_moved_by : World → ℕ → Option Client → Result World Halt
client_moved_by w place None = Ok w
client_moved_by w place (Some c) = client_moved w place c

abbrev pub client_moved_at : World → ℕ → Result World Halt
client_moved_at w place = client_moved_by w place (slice_get w.clients place)

-- the client in this place moves, where it can
abbrev pub move_at : World → ℕ → Result World Halt
move_at w place = if is_ready_at w.daemon.past (slice_get w.clients place) then client_moved_at w place else Ok w

-- so many moves of the client in this place
abbrev pub moves_at : ℕ → World → ℕ → Result World Halt
moves_at zero w place = Ok w
moves_at (suc count) w place = move_at w place >>= λ v. moves_at count v place

-- The client in this place makes so many events, an entry of the journal each. Where they are fewer it can make no more.
pub record MakesEvents (count place : ℕ) (w v : World) : Type 0 where
  pub most : length v.daemon.past ≤ length w.daemon.past + count
  pub all : (length v.daemon.past ≡ length w.daemon.past + count) ⊎ (is_ready_at v.daemon.past (slice_get v.clients place) ≡ false)
  pub settled : is_settled_at (slice_get v.clients place) ≡ true

-- ---- tasks that run

-- the place of the first client that is ready, or the number of clients
abbrev pub first_ready : List Entry → List Client → ℕ
first_ready past [] = 0
first_ready past (c ∷ cs) = if is_ready past c then 0 else first_ready past cs + 1

-- the client that moves next: the one that moved last, as long as it can, and then the first that can
abbrev pub next_up : World → ℕ → ℕ
next_up w last =
    if is_ready_at w.daemon.past (slice_get w.clients last) then last else first_ready w.daemon.past w.clients

-- A task runs until it ends or waits for an open request, and then the least-numbered that can, until none can. Each move makes an
-- entry or ends its client, and the journal has places for no more than its limit, or for what is kept and reserved, where that is
-- more: so a task that could go on once the bound on the moves is used up would be an error, which never comes.
abbrev pub run_on : ℕ → World → ℕ → Result World Halt
run_on zero w last =
    if is_ready_at w.daemon.past (slice_get w.clients (next_up w last)) then Err (Endless w.printed) else Ok w
run_on (suc moves) w last =
    if is_ready_at w.daemon.past (slice_get w.clients (next_up w last))
    then (client_moved_at w (next_up w last) >>= λ v. run_on moves v (next_up w last))
    else Ok w

abbrev pub most_moves : World → ℕ
most_moves w = w.limit + length w.daemon.past + length w.daemon.past + length w.clients

abbrev pub run_from : World → ℕ → Result World Halt
run_from w last = run_on (most_moves w) w last

-- ---- a client that leaves

-- an Abandon for each of these numbers, in order
abbrev pub abandoned : List ℕ → Daemon → ℕ → Result Daemon ℕ
abandoned [] d now = Ok d
abandoned (n ∷ ns) d now = happened d now (events.Abandon n) >>= λ e. abandoned ns e now

-- a Leave for its ticket
abbrev pub ticket_left : Option ℕ → Daemon → ℕ → Result Daemon ℕ
ticket_left None d now = Ok d
ticket_left (Some ticket) d now = happened d now (events.Leave ticket)

abbrev pub left_by : Client → Daemon → ℕ → Result Daemon ℕ
left_by c d now = abandoned c.leads d now >>= λ e. ticket_left c.ticket e now

abbrev pub left_text : Bool → ℕ → List ℕ
left_text true number = []
left_text false number = left_line number

abbrev pub gone_act : Act → ℕ → Daemon → Act
gone_act a number d = act d (gone a.client) (a.printed ++ left_text a.client.is_told number)

-- the client of task `number` leaves
abbrev pub left : Site → ℕ → Act → Result Act Halt
left s number a = at_text a.printed (left_by a.client a.daemon s.moment) >>= λ d. Ok (gone_act a number d)

abbrev pub client_left : World → ℕ → Client → Result World Halt
client_left w place c = left w.site (place + 1) (act_of w c) >>= λ a. Ok (with_act w place a)

abbrev pub client_left_by : World → ℕ → Option Client → Result World Halt
client_left_by w place None = Ok w
client_left_by w place (Some c) = client_left w place c

abbrev pub client_left_at : World → ℕ → Result World Halt
client_left_at w place = client_left_by w place (slice_get w.clients place)

abbrev pub has_ended_at : Option Client → Bool
has_ended_at None = true
has_ended_at (Some c) = c.is_over

-- the client in this place leaves, unless it has ended
abbrev pub left_at : World → ℕ → Result World Halt
left_at w place = if has_ended_at (slice_get w.clients place) then Ok w else client_left_at w place
