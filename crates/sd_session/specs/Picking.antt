-- When a directory is asked: a search or a bind is needed only directly behind a Pick that was replied a server, and at that server.
use Rattle.std.specs.Prelude.{◌≡◌, ℕ, Bool, true, false, List, [], ◌∷◌, ◌++◌, Option, Some, None}
use Rattle.sd_rules.specs.declared.events.Event.{Event}
use Rattle.sd_rules.specs.declared.events.Event.TheVariants as events
use Rattle.sd_rules.specs.declared.keys.Key.{Key}
use Rattle.sd_rules.specs.declared.replies.Entry.{Entry}
use Rattle.sd_rules.specs.declared.replies.Given.{Given}
use Rattle.sd_rules.specs.declared.replies.Reply.{Reply}
use Rattle.sd_rules.specs.declared.replies.Reply.TheVariants as replies
use Rattle.sd_rules.specs.declared.settings.Settings.{Settings}
use Rattle.sd_rules.specs.declared.tasks.Bound.{Bound}
use Rattle.sd_rules.specs.declared.tasks.Fetched.{Fetched}
use Rattle.sd_rules.specs.declared.tasks.Need.{Need}
use Rattle.sd_rules.specs.declared.tasks.Need.TheVariants as needs
use Rattle.sd_rules.specs.declared.tasks.Said.{Said}
use Rattle.sd_rules.specs.Scripts.{event_of, is_out_of_memory, is_bind_out_of_memory}
use Rattle.sd_wire.specs.declared.requests.Request.{Request}
use Rattle.sd_engine.specs.Courses.{Client, need_of, client_told, client_replied, client_fetched, client_bound}
use Rattle.sd_engine.specs.Engines.{client_of}

-- the server that a need asks
abbrev pub server_asked : Need → Option ℕ
server_asked (needs.Fetch server key) = Some server
server_asked (needs.Bind server dn password) = Some server
server_asked _ = None

-- the server that the request in hand needs to be asked
abbrev pub asks_at : Option Client → Option ℕ
asks_at None = None
asks_at (Some client) = server_asked (need_of client)

-- an event is a Pick, and its reply is this server
pub record PicksServer (event : Event) (reply : Reply) (server : ℕ) : Type 0 where
  pub request : ℕ
  pub pick : event ≡ events.Pick request
  pub picked : reply ≡ replies.Server server

-- a fresh hit, or a Join
abbrev pub is_hit_or_join : Reply → Bool
is_hit_or_join (replies.Fresh n) = true
is_hit_or_join (replies.Gone n) = true
is_hit_or_join (replies.Refresh n request) = true
is_hit_or_join (replies.Join request ticket) = true
is_hit_or_join _ = false

-- Over all scripts: a server is asked directly behind a Pick that was replied that server, once, and at no other time. So nothing is
-- asked for a fresh hit or a Join.
pub record AsksBehindPick : Type 0 where
  pub first : (seed : List ℕ) (settings : Settings) (request : Request) → server_asked (need_of (client_of seed settings request)) ≡ None
  pub replied : (c : Client) (event : Event) (given : Given) (server : ℕ) → event_of (need_of c) ≡ Some event → server_asked (need_of (client_replied c given)) ≡ Some server → PicksServer event given.reply server
  pub told : (c : Client) (said : Said) → need_of c ≡ needs.Say said → server_asked (need_of (client_told c)) ≡ None
  pub fetched : (c : Client) (answer : Fetched) (server : ℕ) (key : Key) → need_of c ≡ needs.Fetch server key → is_out_of_memory answer ≡ false → server_asked (need_of (client_fetched c answer)) ≡ None
  pub bound : (c : Client) (answer : Bound) (server : ℕ) (dn password : List ℕ) → need_of c ≡ needs.Bind server dn password → is_bind_out_of_memory answer ≡ false → server_asked (need_of (client_bound c answer)) ≡ None
  pub hit_or_join : (c : Client) (event : Event) (given : Given) → event_of (need_of c) ≡ Some event → is_hit_or_join given.reply ≡ true → server_asked (need_of (client_replied c given)) ≡ None

-- the last own entry is a Pick that was replied this server
pub record IsPicked (server : ℕ) (own : List Entry) : Type 0 where
  pub earlier : List Entry
  pub last : Entry
  pub are : own ≡ earlier ++ last ∷ []
  pub picks : PicksServer last.event last.reply server

-- a server that the request in hand needs to be asked was picked by the last own entry
abbrev pub IsBehindPick : Option Client → List Entry → Type 0
IsBehindPick client own = (server : ℕ) → asks_at client ≡ Some server → IsPicked server own
