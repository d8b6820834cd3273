-- What contracts see of an engine, and how it goes on.
use Rattle.std.specs.Prelude.{ℕ, Bool, true, false, List, [], Option, Some, None}
use Rattle.sd_rules.specs.declared.events.Event.TheVariants as events
use Rattle.sd_rules.specs.declared.keys.Key.TheVariants as keys
use Rattle.sd_rules.specs.declared.replies.Given.{Given}
use Rattle.sd_rules.specs.declared.settings.Settings.{Settings}
use Rattle.sd_inbox.specs.Taking.{Unread}
use Rattle.sd_engine.specs.Courses.{Client, Course, lookup, login, check, order, client_replied}
use Rattle.sd_wire.specs.declared.requests.Request.{Request}
use Rattle.sd_wire.specs.declared.requests.Request.TheVariants as requests
use Rattle.sd_engine.specs.Leading.{leads_after, ticket_after}

-- The bytes that were not heard yet; the client's request in hand; what the session leads, in the order in which it was led, and
-- the ticket that it waits with; whether a reply is awaited, and what its event is about; whether the request in hand is the
-- operator's stop; whether its answer could not be written.
pub record Engine : Type 0 where
  pub inbox : Unread
  pub client : Option Client
  pub leads : List ℕ
  pub ticket : Option ℕ
  pub is_ready : Bool
  pub about : Option ℕ
  pub stops : Bool
  pub has_failed : Bool

-- the course of a request, from its first need on
abbrev pub course_of : Settings → Request → Course
course_of settings (requests.User name) = lookup (keys.User name)
course_of settings (requests.Uid uid) = lookup (keys.Uid uid)
course_of settings (requests.Group name) = lookup (keys.Group name)
course_of settings (requests.Gid gid) = lookup (keys.Gid gid)
course_of settings (requests.GroupsOf name) = lookup (keys.GroupsOf name)
course_of settings (requests.Login user password) = login (record { user = user; password = password; stores = settings.cache_credentials })
course_of settings (requests.Access user service) = check (record { user = user; service = service; mode = settings.access })
course_of settings (requests.Void what) = order (events.Void what)
course_of settings requests.Offline = order events.Offline
course_of settings requests.Online = order events.Online
course_of settings requests.Stop = order events.Stop

abbrev pub client_of : List ℕ → Settings → Request → Client
client_of seed settings request = record { seed = seed; course = course_of settings request }

abbrev pub is_stop : Request → Bool
is_stop requests.Stop = true
is_stop _ = false

-- an engine at the beginning of an input
abbrev pub begun : Engine
begun = record {
  inbox = record { place = 0; bytes = [] };
  client = None;
  leads = [];
  ticket = None;
  is_ready = false;
  about = None;
  stops = false;
  has_failed = false;
}

-- with other bytes that were not heard yet
abbrev pub with_inbox : Engine → Unread → Engine
with_inbox e inbox = record e { inbox = inbox }

-- a request was heard
abbrev pub heard : List ℕ → Settings → Engine → Unread → Request → Engine
heard seed settings e inbox request = record e {
  inbox = inbox;
  client = Some (client_of seed settings request);
  stops = is_stop request;
  has_failed = false;
}

-- the request in hand went on
abbrev pub with_client : Engine → Client → Engine
with_client e client = record e { client = Some client }

-- it waits for the reply to its event
abbrev pub awaiting : Engine → Client → Option ℕ → Engine
awaiting e client about = record e { client = Some client; is_ready = true; about = about }

-- its answer could not be written
abbrev pub failing : Engine → Client → Engine
failing e client = record e { client = Some client; has_failed = true }

-- it is carried out
abbrev pub done : Engine → Engine
done e = record e { client = None }

-- what is led and waited with after a reply
abbrev pub led_on : Engine → Given → Engine
led_on e given = record e {
  leads = leads_after e.leads e.about given.reply;
  ticket = ticket_after e.ticket given.reply;
  is_ready = false;
  about = None;
}

-- the request in hand goes on by a reply
abbrev pub replied : Engine → Client → Given → Engine
replied e client given = record (led_on e given) { client = Some (client_replied client given) }
