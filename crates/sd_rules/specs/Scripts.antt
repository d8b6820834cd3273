-- Scripts: what a client's request needs next, by its own words and by what it has seen so far.
use Rattle.std.specs.Prelude.{ℕ, Bool, true, false, List, [], ◌∷◌, Option, Some, None}
use Rattle.sd_rules.specs.declared.keys.Key.{Key}
use Rattle.sd_rules.specs.declared.records.Record.{Record}
use Rattle.sd_rules.specs.declared.events.Event.{Event}
use Rattle.sd_rules.specs.declared.events.Event.TheVariants as events
use Rattle.sd_rules.specs.declared.replies.Given.{Given}
use Rattle.sd_rules.specs.declared.scripts.LookupCourse.{LookupCourse}
use Rattle.sd_rules.specs.declared.tasks.Bound.{Bound}
use Rattle.sd_rules.specs.declared.tasks.Bound.TheVariants as bounds
use Rattle.sd_rules.specs.declared.tasks.Fetched.{Fetched}
use Rattle.sd_rules.specs.declared.tasks.Fetched.TheVariants as fetches
use Rattle.sd_rules.specs.declared.tasks.Need.{Need}
use Rattle.sd_rules.specs.declared.tasks.Need.TheVariants as needs
use Rattle.sd_rules.specs.declared.tasks.Said.TheVariants as says
use Rattle.sd_rules.specs.Keys.{is_answer_of_kind}
use Rattle.sd_rules.specs.Lookups.{begun, course_need, course_told, course_replied, course_fetched, course_key, is_found_of_kind, is_fetched_of_kind, is_sayable}
use Rattle.sd_rules.specs.LoginScript.{LoginWords, LoginCourse, login_course_need, login_course_told, login_course_replied, login_course_fetched, login_course_bound, login_begun, login_key}
use Rattle.sd_rules.specs.AccessScript.{AccessWords, AccessCourse, access_need, access_told, access_replied, access_fetched, access_begun, access_key}

-- An administrator's request is one event, and the number of its entry is told.
pub data AdminCourse : Type 0 where
  Stepping : Event → AdminCourse
  Telling : ℕ → AdminCourse
  Over : AdminCourse

abbrev pub admin_need : AdminCourse → Need
admin_need (Stepping event) = needs.Step event
admin_need (Telling number) = needs.Say (says.Done number)
admin_need Over = needs.End

abbrev pub admin_told : AdminCourse → AdminCourse
admin_told (Telling number) = Over
admin_told course = course

abbrev pub admin_replied : AdminCourse → Given → AdminCourse
admin_replied (Stepping event) given = Telling given.number
admin_replied course given = course

-- The script of a client's request, as far as it has come.
pub data Script : Type 0 where
  Lookup : Key → LookupCourse → Script
  Login : LoginWords → LoginCourse → Script
  Access : AccessWords → AccessCourse → Script
  Admin : AdminCourse → Script

-- each script from its first need on
abbrev pub lookup_script : Key → Script
lookup_script key = Lookup key begun

abbrev pub login_script : LoginWords → Script
login_script words = Login words (login_begun words.password)

abbrev pub access_script : AccessWords → Script
access_script words = Access words (access_begun words)

abbrev pub admin_script : Event → Script
admin_script event = Admin (Stepping event)

-- what a request needs next
abbrev pub need_at : Script → Need
need_at (Lookup key course) = course_need key course
need_at (Login words course) = login_course_need words course
need_at (Access words course) = access_need words course
need_at (Admin course) = admin_need course

-- the event that a need makes: its own, or the collecting of its ticket
abbrev pub event_of : Need → Option Event
event_of (needs.Step event) = Some event
event_of (needs.Await ticket) = Some (events.Collect ticket)
event_of _ = None

-- the script once its need is known: what was to be told is told
abbrev pub told_at : Script → Script
told_at (Lookup key course) = Lookup key (course_told course)
told_at (Login words course) = Login words (login_course_told course)
told_at (Access words course) = Access words (access_told course)
told_at (Admin course) = Admin (admin_told course)

-- the script after the reply to its event, or to the collecting of its ticket
abbrev pub replied_at : Script → Given → Script
replied_at (Lookup key course) given = Lookup key (course_replied course given)
replied_at (Login words course) given = Login words (login_course_replied words course given)
replied_at (Access words course) given = Access words (access_replied course given)
replied_at (Admin course) given = Admin (admin_replied course given)

-- the script after its search at a server
abbrev pub fetched_at : Script → Fetched → Script
fetched_at (Lookup key course) fetched = Lookup key (course_fetched course fetched)
fetched_at (Login words course) fetched = Login words (login_course_fetched course fetched)
fetched_at (Access words course) fetched = Access words (access_fetched course fetched)
fetched_at (Admin course) fetched = Admin course

-- the script after its bind at a server
abbrev pub bound_at : Script → Bound → Script
bound_at (Login words course) bound = Login words (login_course_bound words course bound)
bound_at script bound = script

-- What a request sees: that its client was told, a reply, what a search gave, what a bind gave.
pub data Seen : Type 0 where
  Told : Seen
  Replied : Given → Seen
  FetchedAt : Fetched → Seen
  BoundAt : Bound → Seen

abbrev pub seen_at : Script → Seen → Script
seen_at script Told = told_at script
seen_at script (Replied given) = replied_at script given
seen_at script (FetchedAt fetched) = fetched_at script fetched
seen_at script (BoundAt bound) = bound_at script bound

-- the script after what was seen so far, the newest first
abbrev pub script_after : Script → List Seen → Script
script_after script [] = script
script_after script (seen ∷ earlier) = seen_at (script_after script earlier) seen

-- what a request needs next, by its words and by what was seen so far
abbrev pub next_need : Script → List Seen → Need
next_need script seen = need_at (script_after script seen)

-- which needs wait for a reply, and which for what a bind gives
abbrev pub awaits_reply : Need → Bool
awaits_reply (needs.Step event) = true
awaits_reply (needs.Await ticket) = true
awaits_reply _ = false

abbrev pub awaits_bind : Need → Bool
awaits_bind (needs.Bind server dn password) = true
awaits_bind _ = false

-- the key that is looked up
abbrev pub key_at : Script → Option Key
key_at (Lookup key course) = course_key key course
key_at (Login words course) = login_key words course
key_at (Access words course) = access_key course
key_at (Admin course) = None

-- a found record is of the kind of the key that is looked up
abbrev pub fits_found : Option Key → Option Record → Bool
fits_found None found = true
fits_found (Some key) found = is_found_of_kind key found

-- a server's answer is one to a search that is needed, and a found record is of the kind of the key that is searched
abbrev pub answers_search : Need → Fetched → Bool
answers_search (needs.Fetch server key) fetched = is_fetched_of_kind key fetched
answers_search _ fetched = false

-- a need that is something to tell
abbrev pub is_saying : Need → Bool
is_saying (needs.Say said) = true
is_saying _ = false

abbrev pub is_out_of_memory : Fetched → Bool
is_out_of_memory fetches.Memory = true
is_out_of_memory _ = false

abbrev pub is_bind_out_of_memory : Bound → Bool
is_bind_out_of_memory bounds.Memory = true
is_bind_out_of_memory _ = false

-- an answer that is to be recorded is of the kind of the key that is looked up
abbrev pub is_event_of_kind : Key → Event → Bool
is_event_of_kind key (events.Answer request answered) = is_answer_of_kind answered key
is_event_of_kind key _ = true

abbrev pub is_need_of_kind : Option Key → Need → Bool
is_need_of_kind (Some key) (needs.Step event) = is_event_of_kind key event
is_need_of_kind _ need = true

-- what is to be told can be told: a record in it is one that clients ask for
abbrev pub is_tellable : Need → Bool
is_tellable (needs.Say said) = is_sayable said
is_tellable _ = true
