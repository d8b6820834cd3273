-- What a client's request of any kind names, and the events that an administrator's makes.
use Rattle.std.specs.Prelude.{Bool, true, false, List, []}
use Rattle.sd_rules.specs.declared.events.Event.{Event}
use Rattle.sd_rules.specs.declared.events.Event.TheVariants as events
use Rattle.sd_rules.specs.declared.scripts.Led.{Led}
use Rattle.sd_rules.specs.Names.{lookup_names, login_names, access_names}
use Rattle.sd_rules.specs.Scripts.{Stepping}
use Rattle.sd_engine.specs.Courses.{Course, LookingUp, LoggingIn, Checking, Ordering}

-- the requests and tickets of a client's request, each with the key that it is for
abbrev pub names : Course → List Led
names (LookingUp key course) = lookup_names key course
names (LoggingIn words course) = login_names words.user course
names (Checking words course) = access_names course
names (Ordering course) = []

-- an administrator's word is no answer
abbrev pub is_order : Event → Bool
is_order (events.Void what) = true
is_order events.Offline = true
is_order events.Online = true
is_order events.Stop = true
is_order _ = false

abbrev pub holds_order : Course → Bool
holds_order (Ordering (Stepping event)) = is_order event
holds_order _ = true
