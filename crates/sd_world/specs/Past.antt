-- What the clients of a scenario have in the journal: each request that a task leads, as long as it is open, and each ticket, as
-- long as it waits, was asked for the key that the task names it for.
use Rattle.std.specs.Prelude.{◌≡◌, ◌<◌, ℕ, true, List, [], ◌∷◌, Some}
use Rattle.sd_rules.specs.declared.keys.Key.{Key}
use Rattle.sd_rules.specs.declared.scripts.Led.{Led}
use Rattle.sd_rules.specs.Names.{AllNamed, lookup_names, login_names, access_names}
use Rattle.sd_rules.specs.Past.{key_of}
use Rattle.sd_rules.specs.Requests.{is_open, waits_for}
use Rattle.sd_rules.specs.Steps.{Daemon, next_number}
use Rattle.sd_world.specs.Clients.{Client}
use Rattle.sd_world.specs.Courses.{Course, LookingUp, LoggingIn, Checking}

-- the requests and tickets of a task, each with the key that it is for
abbrev pub names : Course → List Led
names (LookingUp key course) = lookup_names key course
names (LoggingIn words course) = login_names words.user course
names (Checking words course) = access_names course

-- A number was given to an entry, which asked for the key, as long as what it opened is open or its ticket waits. Afterwards a
-- forget may drop the entry.
pub record IsAsked (d : Daemon) (n : ℕ) (key : Key) : Type 0 where
  pub below : n < next_number d
  pub request : is_open d.past n ≡ true → key_of d.past n ≡ Some key
  pub ticket : (r : ℕ) → waits_for d.past n ≡ Some r → key_of d.past n ≡ Some key

abbrev pub AreAsked : Daemon → List Led → Type 0
AreAsked d led = AllNamed (IsAsked d) led

-- the journal knows what a task names
pub record IsKnown (d : Daemon) (task : Course) : Type 0 where
  pub asked : AreAsked d (names task)

abbrev pub EachKnown : Daemon → List Client → Type 0
EachKnown d [] = Unit {0}
EachKnown d (c ∷ clients) = IsKnown d c.task × EachKnown d clients

-- so it knows the task of each client
pub record AreKnown (d : Daemon) (clients : List Client) : Type 0 where
  pub each : EachKnown d clients

-- a later daemon: what was asked for stays so
pub record KeepsKeys (before after : Daemon) : Type 0 where
  pub keeps : (n : ℕ) (key : Key) → IsAsked before n key → IsAsked after n key
