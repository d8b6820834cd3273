-- What a lookup at a server asks, and what it comes to.
use Rattle.std.specs.Prelude.{◌≡◌, ℕ, ◌+◌, ◌⊎◌, List, [], ◌∷◌, ◌++◌, map, Option, Some, None}
use Rattle.std.specs.Option.{option_map}
use Rattle.sd_base.specs.declared.Why.{Why}
use Rattle.sd_base.specs.declared.Why.TheVariants as whys
use Rattle.sd_rules.specs.declared.keys.Key.{Key}
use Rattle.sd_rules.specs.declared.tasks.Fetched.{Fetched}
use Rattle.sd_rules.specs.declared.tasks.Fetched.TheVariants as fetches
use Rattle.sd_conf.specs.declared.config.Config.{Config}
use Rattle.sd_ldap.specs.Values.{MessageValue}
use Rattle.sd_dial.specs.Operations.{Operation, dialled, asked}
use Rattle.std.specs.Io.KnownBytes.{append_known}
use Rattle.sd_client.specs.Talk.{search_message, unbind_message, IsUnsearched, failure_by_search}
use Rattle.sd_fetch.specs.Exchanging.{Exchange, EndsBy}
use Rattle.sd_fetch.specs.Looked.{BeginsBy, Answers}
use Rattle.sd_fetch.specs.Told.{IsAnswered}
use Rattle.sd_engine.specs.Received.{DecidesSearch, with_lines}

-- A lookup in a directory that is told: an answer comes where no search meets a limit, a failure is that of the first search that
-- meets one; the link may fall at any time.
abbrev pub IsToldFetch : Fetched → Option Why → Fetched → Type 0
IsToldFetch (fetches.Found found) failure lookup = IsAnswered failure lookup (fetches.Found found)
IsToldFetch fetches.Absent failure lookup = IsAnswered failure lookup fetches.Absent
IsToldFetch (fetches.Many count) failure lookup = IsAnswered failure lookup (fetches.Many count)
IsToldFetch (fetches.Refused code) failure lookup = ⊥
IsToldFetch (fetches.Failed whys.Link) failure lookup = Unit {0}
IsToldFetch (fetches.Failed (whys.Bytes at)) failure lookup = failure ≡ Some (whys.Bytes at)
IsToldFetch (fetches.Failed (whys.Code code)) failure lookup = ⊥
IsToldFetch (fetches.Failed (whys.Message tag)) failure lookup = failure ≡ Some (whys.Message tag)
IsToldFetch (fetches.Failed (whys.Flood count)) failure lookup = failure ≡ Some (whys.Flood count)
IsToldFetch fetches.Memory failure lookup = Unit {0}

-- Searches on a line on which these bytes were received, of which the first has this id, where reading stands at this place. The messages
-- are those of the searches that were sent, and the bytes decide each of them; a search that was not sent failed with the link, or memory
-- was wanting.
abbrev pub AreAsked : List ℕ → ℕ → ℕ → List Exchange → List MessageValue → ℕ → Type 0
AreAsked received id at [] messages next = (messages ≡ []) × (next ≡ id)
AreAsked received id at (x ∷ xs) messages next =
    (after : ℕ)
    × (((rest : List MessageValue) × (messages ≡ search_message id x.search ∷ rest) × DecidesSearch received id at x.searched after × AreAsked received (id + 1) after xs rest next)
    ⊎ (IsUnsearched x.searched (Unit {0}) × AreAsked received id after xs messages next))

-- why a client has failed after these exchanges
abbrev pub or_failure : Option Why → Option Why → Option Why
or_failure (Some why) later = Some why
or_failure None later = later

abbrev pub failure_of : List Exchange → Option Why
failure_of [] = None
failure_of (x ∷ xs) = or_failure (failure_by_search x.searched) (failure_of xs)

-- The unbind at the end: a client that has failed sends none; else it was sent, or the line failed in sending it.
abbrev pub MayUnbind : Option Why → Type 0 → ℕ → List MessageValue → Type 0
MayUnbind (Some why) rose next messages = messages ≡ []
MayUnbind None rose next messages = (messages ≡ unbind_message next ∷ []) ⊎ (rose × (messages ≡ []))

-- a dial, and then messages on the line
abbrev pub asked_on : ℕ → List MessageValue → List Operation
asked_on server messages = dialled server ∷ map asked messages

-- the messages told, and then some more
abbrev pub with_messages : Option (List MessageValue) → List MessageValue → Option (List MessageValue)
with_messages known more = option_map (λ messages. messages ++ more) known

-- the operations told, and then some more
abbrev pub with_operations : Option (List Operation) → List Operation → Option (List Operation)
with_operations known more = option_map (λ operations. operations ++ more) known

-- What a lookup asked on its line, on which these bytes were received: the searches by which it came to its result, each once, the first
-- that of the key, and the unbind, unless a count of faults rose.
pub record LookupAsked (config : Config) (key : Key) (fetched : Fetched) (rose : Type 0) (messages : List MessageValue) (received : List ℕ) : Type 0 where
  pub exchanges : List Exchange
  pub searches : List MessageValue
  pub next : ℕ
  pub unbinds : List MessageValue
  pub sent : AreAsked received 1 0 exchanges searches next
  pub begins : BeginsBy config key exchanges fetched
  pub ends : EndsBy fetched exchanges
  pub answers : Answers config key exchanges fetched
  pub unbind : MayUnbind (failure_of exchanges) rose next unbinds
  pub are : messages ≡ searches ++ unbinds

-- what a lookup over a link asks and receives, where the link tells it
pub record LooksOver (config : Config) (key : Key) (fetched : Fetched) (rose : Type 0) (known known' : Option (List MessageValue)) (before after : Option (List ℕ)) : Type 0 where
  pub messages : List MessageValue
  pub received : List ℕ
  pub asked : LookupAsked config key fetched rose messages received
  pub told : known' ≡ with_messages known messages
  pub comes : after ≡ append_known before received

-- Which operations a lookup at a server asks, and what is received on its line: nothing where the dial failed, which counts as a fall of
-- the link.
pub data LookupOperations (config : Config) (key : Key) (server : ℕ) (fetched : Fetched) (rose : Type 0) : List Operation → List (List ℕ) → Type 0 where
  undialled : fetched ≡ fetches.Failed whys.Link → LookupOperations config key server fetched rose [] []
  looked : (messages : List MessageValue) (received : List ℕ) → LookupAsked config key fetched rose messages received → LookupOperations config key server fetched rose (asked_on server messages) (received ∷ [])

pub record AsksLookup (config : Config) (key : Key) (server : ℕ) (fetched : Fetched) (rose : Type 0) (known known' : Option (List Operation)) (before after : Option (List (List ℕ))) : Type 0 where
  pub operations : List Operation
  pub lines : List (List ℕ)
  pub are : LookupOperations config key server fetched rose operations lines
  pub told : known' ≡ with_operations known operations
  pub received : after ≡ with_lines before lines
