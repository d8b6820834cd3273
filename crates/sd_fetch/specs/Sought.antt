-- What a lookup has come to before it is answered.
use Rattle.std.specs.Prelude.{◌≡◌, ℕ, List, [], ◌∷◌, length, Option, None, Result, Ok, Err, IfOk}
use Rattle.sd_base.specs.declared.Why.{Why}
use Rattle.sd_rules.specs.declared.keys.Key.{Key}
use Rattle.sd_rules.specs.declared.tasks.Fetched.{Fetched}
use Rattle.sd_conf.specs.declared.config.Config.{Config}
use Rattle.sd_dial.specs.Entries.{Behind}
use Rattle.sd_client.specs.Links.{Links}
use Rattle.sd_client.specs.Talk.{Talk}
use Rattle.sd_asking.specs.Settled.{OverTold}
use Rattle.sd_fetch.specs.declared.finding.Early.{Early}
use Rattle.sd_fetch.specs.declared.finding.Early.TheVariants as earlies
use Rattle.sd_fetch.specs.Exchanging.{Telling, Exchange, Goes}
use Rattle.sd_fetch.specs.Rounding.{EndsIn, early_of}
use Rattle.sd_fetch.specs.Lookup.{looked_up}
use Rattle.sd_fetch.specs.Told.{searches_of, first_failure, IsLimit, IsToldLookup}
use Rattle.sd_fetch.specs.Looked.{IsAnswerOf}
use Rattle.sd_fetch.specs.Searches.{first_search}

-- the first search is that of the key; without one, memory was wanting
abbrev pub BeginsSo : Config → Key → List Exchange → Result Fetched Early → Type 0
BeginsSo config key [] result = result ≡ Err earlies.Memory
BeginsSo config key (x ∷ xs) result = x.search ≡ first_search config key

-- what was asked over a client, and what came of it
pub record Sought {L : Type 0} (t : Telling L) (config : Config) (key : Key) (old : Talk L) (result : Result Fetched Early) (new : Talk L) : Type 0 where
  pub exchanges : List Exchange
  pub in_order : Goes t old exchanges new
  pub begins : BeginsSo config key exchanges result
  pub ends : EndsIn (early_of result) exchanges
  pub answers : IfOk result (λ fetched. IsAnswerOf config key exchanges fetched)

-- over a link that tells the directory behind it: the lookup, or the first limit that a search meets
abbrev pub IsToldSought : Result Fetched Early → Option Why → Fetched → Type 0 → Type 0 → Option (List ℕ) → Type 0
IsToldSought (Ok fetched) failure lookup refuses ends coming = (failure ≡ None) × (fetched ≡ lookup)
IsToldSought (Err (earlies.Refused code)) failure lookup refuses ends coming = ⊥
IsToldSought (Err (earlies.Failed why)) failure lookup refuses ends coming = IsLimit why failure refuses ends coming
IsToldSought (Err earlies.Memory) failure lookup refuses ends coming = Unit {0}

-- ---- by what the link tells

-- the failure of the first search of a lookup that meets a limit, over a client as it is
abbrev pub failure_met : {L : Type 0} → Talk L → Config → Key → Behind → Option Why
failure_met talk config key b = first_failure b (length talk.received) talk.next (searches_of config b.entries key)

-- where the directory is told: the lookup in its entries, or the first limit that a search meets
abbrev pub SoughtInTold : {L : Type 0} → Links L → Config → Key → Talk L → Result Fetched Early → Talk L → Type 0
SoughtInTold links config key old result new =
    OverTold links old
    (λ (b : Behind). IsToldSought result (failure_met old config key b) (looked_up config b.entries key) (links.refuses new.link) (links.ends new.link) (links.coming new.link))

-- the same of a lookup that is answered
abbrev pub LookedInTold : {L : Type 0} → Links L → Config → Key → Talk L → Fetched → Talk L → Type 0
LookedInTold links config key old result new =
    OverTold links old
    (λ (b : Behind). IsToldLookup result (failure_met old config key b) (looked_up config b.entries key) (links.refuses new.link) (links.ends new.link) (links.coming new.link))
