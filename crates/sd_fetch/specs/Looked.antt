-- What a lookup says, over any link: by the exchanges of its searches.
use Rattle.std.specs.Prelude.{◌≡◌, ℕ, ◌≤◌, ◌-◌, ◌^◌, min, true, List, [], ◌∷◌, filter, length}
use Rattle.sd_base.specs.declared.Why.{Why}
use Rattle.sd_rules.specs.declared.keys.Key.{Key}
use Rattle.sd_rules.specs.declared.keys.Key.TheVariants as keys
use Rattle.sd_rules.specs.declared.records.Record.{Record}
use Rattle.sd_rules.specs.declared.records.Record.TheVariants as records
use Rattle.sd_rules.specs.declared.records.GroupRef.{GroupRef}
use Rattle.sd_rules.specs.declared.tasks.Fetched.{Fetched}
use Rattle.sd_rules.specs.declared.tasks.Fetched.TheVariants as fetches
use Rattle.sd_conf.specs.declared.config.Config.{Config}
use Rattle.sd_ldap.specs.declared.entry.DirEntry.{DirEntry}
use Rattle.sd_dial.specs.declared.searched.Searched.{Searched}
use Rattle.sd_dial.specs.declared.searched.Searched.TheVariants as searches
use Rattle.sd_client.specs.Talk.{Talk}
use Rattle.sd_fetch.specs.Exchanging.{Telling, Exchange, Goes, EndsBy}
use Rattle.sd_fetch.specs.Searches.{first_search, services_search}
use Rattle.sd_fetch.specs.Lookup.{user_of, group_of, host_of, fits, found_from, with_members, with_groups, rules_among, services_among}

-- the entries that a search came to
abbrev pub given_of : Searched → List DirEntry
given_of (searches.Entries given) = given
given_of (searches.Code code) = []
given_of (searches.Failed why) = []
given_of searches.Memory = []

-- what the one entry that fits was found as: a group with some members, a user with some groups
abbrev pub IsFoundAs : Config → Key → DirEntry → Fetched → Type 0
IsFoundAs config (keys.User name) e result = result ≡ found_from records.User (user_of config (keys.User name) e)
IsFoundAs config (keys.Uid uid) e result = result ≡ found_from records.User (user_of config (keys.Uid uid) e)
IsFoundAs config (keys.Group name) e result = (members : List (List ℕ)) × (result ≡ found_from (with_members members) (group_of config (keys.Group name) e))
IsFoundAs config (keys.Gid gid) e result = (members : List (List ℕ)) × (result ≡ found_from (with_members members) (group_of config (keys.Gid gid) e))
IsFoundAs config (keys.GroupsOf name) e result = (groups : List GroupRef) × (result ≡ found_from (with_groups groups) (user_of config (keys.GroupsOf name) e))
IsFoundAs config keys.Host e result = result ≡ found_from records.Host (host_of config e)
IsFoundAs config keys.Rules e result = result ≡ fetches.Absent

-- an answer by the entries that fit: none is absence, one is found, and more are many
abbrev pub IsOneOf : Config → Key → List DirEntry → Fetched → Type 0
IsOneOf config key [] result = result ≡ fetches.Absent
IsOneOf config key (e ∷ []) result = IsFoundAs config key e result
IsOneOf config key (e ∷ other ∷ others) result = result ≡ fetches.Many (min (length (e ∷ other ∷ others)) (2 ^ 32 - 1))

-- the access rules and services by two searches
abbrev pub AreRules : Config → List Exchange → Fetched → Type 0
AreRules config (rules ∷ services ∷ []) result =
    (services.search ≡ services_search config.base)
    × (result ≡ fetches.Found (records.Rules (record { rules = rules_among config (given_of rules.searched); services = services_among config (given_of services.searched) })))
AreRules config _ result = ⊥

-- an answer by the first search, or by both of rules
abbrev pub IsAnswerOf : Config → Key → List Exchange → Fetched → Type 0
IsAnswerOf config keys.Rules exchanges result = AreRules config exchanges result
IsAnswerOf config key [] result = ⊥
IsAnswerOf config key (x ∷ xs) result = IsOneOf config key (filter (λ (e : DirEntry). fits config key e) (given_of x.searched)) result

abbrev pub Answers : Config → Key → List Exchange → Fetched → Type 0
Answers config key exchanges (fetches.Found found) = IsAnswerOf config key exchanges (fetches.Found found)
Answers config key exchanges fetches.Absent = IsAnswerOf config key exchanges fetches.Absent
Answers config key exchanges (fetches.Many count) = IsAnswerOf config key exchanges (fetches.Many count)
Answers config key exchanges (fetches.Refused code) = Unit {0}
Answers config key exchanges (fetches.Failed why) = Unit {0}
Answers config key exchanges fetches.Memory = Unit {0}

-- the first search is that of the key; without one, memory was wanting
abbrev pub BeginsBy : Config → Key → List Exchange → Fetched → Type 0
BeginsBy config key [] result = result ≡ fetches.Memory
BeginsBy config key (x ∷ xs) result = x.search ≡ first_search config key

-- what a lookup asked over a client, and how it came to its result
pub record Looked {L : Type 0} (t : Telling L) (config : Config) (key : Key) (old : Talk L) (result : Fetched) (new : Talk L) : Type 0 where
  pub exchanges : List Exchange
  pub in_order : Goes t old exchanges new
  pub begins : BeginsBy config key exchanges result
  pub ends : EndsBy result exchanges
  pub answers : Answers config key exchanges result
