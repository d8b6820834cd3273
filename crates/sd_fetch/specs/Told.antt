-- What a lookup comes to over a link that tells the directory behind it.
use Rattle.std.specs.Prelude.{◌≡◌, ℕ, ◌+◌, ◌⊎◌, List, [], ◌∷◌, map, length, Option, Some, None}
use Rattle.sd_base.specs.declared.Why.{Why}
use Rattle.sd_base.specs.declared.Why.TheVariants as whys
use Rattle.sd_dn.specs.declared.Pair.{Pair}
use Rattle.sd_dn.specs.Texts.{spelled}
use Rattle.sd_rules.specs.declared.keys.Key.{Key}
use Rattle.sd_rules.specs.declared.keys.Key.TheVariants as keys
use Rattle.sd_rules.specs.declared.tasks.Fetched.{Fetched}
use Rattle.sd_rules.specs.declared.tasks.Fetched.TheVariants as fetches
use Rattle.sd_conf.specs.declared.config.Config.{Config}
use Rattle.sd_ldap.specs.declared.entry.DirEntry.{DirEntry}
use Rattle.sd_ldap.specs.Values.{SearchValue}
use Rattle.sd_dial.specs.Entries.{Behind}
use Rattle.sd_asking.specs.Searching.{ToldReply, told_search, search_reply_size}
use Rattle.sd_asking.specs.Searching as told
use Rattle.sd_nested.specs.Searches.{read_search, holder_search}
use Rattle.sd_nested.specs.Rounds.{member_reads, holder_asks}
use Rattle.sd_fetch.specs.Searches.{first_search, rules_search, services_search}
use Rattle.sd_fetch.specs.Lookup.{fitting}

-- ---- the searches sent

-- the DNs read in the member rounds from a group
abbrev pub reads_under : Option (List (List Pair)) → List DirEntry → ℕ → DirEntry → List (List ℕ)
reads_under None entries level group = []
reads_under (Some base) entries level group = member_reads entries base level group

abbrev pub reads_of : Config → List DirEntry → DirEntry → List SearchValue
reads_of config entries group = map read_search (reads_under (spelled config.base) entries config.level group)

-- the DNs whose groups are asked for in the holder rounds from a user
abbrev pub holders_of : Config → List DirEntry → DirEntry → List SearchValue
holders_of config entries user = map (holder_search config.base) (holder_asks entries config.base config.level user.dn)

-- further searches come where just one entry fits
abbrev pub where_one : (DirEntry → List SearchValue) → List DirEntry → List SearchValue
where_one further [] = []
where_one further (e ∷ []) = further e
where_one further (e ∷ other ∷ others) = []

-- the searches behind the first one
abbrev pub further_searches : Config → List DirEntry → Key → List SearchValue
further_searches config entries (keys.User name) = []
further_searches config entries (keys.Uid uid) = []
further_searches config entries (keys.Group name) = where_one (reads_of config entries) (fitting config (keys.Group name) entries)
further_searches config entries (keys.Gid gid) = where_one (reads_of config entries) (fitting config (keys.Gid gid) entries)
further_searches config entries (keys.GroupsOf name) = where_one (holders_of config entries) (fitting config (keys.GroupsOf name) entries)
further_searches config entries keys.Host = []
further_searches config entries keys.Rules = services_search config.base ∷ []

-- all searches that a lookup sends where none of them fails
abbrev pub searches_of : Config → List DirEntry → Key → List SearchValue
searches_of config entries key = first_search config key ∷ further_searches config entries key

-- ---- limits

abbrev pub failure_of : ToldReply → Option Why
failure_of (told.entries sent) = None
failure_of (told.code result) = None
failure_of (told.failed why) = Some why

abbrev pub or_later : Option Why → Option Why → Option Why
or_later (Some why) later = Some why
or_later None later = later

-- The failure of the first search that meets a limit: so many bytes were received over the link before, and
-- the first search has this id.
abbrev pub first_failure : Behind → ℕ → ℕ → List SearchValue → Option Why
first_failure behind count id [] = None
first_failure behind count id (s ∷ rest) =
    or_later (failure_of (told_search behind count id s)) (first_failure behind (count + search_reply_size behind id s) (id + 1) rest)

-- ---- what the lookup says

-- an answer comes where no search meets a limit
pub record IsAnswered (failure : Option Why) (found result : Fetched) : Type 0 where
  pub within : failure ≡ None
  pub answer : result ≡ found

-- A failure is that of the first search that meets a limit. The link may fail at any time; where it refused
-- nothing and no byte is to come, it fails only by a limit.
abbrev pub IsLimit : Why → Option Why → Type 0 → Type 0 → Option (List ℕ) → Type 0
IsLimit whys.Link failure refuses ends coming = refuses ⊎ (ends × (coming ≡ Some [] → failure ≡ Some whys.Link))
IsLimit (whys.Bytes at) failure refuses ends coming = failure ≡ Some (whys.Bytes at)
IsLimit (whys.Code code) failure refuses ends coming = ⊥
IsLimit (whys.Message tag) failure refuses ends coming = failure ≡ Some (whys.Message tag)
IsLimit (whys.Flood count) failure refuses ends coming = failure ≡ Some (whys.Flood count)

abbrev pub IsToldLookup : Fetched → Option Why → Fetched → Type 0 → Type 0 → Option (List ℕ) → Type 0
IsToldLookup (fetches.Found found) failure lookup refuses ends coming = IsAnswered failure lookup (fetches.Found found)
IsToldLookup fetches.Absent failure lookup refuses ends coming = IsAnswered failure lookup fetches.Absent
IsToldLookup (fetches.Many count) failure lookup refuses ends coming = IsAnswered failure lookup (fetches.Many count)
IsToldLookup (fetches.Refused code) failure lookup refuses ends coming = ⊥
IsToldLookup (fetches.Failed why) failure lookup refuses ends coming = IsLimit why failure refuses ends coming
IsToldLookup fetches.Memory failure lookup refuses ends coming = Unit {0}
