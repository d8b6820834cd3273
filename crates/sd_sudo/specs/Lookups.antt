-- What lookups in a directory in memory come to. Each asks over a link of its own.
use Rattle.std.specs.Prelude.{◌≡◌, ℕ, List, [], ◌∷◌, Option, Some, None, Result, Ok, Err}
use Rattle.sd_base.specs.declared.Why.{Why}
use Rattle.sd_rules.specs.declared.keys.Key.{Key}
use Rattle.sd_rules.specs.declared.records.Record.{Record}
use Rattle.sd_rules.specs.declared.tasks.Fetched.{Fetched}
use Rattle.sd_rules.specs.declared.tasks.Fetched.TheVariants as fetches
use Rattle.sd_conf.specs.declared.config.Config.{Config}
use Rattle.sd_ldap.specs.declared.entry.DirEntry.{DirEntry}
use Rattle.sd_fetch.specs.Lookup.{looked_up}
use Rattle.sd_fetch.specs.Told.{searches_of, first_failure}
use Rattle.sd_dial.specs.Entries.{shortest}
use Rattle.sd_provider.specs.Servers.{behind_in}
use Rattle.sd_sudo.specs.declared.lookups.Halt.{Halt}
use Rattle.sd_sudo.specs.declared.lookups.Halt.TheVariants as halts
use Rattle.sd_sudo.specs.Searches.{role_search}

-- ---- limits

-- the first limit that a search of the lookup meets, where one does
abbrev pub limit_at : Config → List DirEntry → Key → Option Why
limit_at config entries key = first_failure (behind_in shortest entries) 0 1 (searches_of config entries key)

-- the limit that the search for sudo rules meets, where it does
abbrev pub role_limit : List DirEntry → List ℕ → Option Why
role_limit entries base = first_failure (behind_in shortest entries) 0 1 (role_search base ∷ [])

abbrev pub IsMet : Option Why → Type 0
IsMet limit = (why : Why) × (limit ≡ Some why)

-- a search of the lookup meets a limit
abbrev pub Meets : Config → List DirEntry → Key → Type 0
Meets config entries key = IsMet (limit_at config entries key)

-- none does
abbrev pub Passes : Config → List DirEntry → Key → Type 0
Passes config entries key = limit_at config entries key ≡ None

-- what ends the searches before there is an answer: a limit that was met, or want of memory
abbrev pub HaltsBy : Halt → Type 0 → Type 0
HaltsBy halts.Limit met = met
HaltsBy halts.Memory met = Unit {0}

-- ---- what is found

-- what a lookup found, where it is one thing
abbrev pub found_in : Fetched → Option Record
found_in (fetches.Found found) = Some found
found_in fetches.Absent = None
found_in (fetches.Many count) = None
found_in (fetches.Refused code) = None
found_in (fetches.Failed why) = None
found_in fetches.Memory = None

abbrev pub found_for : Config → List DirEntry → Key → Option Record
found_for config entries key = found_in (looked_up config entries key)

-- the same of a lookup that may have failed
abbrev pub found_or_halt : Fetched → Result (Option Record) Halt
found_or_halt (fetches.Found found) = Ok (Some found)
found_or_halt fetches.Absent = Ok None
found_or_halt (fetches.Many count) = Ok None
found_or_halt (fetches.Refused code) = Err halts.Memory
found_or_halt (fetches.Failed why) = Err halts.Limit
found_or_halt fetches.Memory = Err halts.Memory
