-- What a lookup and a bind at a server of some entries come to, by its mode.
use Rattle.std.specs.Prelude.{◌≡◌, ◌⊎◌, ℕ, ◌^◌, ◌<◌, ◌==◌, ◌||◌, ◌&&◌, Bool, true, false, if◌then◌else◌, List, [], length, Option, Some, None}
use Rattle.sd_base.specs.declared.Why.{Why}
use Rattle.sd_base.specs.declared.Why.TheVariants as whys
use Rattle.sd_rules.specs.declared.keys.Key.{Key}
use Rattle.sd_rules.specs.declared.records.Record.{Record}
use Rattle.sd_rules.specs.declared.records.Record.TheVariants as records
use Rattle.sd_rules.specs.declared.tasks.Bound.{Bound}
use Rattle.sd_rules.specs.declared.tasks.Bound.TheVariants as bounds
use Rattle.sd_rules.specs.declared.tasks.Fetched.{Fetched}
use Rattle.sd_rules.specs.declared.tasks.Fetched.TheVariants as fetches
use Rattle.sd_rules.specs.Scripts.{is_out_of_memory, is_bind_out_of_memory}
use Rattle.sd_conf.specs.declared.config.Config.{Config}
use Rattle.sd_ldap.specs.declared.entry.DirEntry.{DirEntry}
use Rattle.sd_ldap.specs.Values.{SearchValue}
use Rattle.sd_dial.specs.Entries.{Framing, shortest, four_octets, Behind}
use Rattle.sd_client.specs.Talk.{Talk, bind_message, search_message}
use Rattle.sd_asking.specs.Sizes.{content_size, is_too_long}
use Rattle.sd_asking.specs.Binding.{ToldBound, code, failed, told_bind}
use Rattle.sd_fetch.specs.Searches.{first_search}
use Rattle.sd_fetch.specs.Lookup.{looked_up}
use Rattle.sd_fetch.specs.Told.{searches_of, first_failure}
use Rattle.sd_stub.specs.declared.Mode.{Mode}
use Rattle.sd_stub.specs.declared.Mode.TheVariants as modes
use Rattle.sd_stub_link.specs.Standing.{Standing}

-- a directory's entries behind a framing
abbrev pub behind_in : Framing → List DirEntry → Behind
behind_in framing entries = record { entries = entries; framing = framing }

-- a code is a number of four octets
abbrev pub HasCode : Mode → Type 0
HasCode modes.Up = Unit {0}
HasCode modes.Down = Unit {0}
HasCode modes.Cut = Unit {0}
HasCode modes.Indef = Unit {0}
HasCode modes.Long = Unit {0}
HasCode (modes.Code result) = result < 2 ^ 32

-- ---- binds

abbrev pub bound_told : ToldBound → Bound
bound_told (code result) = bounds.Code result
bound_told (failed why) = bounds.Failed why

-- the server reads no bind of more than 16 MiB, and nothing comes
abbrev pub where_bind_read : List ℕ → List ℕ → Bound → Bound
where_bind_read dn password bound = if is_too_long (content_size (bind_message 1 dn password)) then bounds.Failed whys.Link else bound

-- The bind at a server whose directory has exactly these entries. One that is down takes no link, one that is
-- cut ends it before a reply is whole, and an outer length that is indefinite makes no message.
unfoldable pub bound_in : Mode → List DirEntry → List ℕ → List ℕ → Bound
bound_in modes.Up entries dn password = bound_told (told_bind (behind_in shortest entries) 0 1 dn password)
bound_in modes.Long entries dn password = bound_told (told_bind (behind_in four_octets entries) 0 1 dn password)
bound_in modes.Down entries dn password = bounds.Failed whys.Link
bound_in modes.Cut entries dn password = bounds.Failed whys.Link
bound_in modes.Indef entries dn password = where_bind_read dn password (bounds.Failed (whys.Bytes 1))
bound_in (modes.Code result) entries dn password = where_bind_read dn password (bounds.Code result)

-- ---- lookups

abbrev pub fetched_told : Option Why → Fetched → Fetched
fetched_told (Some why) found = fetches.Failed why
fetched_told None found = found

-- the lookup over the directory told, where no search meets a limit
abbrev pub fetched_behind : Behind → Config → Key → Fetched
fetched_behind behind config key = fetched_told (first_failure behind 0 1 (searches_of config behind.entries key)) (looked_up config behind.entries key)

-- the server reads no search of more than 16 MiB, and nothing comes
abbrev pub where_search_read : ℕ → SearchValue → Fetched → Fetched
where_search_read id search fetched = if is_too_long (content_size (search_message id search)) then fetches.Failed whys.Link else fetched

-- codes of a search that came to no entries: success and no such object (RFC 4511 appendix A)
abbrev pub is_empty_code : ℕ → Bool
is_empty_code result = (result == 0) || (result == 32)

-- a code of a server that is busy or unavailable (RFC 4511 appendix A)
abbrev pub is_server_code : ℕ → Bool
is_server_code result = (result == 51) || (result == 52)

abbrev pub fetched_coded : Config → Key → ℕ → Fetched
fetched_coded config key result =
    if is_empty_code result then looked_up config [] key
    else if is_server_code result then fetches.Failed (whys.Code result)
    else fetches.Refused result

-- The lookup at a server whose directory has exactly these entries.
unfoldable pub fetched_in : Mode → Config → List DirEntry → Key → Fetched
fetched_in modes.Up config entries key = fetched_behind (behind_in shortest entries) config key
fetched_in modes.Long config entries key = fetched_behind (behind_in four_octets entries) config key
fetched_in modes.Down config entries key = fetches.Failed whys.Link
fetched_in modes.Cut config entries key = fetches.Failed whys.Link
fetched_in modes.Indef config entries key = where_search_read 1 (first_search config key) (fetches.Failed (whys.Bytes 1))
fetched_in (modes.Code result) config entries key = where_search_read 1 (first_search config key) (fetched_coded config key result)

-- ---- lookups that give nothing

abbrev pub is_empty_mode : Mode → Bool
is_empty_mode modes.Up = false
is_empty_mode modes.Down = false
is_empty_mode modes.Cut = false
is_empty_mode modes.Indef = false
is_empty_mode modes.Long = false
is_empty_mode (modes.Code result) = is_empty_code result

abbrev pub has_nothing : Record → Bool
has_nothing (records.Rules book) = (length book.rules == 0) && (length book.services == 0)
has_nothing _ = false

-- what a directory of no entries may give: absence, or no access rules and no services
abbrev pub gives_nothing : Fetched → Bool
gives_nothing (fetches.Found found) = has_nothing found
gives_nothing fetches.Absent = true
gives_nothing _ = false

-- ---- what a call over a client comes to

-- the client failed by its link, which found no memory
abbrev pub IsStarved : Talk Standing → Type 0
IsStarved talk = (talk.failed ≡ Some whys.Link) × (talk.link.starved ≡ true)

-- a bind came to what the server of a mode says, or memory was wanting
abbrev pub BindComesTo : Mode → List DirEntry → List ℕ → List ℕ → Bound → Talk Standing → Type 0
BindComesTo mode entries dn password result talk = (is_bind_out_of_memory result ≡ true) ⊎ (IsStarved talk ⊎ (result ≡ bound_in mode entries dn password))

-- a lookup came to what the server of a mode says, or memory was wanting; or it gave something where each search is to
-- give no entries
abbrev pub LookupComesTo : Mode → Config → List DirEntry → Key → Fetched → Talk Standing → Type 0
LookupComesTo mode config entries key result talk =
    ((is_empty_mode mode ≡ true) × (gives_nothing result ≡ false))
    ⊎ ((is_out_of_memory result ≡ true) ⊎ (IsStarved talk ⊎ (result ≡ fetched_in mode config entries key)))
