-- What a lookup searches once its first search came to entries.
use Rattle.std.specs.Prelude.{◌≡◌, ℕ, Bool, List, [], ◌∷◌, map, filter, length, Option, Some, None, Result, Ok, Err, IfOk}
use Rattle.std.specs.List.{list_all}
use Rattle.sd_dn.specs.Reading.{is_dn}
use Rattle.sd_dn.specs.Texts.{spelled}
use Rattle.sd_rules.specs.declared.keys.Key.{Key}
use Rattle.sd_rules.specs.declared.keys.Key.TheVariants as keys
use Rattle.sd_rules.specs.declared.tasks.Fetched.{Fetched}
use Rattle.sd_conf.specs.declared.config.Config.{Config}
use Rattle.sd_ldap.specs.declared.entry.DirEntry.{DirEntry}
use Rattle.sd_ldap.specs.Values.{SearchValue}
use Rattle.sd_dial.specs.Entries.{Behind}
use Rattle.sd_client.specs.Talk.{Talk}
use Rattle.sd_fetch.specs.declared.finding.Early.{Early}
use Rattle.sd_fetch.specs.Exchanging.{Telling, Exchange, Goes, IsQuiet}
use Rattle.sd_fetch.specs.Rounding.{EndsIn, SearchedOf, searches_in}
use Rattle.sd_fetch.specs.Lookup.{fits, found_as, one_of}
use Rattle.sd_fetch.specs.Told.{reads_of, holders_of, where_one}

-- the searches for the nested groups of an entry that fits
abbrev pub further_of : Config → Key → DirEntry → List DirEntry → List SearchValue
further_of config (keys.User name) e entries = []
further_of config (keys.Uid uid) e entries = []
further_of config (keys.Group name) e entries = reads_of config entries e
further_of config (keys.Gid gid) e entries = reads_of config entries e
further_of config (keys.GroupsOf name) e entries = holders_of config entries e
further_of config keys.Host e entries = []
further_of config keys.Rules e entries = []

-- the searches for the nested groups of entries that a search came to, where just one of them fits
abbrev pub further_among : Config → Key → List DirEntry → List DirEntry → List SearchValue
further_among config key given entries = where_one (λ e. further_of config key e entries) (filter (λ (e : DirEntry). fits config key e) given)

-- what the entries that a search came to are found as, among those of a directory
abbrev pub found_among : Config → Key → List DirEntry → List DirEntry → Fetched
found_among config key given entries = one_of (λ e. found_as config key entries e) (filter (λ (e : DirEntry). fits config key e) given)

-- Searches over a client. Where the link tells the directory behind it, and the client is settled, they are
-- those due.
pub record Further {L : Type 0} (t : Telling L) (old new : Talk L) (early : Option Early) (due : List DirEntry → List SearchValue) : Type 0 where
  pub exchanges : List Exchange
  pub in_order : Goes t old exchanges new
  pub ends : EndsIn early exchanges
  pub searched : (b : Behind) → t.behind old.link ≡ Some b → IsQuiet t old → SearchedOf early (searches_in exchanges) (due b.entries)

-- all DNs are DNs
abbrev pub have_dns : List DirEntry → Bool
have_dns entries = list_all (λ (e : DirEntry). is_dn e.dn) entries
