-- What was asked for a netgroup, over any link, and what came of it.
use Rattle.std.specs.Prelude.{◌≡◌, ◌≢◌, ℕ, suc, ◌≤◌, true, false, List, [], ◌∷◌, map, length, slice_get, Option, Some, None}
use Rattle.std.specs.List.{flat_map}
use Rattle.std.specs.List.Sorted.{IsStrictlySortedBy}
use Rattle.sd_ldap.specs.declared.entry.DirEntry.{DirEntry}
use Rattle.sd_dial.specs.declared.searched.Searched.{Searched}
use Rattle.sd_dial.specs.declared.searched.Searched.TheVariants as searches
use Rattle.sd_client.specs.Talk.{Talk}
use Rattle.sd_nested.specs.declared.searcher.Stop.{Stop}
use Rattle.sd_nested.specs.declared.searcher.Stop.TheVariants as stops
use Rattle.sd_fetch.specs.Exchanging.{Telling, Exchange, Goes, AllGave, IsLast}
use Rattle.sd_fetch.specs.Looked.{given_of}
use Rattle.sd_triples.specs.declared.triples.Triple.{Triple}
use Rattle.sd_triples.specs.Grammar.{Spells}
use Rattle.sd_triples.specs.Order.{triple_cmp}
use Rattle.sd_netgroup.specs.declared.asking.Netted.{Netted}
use Rattle.sd_netgroup.specs.declared.asking.Netted.TheVariants as nets
use Rattle.sd_netgroup.specs.Named.{texts_of}
use Rattle.sd_netgroup.specs.Paths.{In}
use Rattle.sd_netgroup.specs.Searches.{net_search}
use Rattle.sd_netgroup.specs.Rounds.{Course, beginning, further, called_in, is_some}

-- a name asked for, and what the search came to
pub record Query : Type 0 where
  pub name : List ℕ
  pub searched : Searched

abbrev pub exchange_of : List ℕ → Query → Exchange
exchange_of base q = record { search = net_search base q.name; searched = q.searched }

abbrev pub exchanges_of : List ℕ → List Query → List Exchange
exchanges_of base queries = map (exchange_of base) queries

-- the netgroups of the name among the entries that came
abbrev pub called_by : Query → List DirEntry
called_by q = called_in q.name (given_of q.searched)

-- where queries lead on to
abbrev pub course_by : Course → List Query → Course
course_by c [] = c
course_by c (q ∷ qs) = course_by (further c (called_by q)) qs

-- each query is for the next name
abbrev pub AreDue : Course → ℕ → List Query → Type 0
AreDue c place [] = Unit {0}
AreDue c place (q ∷ qs) = (slice_get c.names place ≡ Some q.name) × AreDue (further c (called_by q)) (suc place) qs

-- How the searches ended: all came to entries, or to code 32, no such object, which counts as none; or the last
-- came to what the stop carries. A code is neither 0 nor 32. Memory may be wanting at any point.
abbrev pub EndsBy : Option Stop → List Exchange → Type 0
EndsBy None exchanges = AllGave exchanges
EndsBy (Some (stops.Code code)) exchanges = (code ≢ 0) × (code ≢ 32) × IsLast (searches.Code code) exchanges
EndsBy (Some (stops.Failed why)) exchanges = IsLast (searches.Failed why) exchanges
EndsBy (Some stops.Memory) exchanges = Unit {0}

abbrev pub stop_of : Netted → Option Stop
stop_of (nets.Found triples) = None
stop_of nets.Absent = None
stop_of (nets.Code code) = Some (stops.Code code)
stop_of (nets.Failed why) = Some (stops.Failed why)
stop_of nets.Memory = Some stops.Memory

-- the triples that texts spell, in order, each once; a text that spells none is passed over
pub record AreSpelled (texts : List (List ℕ)) (triples : List Triple) : Type 0 where
  pub ordered : IsStrictlySortedBy triple_cmp triples
  pub sound : (t : Triple) → In t triples → (text : List ℕ) × In text texts × Spells text t
  pub complete : (text : List ℕ) (t : Triple) → In text texts → Spells text t → In t triples

-- no name is left
abbrev pub IsWhole : Course → ℕ → Type 0
IsWhole c asked = length c.names ≤ asked

-- The triples are those of the netgroups found. Where none was found, none is of the name.
abbrev pub Gives : Course → ℕ → Netted → Type 0
Gives c asked (nets.Found triples) = IsWhole c asked × (is_some c.found ≡ true) × AreSpelled (flat_map texts_of c.found) triples
Gives c asked nets.Absent = IsWhole c asked × (is_some c.found ≡ false)
Gives c asked (nets.Code code) = Unit {0}
Gives c asked (nets.Failed why) = Unit {0}
Gives c asked nets.Memory = Unit {0}

-- what was asked over a client, each name once, in the order in which they were found, and how it came to its result
pub record Asked {L : Type 0} (t : Telling L) (base name : List ℕ) (old : Talk L) (result : Netted) (new : Talk L) : Type 0 where
  pub queries : List Query
  pub in_order : Goes t old (exchanges_of base queries) new
  pub due : AreDue (beginning name) 0 queries
  pub ends : EndsBy (stop_of result) (exchanges_of base queries)
  pub gives : Gives (course_by (beginning name) queries) (length queries) result
