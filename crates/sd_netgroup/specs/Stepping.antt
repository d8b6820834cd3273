-- The rounds of the code, one search after the other.
use Rattle.std.specs.Prelude.{◌≡◌, ◌≢◌, ◌⊎◌, ℕ, Bool, true, false, ◌||◌, List, [], length, slice_get, Option, Some, None, Result, Ok, Err, IfOk}
use Rattle.std.specs.List.{flat_map}
use Rattle.std.specs.List.Sorted.{IsStrictlySortedBy}
use Rattle.sd_ldap.specs.declared.entry.DirEntry.{DirEntry}
use Rattle.sd_dial.specs.declared.searched.Searched.{Searched}
use Rattle.sd_dial.specs.declared.searched.Searched.TheVariants as searches
use Rattle.sd_client.specs.Talk.{Talk}
use Rattle.sd_nested.specs.declared.searcher.Stop.{Stop}
use Rattle.sd_nested.specs.declared.searcher.Stop.TheVariants as stops
use Rattle.sd_nested.specs.Directions.{HandsOn}
use Rattle.sd_fetch.specs.Exchanging.{Telling, Went, Goes, Gave, AllGave}
use Rattle.sd_triples.specs.Order.{triple_cmp}
use Rattle.sd_netgroup.specs.declared.finds.Finds.{Finds}
use Rattle.sd_netgroup.specs.declared.asking.Netted.{Netted}
use Rattle.sd_netgroup.specs.declared.asking.Netted.TheVariants as nets
use Rattle.sd_netgroup.specs.Named.{members_of, texts_of, spelled_by}
use Rattle.sd_netgroup.specs.Order.{with_triples}
use Rattle.sd_netgroup.specs.Rounds.{with_names, Course, beginning, is_some}
use Rattle.sd_netgroup.specs.Searches.{net_search}
use Rattle.sd_netgroup.specs.Asking.{Query, exchange_of, exchanges_of, called_by, course_by, AreDue, EndsBy, IsWhole}

-- a search for a name, and what is made of what it came to
pub record Heard {L : Type 0} (t : Telling L) (base name : List ℕ) (old : Talk L) (result : Result (List DirEntry) Stop) (new : Talk L) : Type 0 where
  pub searched : Searched
  pub went : Went t old (record { search = net_search base name; searched = searched }) new
  pub hands : HandsOn result searched

-- the same, or memory was wanting before the search
abbrev pub Tried : {L : Type 0} → Telling L → List ℕ → List ℕ → Talk L → Result (List DirEntry) Stop → Talk L → Type 0
Tried t base name old result new = Heard t base name old result new ⊎ ((result ≡ Err stops.Memory) × (new ≡ old))

-- what was found so far, by the course
pub record Shows (finds : Finds) (c : Course) : Type 0 where
  pub names : finds.names.keys ≡ c.names
  pub triples : finds.triples.keys ≡ with_triples [] (spelled_by (flat_map texts_of c.found))
  pub some : finds.is_some ≡ is_some c.found

-- netgroups were taken
pub record Takes (old : Finds) (found : List DirEntry) (new : Finds) : Type 0 where
  pub names : new.names.keys ≡ with_names old.names.keys (flat_map members_of found)
  pub triples : new.triples.keys ≡ with_triples old.triples.keys (spelled_by (flat_map texts_of found))
  pub some : new.is_some ≡ (old.is_some || is_some found)

-- a search ended the rounds
abbrev pub EndsAs : Stop → Searched → Type 0
EndsAs (stops.Code code) searched = (code ≢ 0) × (code ≢ 32) × (searched ≡ searches.Code code)
EndsAs (stops.Failed why) searched = searched ≡ searches.Failed why
EndsAs stops.Memory searched = Unit {0}

-- the name at a place was asked for
pub record AskedFor {L : Type 0} (t : Telling L) (base : List ℕ) (names : List (List ℕ)) (place : ℕ) (old new : Talk L) : Type 0 where
  pub query : Query
  pub due : slice_get names place ≡ Some query.name
  pub went : Went t old (exchange_of base query) new

-- One step: no name is left; or the next was asked for, and what was found was taken; or it stopped.
abbrev pub Steps : {L : Type 0} → Telling L → List ℕ → ℕ → Finds → Talk L → Result Bool Stop → Finds → Talk L → Type 0
Steps t base place finds old (Ok true) finds' new = (a : AskedFor t base finds.names.keys place old new) × Gave a.query.searched × Takes finds (called_by a.query) finds'
Steps t base place finds old (Ok false) finds' new = (slice_get finds.names.keys place ≡ None) × (finds' ≡ finds) × (new ≡ old)
Steps t base place finds old (Err stop) finds' new = ((a : AskedFor t base finds.names.keys place old new) × EndsAs stop a.query.searched) ⊎ ((stop ≡ stops.Memory) × (new ≡ old))

-- the rounds so far
pub record Going {L : Type 0} (t : Telling L) (base name : List ℕ) (place : ℕ) (finds : Finds) (old new : Talk L) : Type 0 where
  pub queries : List Query
  pub in_order : Goes t old (exchanges_of base queries) new
  pub gave : AllGave (exchanges_of base queries)
  pub due : AreDue (beginning name) 0 queries
  pub count : length queries ≡ place
  pub shows : Shows finds (course_by (beginning name) queries)

abbrev pub stop_in : {X : Type 0} → Result X Stop → Option Stop
stop_in (Ok x) = None
stop_in (Err stop) = Some stop

-- all rounds
pub record Gathered {L : Type 0} (t : Telling L) (base name : List ℕ) (old : Talk L) (result : Result Finds Stop) (new : Talk L) : Type 0 where
  pub queries : List Query
  pub in_order : Goes t old (exchanges_of base queries) new
  pub due : AreDue (beginning name) 0 queries
  pub ends : EndsBy (stop_in result) (exchanges_of base queries)
  pub shows : IfOk result (λ finds. Shows finds (course_by (beginning name) queries) × IsWhole (course_by (beginning name) queries) (length queries))

-- what a netgroup comes to once all rounds are over
abbrev pub NettedBy : Finds → Netted → Type 0
NettedBy finds (nets.Found triples) = (finds.is_some ≡ true) × (triples ≡ finds.triples.keys) × IsStrictlySortedBy triple_cmp triples
NettedBy finds nets.Absent = finds.is_some ≡ false
NettedBy finds (nets.Code code) = ⊥
NettedBy finds (nets.Failed why) = ⊥
NettedBy finds nets.Memory = Unit {0}

abbrev pub netted_of : Stop → Netted
netted_of (stops.Code code) = nets.Code code
netted_of (stops.Failed why) = nets.Failed why
netted_of stops.Memory = nets.Memory
