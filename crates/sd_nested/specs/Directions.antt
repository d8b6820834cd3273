-- The two directions: from groups to their members, and from members to the groups that hold them.
use Rattle.std.specs.Prelude.{◌≡◌, ◌≢◌, ℕ, suc, Bool, true, if◌then◌else◌, List, [], ◌∷◌, map, None, Result, Ok, Err, codes}
use Rattle.std.specs.List.{flat_map}
use Rattle.sd_dn.specs.declared.Pair.{Pair}
use Rattle.sd_dn.specs.Comparing.{ends_with}
use Rattle.sd_ldap.specs.declared.entry.DirEntry.{DirEntry}
use Rattle.sd_ldap.specs.Values.{SearchValue}
use Rattle.sd_match.specs.Answering.{found, sent}
use Rattle.sd_entry.specs.Values.{first_of}
use Rattle.sd_entry.specs.Users.{is_user}
use Rattle.sd_dial.specs.declared.searched.Searched.{Searched}
use Rattle.sd_dial.specs.declared.searched.Searched.TheVariants as searches
use Rattle.sd_rules.specs.declared.records.GroupRef.{GroupRef}
use Rattle.sd_nested.specs.declared.searcher.Stop.{Stop}
use Rattle.sd_nested.specs.declared.searcher.Stop.TheVariants as stops
use Rattle.sd_nested.specs.declared.rounds.Direction.{Direction}
use Rattle.sd_nested.specs.declared.rounds.Direction.TheVariants as directions
use Rattle.sd_nested.specs.Searches.{Question, entry_at, holders_of, read_search, holder_search}
use Rattle.sd_nested.specs.Named.{group_values, called, group_ref}
use Rattle.sd_nested.specs.Rounds.{Way, Rounds, rounds, beginning, member_way, holder_way}

abbrev pub question_by : Direction → List ℕ → Question
question_by (directions.Members base) dn = entry_at dn
question_by directions.Holders dn = holders_of dn

-- the search for a DN, under the base of the searcher
abbrev pub search_by : Direction → List ℕ → List ℕ → SearchValue
search_by (directions.Members own) base dn = read_search dn
search_by directions.Holders base dn = holder_search base dn

abbrev pub admits_by : Direction → List (List Pair) → Bool
admits_by (directions.Members base) dn = ends_with dn base
admits_by directions.Holders dn = true

abbrev pub leads_by : Direction → DirEntry → List (List ℕ)
leads_by (directions.Members base) e = group_values e
leads_by directions.Holders e = e.dn ∷ []

-- a user by the first uid
abbrev pub user_ref : DirEntry → List GroupRef
user_ref e = if is_user e.attributes then called (first_of (codes "uid") e.attributes) None else []

-- what is kept of an entry found
abbrev pub kept_by : Direction → DirEntry → List GroupRef
kept_by (directions.Members base) e = user_ref e
kept_by directions.Holders e = group_ref e

abbrev pub way_by : List DirEntry → List ℕ → Direction → Way
way_by entries base (directions.Members own) = member_way entries own
way_by entries base directions.Holders = holder_way entries base

-- ---- over told entries

-- what the search for a DN gives: the entries found, as they are sent
abbrev pub given_by : List DirEntry → List ℕ → Direction → List ℕ → List DirEntry
given_by told base direction dn = map (sent (search_by direction base dn)) (found told (search_by direction base dn))

-- the entries found in a round that asks these DNs
abbrev pub found_in : List DirEntry → List ℕ → Direction → List (List ℕ) → List DirEntry
found_in told base direction due = flat_map (way_by told base direction).answers due

-- what a round keeps of the entries that it finds
abbrev pub kept_in : List DirEntry → List ℕ → Direction → List (List ℕ) → List GroupRef
kept_in told base direction due = flat_map (kept_by direction) (found_in told base direction due)

-- which texts the entries that a round finds lead on to
abbrev pub leads_in : List DirEntry → List ℕ → Direction → List (List ℕ) → List (List ℕ)
leads_in told base direction due = flat_map (leads_by direction) (found_in told base direction due)

-- level + 1 rounds, where these DNs were met, and the first round asks those
abbrev pub rounds_by : List DirEntry → List ℕ → Direction → List (List (List Pair)) → List (List ℕ) → ℕ → Rounds
rounds_by told base direction seen first level = rounds (way_by told base direction) (beginning seen first) (suc level)

-- what all these rounds ask
abbrev pub asked_by : List DirEntry → List ℕ → Direction → List (List (List Pair)) → List (List ℕ) → ℕ → List Question
asked_by told base direction seen first level = map (question_by direction) (rounds_by told base direction seen first level).asked

-- what all these rounds keep
abbrev pub kept_of : List DirEntry → List ℕ → Direction → List (List (List Pair)) → List (List ℕ) → ℕ → List GroupRef
kept_of told base direction seen first level = flat_map (kept_by direction) (rounds_by told base direction seen first level).found

-- what a search came to is handed on: entries, or a stop
abbrev pub HandsOn : Result (List DirEntry) Stop → Searched → Type 0
HandsOn (Ok given) (searches.Entries entries) = given ≡ entries
HandsOn (Ok given) (searches.Code code) = (code ≡ 32) × (given ≡ [])
HandsOn (Ok given) (searches.Failed why) = ⊥
HandsOn (Ok given) searches.Memory = ⊥
HandsOn (Err (stops.Code code)) searched = (searched ≡ searches.Code code) × (code ≢ 32)
HandsOn (Err (stops.Failed why)) searched = searched ≡ searches.Failed why
HandsOn (Err stops.Memory) searched = searched ≡ searches.Memory
